-- Traces that another program made, with what it tells of them, computed from the definitions. Made by `cases/rows.py`.
use Rattle.std.proofs.Common.{◌≡◌, true, false, List, [], ◌∷◌, Some, None, codes, refl}
use Rattle.std.specs.Prelude.{pos}
use Rattle.std.specs.Fmt.{digits}
use Rattle.std.specs.Str.{is_utf8, chars}
use lib.Utf8.{encode}
use Rattle.cy_event.specs.declared.framing.Framing.TheVariants as framing
use Rattle.cy_event.specs.declared.limits.Limits.{Limits}
use Rattle.cy_event.specs.declared.steps.Call.TheVariants as call
use Rattle.cy_event.specs.declared.steps.Job.TheVariants as job
use Rattle.cy_event.specs.declared.steps.State.TheVariants as state
use Rattle.cy_event.specs.Answers.{head_text}
use Rattle.cy_event.specs.Dates.{date_at, count_off}
use Rattle.cy_event.specs.Framings.{framed}
use Rattle.cy_event.specs.Heads.{is_name_byte, trimmed, front_length, whole_head, host_fits, head_of}
use Rattle.cy_event.specs.Targets.{target_of}
use Rattle.cy_map.specs.declared.rule.Rule.{Rule}
use Rattle.cy_model.specs.Jobs.{next_job}
use Rattle.cy_model.specs.Marks.{Trace, output_side, opened, came, sent, began, called, started, parked, back, given, listened, timeout_set, read_listener_set, write_listener_set, length_set, put}
use Rattle.cy_model.specs.Settling.{settled}
use Rattle.cy_model.specs.Ticks.{tick_move}
use Rattle.cy_model.specs.Verdicts.{verdict_of}
use Rattle.cy_rows.specs.Told.{answer_told, connection_told, open_told, request_told}

abbrev trace_126_limits : Limits
trace_126_limits = record { max_connections = 256; max_head = 8192; max_fields = 100; max_keep_alive = pos 100; connection_timeout = 20000; async_timeout = 20; max_swallow = 2097152; max_trailer = 8192; parts = 4 }

abbrev trace_126_rules : List Rule
trace_126_rules = record { pattern = (codes "/"); part = 0; can_async = true } ∷ record { pattern = (codes "*.do"); part = 3; can_async = false } ∷ record { pattern = (codes "/a/*"); part = 2; can_async = false } ∷ record { pattern = (codes "/x/*"); part = 2; can_async = false } ∷ []

abbrev trace_126_01 : Trace
trace_126_01 = (0, opened) ∷ []

abbrev trace_126_02 : Trace
trace_126_02 = (0, came []) ∷ trace_126_01

abbrev trace_126_04 : Trace
trace_126_04 = (0, began (record { place = 0; size = 32; head = record { method = (codes "GET"); target = (codes "/"); minor = 1; fields = record { name = (codes "Host"); value = (codes "a.b%41") } ∷ [] }; framing = framing.None; max_trailer = 8192; async_timeout = 20; part = 0; can_async = true; keep = true; go_on = false })) ∷ (0, came (codes "GET / HTTP/1.1\r\nHost: a.b%41\r\n\r\n")) ∷ trace_126_02

abbrev trace_126_05 : Trace
trace_126_05 = (0, called call.Run None) ∷ (0, started (job.Service 0)) ∷ trace_126_04

abbrev trace_126_06 : Trace
trace_126_06 = (0, called call.Start None) ∷ trace_126_05

abbrev trace_126_07 : Trace
trace_126_07 = (0, write_listener_set) ∷ trace_126_06

abbrev trace_126_08 : Trace
trace_126_08 = (0, listened 67) ∷ trace_126_07

abbrev trace_126_09 : Trace
trace_126_09 = (0, read_listener_set) ∷ trace_126_08

abbrev trace_126_11 : Trace
trace_126_11 = (0, length_set 2) ∷ trace_126_09

abbrev trace_126_12 : Trace
trace_126_12 = (0, called call.Return None) ∷ (0, back) ∷ trace_126_11

abbrev trace_126_13 : Trace
trace_126_13 = (0, called call.Run None) ∷ (0, started job.AllRead) ∷ trace_126_12

abbrev trace_126_14 : Trace
trace_126_14 = (0, put (codes "\r\r")) ∷ trace_126_13

trace_126-connection : connection_told trace_126_14
    ≡ record {
      came = 32;
      consumed = 32;
      room = 16384;
      has_ended = false;
      cause = None;
      is_broken = false;
      is_gone = false;
      is_open = true;
      begun = 1;
      output = [];
      took = 0;
      unsent = 0;
      idle_since = 0;
      next_job = None;
      charts = (call.Run ∷ call.Start ∷ call.Return ∷ call.Run ∷ []) ∷ [];
    }
unfolding head_text digits date_at count_off is_name_byte
trace_126-connection = refl

trace_126-request : request_told trace_126_14
    ≡ record {
      part = 0;
      state = state.ReadWriteOp;
      running = (Some job.AllRead);
      parked = None;
      given = 0;
      is_end_told = false;
      waiting = 0;
      used = 0;
      swallowed = 0;
      has_whole_body = true;
      has_bad_body = false;
      listeners = 67 ∷ [];
      owed = [];
      deadline = (Some 20);
      ready = record { read_set = true; read_armed = true; all_read_told = true; write_set = true; write_armed = true };
    }
unfolding is_name_byte
trace_126-request = refl

trace_126-answer : answer_told trace_126_14
    ≡ record {
      status = 200;
      fields = [];
      set_length = (Some 2);
      content = 2;
      is_aborted = false;
    }
unfolding digits
trace_126-answer = refl

trace_126-open : open_told trace_126_14
    ≡ record {
      is_committed = false;
      takes_one = true;
      has_to_cut = true;
    }
unfolding head_text digits date_at count_off is_name_byte
trace_126-open = refl

trace_126-01-settled : settled trace_126_limits trace_126_rules 0 ((0, opened) ∷ [])
    ≡ trace_126_01
unfolding settled head_text digits date_at count_off is_name_byte trimmed front_length whole_head host_fits head_of verdict_of target_of framed is_utf8 chars encode
trace_126-01-settled = refl

trace_126-02-settled : settled trace_126_limits trace_126_rules 0 ((0, came []) ∷ trace_126_01)
    ≡ trace_126_02
unfolding settled head_text digits date_at count_off is_name_byte trimmed front_length whole_head host_fits head_of verdict_of target_of framed is_utf8 chars encode
trace_126-02-settled = refl

trace_126-04-settled : settled trace_126_limits trace_126_rules 0 ((0, came (codes "GET / HTTP/1.1\r\nHost: a.b%41\r\n\r\n")) ∷ trace_126_02)
    ≡ trace_126_04
unfolding settled head_text digits date_at count_off is_name_byte trimmed front_length whole_head host_fits head_of verdict_of target_of framed is_utf8 chars encode
trace_126-04-settled = refl

trace_126-05-next : next_job (trace_126_04)
    ≡ (Some (job.Service 0))
unfolding head_text digits date_at count_off is_name_byte
trace_126-05-next = refl

trace_126-06-settled : settled trace_126_limits trace_126_rules 0 ((0, called call.Start None) ∷ trace_126_05)
    ≡ trace_126_06
unfolding settled head_text digits date_at count_off is_name_byte trimmed front_length whole_head host_fits head_of verdict_of target_of framed is_utf8 chars encode
trace_126-06-settled = refl

trace_126-07-settled : settled trace_126_limits trace_126_rules 0 ((0, write_listener_set) ∷ trace_126_06)
    ≡ trace_126_07
unfolding settled head_text digits date_at count_off is_name_byte trimmed front_length whole_head host_fits head_of verdict_of target_of framed is_utf8 chars encode
trace_126-07-settled = refl

trace_126-08-settled : settled trace_126_limits trace_126_rules 0 ((0, listened 67) ∷ trace_126_07)
    ≡ trace_126_08
unfolding settled head_text digits date_at count_off is_name_byte trimmed front_length whole_head host_fits head_of verdict_of target_of framed is_utf8 chars encode
trace_126-08-settled = refl

trace_126-09-settled : settled trace_126_limits trace_126_rules 0 ((0, read_listener_set) ∷ trace_126_08)
    ≡ trace_126_09
unfolding settled head_text digits date_at count_off is_name_byte trimmed front_length whole_head host_fits head_of verdict_of target_of framed is_utf8 chars encode
trace_126-09-settled = refl

trace_126-11-settled : settled trace_126_limits trace_126_rules 0 ((0, length_set 2) ∷ trace_126_09)
    ≡ trace_126_11
unfolding settled head_text digits date_at count_off is_name_byte trimmed front_length whole_head host_fits head_of verdict_of target_of framed is_utf8 chars encode
trace_126-11-settled = refl

trace_126-12-settled : settled trace_126_limits trace_126_rules 0 ((0, called call.Return None) ∷ (0, back) ∷ trace_126_11)
    ≡ trace_126_12
unfolding settled head_text digits date_at count_off is_name_byte trimmed front_length whole_head host_fits head_of verdict_of target_of framed is_utf8 chars encode
trace_126-12-settled = refl

trace_126-13-next : next_job (trace_126_12)
    ≡ (Some job.AllRead)
unfolding head_text digits date_at count_off is_name_byte
trace_126-13-next = refl

trace_126-14-settled : settled trace_126_limits trace_126_rules 0 ((0, put (codes "\r\r")) ∷ trace_126_13)
    ≡ trace_126_14
unfolding settled head_text digits date_at count_off is_name_byte trimmed front_length whole_head host_fits head_of verdict_of target_of framed is_utf8 chars encode
trace_126-14-settled = refl

abbrev trace_127_limits : Limits
trace_127_limits = record { max_connections = 3; max_head = 8192; max_fields = 100; max_keep_alive = pos 100; connection_timeout = 20000; async_timeout = 0; max_swallow = 0; max_trailer = 8192; parts = 3 }

abbrev trace_127_rules : List Rule
trace_127_rules = record { pattern = (codes "/"); part = 0; can_async = true } ∷ record { pattern = (codes "/a"); part = 1; can_async = true } ∷ record { pattern = (codes "/x/*"); part = 2; can_async = false } ∷ []

abbrev trace_127_01 : Trace
trace_127_01 = (0, opened) ∷ []

abbrev trace_127_03 : Trace
trace_127_03 = (0, began (record { place = 0; size = 54; head = record { method = (codes "HEAD"); target = (codes "/"); minor = 1; fields = record { name = (codes "Host"); value = [] } ∷ record { name = (codes "transfer-encoding"); value = (codes "chunked") } ∷ [] }; framing = framing.Chunked; max_trailer = 8192; async_timeout = 0; part = 0; can_async = true; keep = true; go_on = false })) ∷ (0, came (72 ∷ 69 ∷ 65 ∷ 68 ∷ 32 ∷ 47 ∷ 32 ∷ 72 ∷ 84 ∷ 84 ∷ 80 ∷ 47 ∷ 49 ∷ 46 ∷ 49 ∷ 13 ∷ 10 ∷ 72 ∷ 111 ∷ 115 ∷ 116 ∷ 58 ∷ 32 ∷ 13 ∷ 10 ∷ 116 ∷ 114 ∷ 97 ∷ 110 ∷ 115 ∷ 102 ∷ 101 ∷ 114 ∷ 45 ∷ 101 ∷ 110 ∷ 99 ∷ 111 ∷ 100 ∷ 105 ∷ 110 ∷ 103 ∷ 58 ∷ 99 ∷ 104 ∷ 117 ∷ 110 ∷ 107 ∷ 101 ∷ 100 ∷ 13 ∷ 10 ∷ 13 ∷ 10 ∷ 53 ∷ 9 ∷ 32 ∷ 59 ∷ 32 ∷ 122 ∷ 61 ∷ 34 ∷ 113 ∷ 34 ∷ 13 ∷ 10 ∷ 110 ∷ 108 ∷ 107 ∷ 111 ∷ 111 ∷ 13 ∷ 10 ∷ 97 ∷ 59 ∷ 101 ∷ 101 ∷ 101 ∷ 13 ∷ 10 ∷ 112 ∷ 111 ∷ 107 ∷ 111 ∷ 108 ∷ 110 ∷ 107 ∷ 108 ∷ 110 ∷ 111 ∷ 13 ∷ 10 ∷ 48 ∷ 13 ∷ 10 ∷ 13 ∷ 10 ∷ [])) ∷ trace_127_01

abbrev trace_127_04 : Trace
trace_127_04 = (0, came (codes "\n\r\nHEAD /a%20b;p=1/c HTTP/1.1\r\nHost: [::1]:80\r\n\r\n")) ∷ trace_127_03

abbrev trace_127_05 : Trace
trace_127_05 = (0, called call.Run None) ∷ (0, started (job.Service 0)) ∷ trace_127_04

abbrev trace_127_06 : Trace
trace_127_06 = (0, called call.Start None) ∷ trace_127_05

abbrev trace_127_07 : Trace
trace_127_07 = (0, timeout_set 86400000) ∷ trace_127_06

abbrev trace_127_08 : Trace
trace_127_08 = (0, parked output_side) ∷ trace_127_07

abbrev trace_127_12 : Trace
trace_127_12 = (20000, sent 0) ∷ trace_127_08

abbrev trace_127_13 : Trace
trace_127_13 = (20000, given 3) ∷ trace_127_12

abbrev trace_127_14 : Trace
trace_127_14 = (20000, sent 0) ∷ trace_127_13

trace_127-connection : connection_told trace_127_14
    ≡ record {
      came = 146;
      consumed = 69;
      room = 16307;
      has_ended = false;
      cause = None;
      is_broken = false;
      is_gone = false;
      is_open = true;
      begun = 1;
      output = [];
      took = 0;
      unsent = 0;
      idle_since = 0;
      next_job = (Some job.Resume);
      charts = (call.Run ∷ call.Start ∷ []) ∷ [];
    }
unfolding head_text digits date_at count_off is_name_byte
trace_127-connection = refl

trace_127-request : request_told trace_127_14
    ≡ record {
      part = 0;
      state = state.Starting;
      running = None;
      parked = (Some (record { side = output_side; since = 0 }));
      given = 3;
      is_end_told = false;
      waiting = 12;
      used = 15;
      swallowed = 0;
      has_whole_body = true;
      has_bad_body = false;
      listeners = [];
      owed = [];
      deadline = None;
      ready = record { read_set = false; read_armed = false; all_read_told = false; write_set = false; write_armed = false };
    }
unfolding is_name_byte
trace_127-request = refl

trace_127-answer : answer_told trace_127_14
    ≡ record {
      status = 200;
      fields = [];
      set_length = None;
      content = 0;
      is_aborted = false;
    }
unfolding digits
trace_127-answer = refl

trace_127-open : open_told trace_127_14
    ≡ record {
      is_committed = false;
      takes_one = true;
      has_to_cut = true;
    }
unfolding head_text digits date_at count_off is_name_byte
trace_127-open = refl

trace_127-01-settled : settled trace_127_limits trace_127_rules 0 ((0, opened) ∷ [])
    ≡ trace_127_01
unfolding settled head_text digits date_at count_off is_name_byte trimmed front_length whole_head host_fits head_of verdict_of target_of framed is_utf8 chars encode
trace_127-01-settled = refl

trace_127-04-settled : settled trace_127_limits trace_127_rules 0 ((0, came (codes "\n\r\nHEAD /a%20b;p=1/c HTTP/1.1\r\nHost: [::1]:80\r\n\r\n")) ∷ trace_127_03)
    ≡ trace_127_04
unfolding settled head_text digits date_at count_off is_name_byte trimmed front_length whole_head host_fits head_of verdict_of target_of framed is_utf8 chars encode
trace_127-04-settled = refl

trace_127-05-next : next_job (trace_127_04)
    ≡ (Some (job.Service 0))
unfolding head_text digits date_at count_off is_name_byte
trace_127-05-next = refl

trace_127-06-settled : settled trace_127_limits trace_127_rules 0 ((0, called call.Start None) ∷ trace_127_05)
    ≡ trace_127_06
unfolding settled head_text digits date_at count_off is_name_byte trimmed front_length whole_head host_fits head_of verdict_of target_of framed is_utf8 chars encode
trace_127-06-settled = refl

trace_127-07-settled : settled trace_127_limits trace_127_rules 0 ((0, timeout_set 86400000) ∷ trace_127_06)
    ≡ trace_127_07
unfolding settled head_text digits date_at count_off is_name_byte trimmed front_length whole_head host_fits head_of verdict_of target_of framed is_utf8 chars encode
trace_127-07-settled = refl

trace_127-08-settled : settled trace_127_limits trace_127_rules 0 ((0, parked output_side) ∷ trace_127_07)
    ≡ trace_127_08
unfolding settled head_text digits date_at count_off is_name_byte trimmed front_length whole_head host_fits head_of verdict_of target_of framed is_utf8 chars encode
trace_127-08-settled = refl

trace_127-09-tick : tick_move trace_127_limits 19999 trace_127_08
    ≡ None
unfolding head_text digits date_at count_off is_name_byte
trace_127-09-tick = refl

trace_127-11-tick : tick_move trace_127_limits 20000 trace_127_08
    ≡ None
unfolding head_text digits date_at count_off is_name_byte
trace_127-11-tick = refl

trace_127-12-settled : settled trace_127_limits trace_127_rules 20000 ((20000, sent 0) ∷ trace_127_08)
    ≡ trace_127_12
unfolding settled head_text digits date_at count_off is_name_byte trimmed front_length whole_head host_fits head_of verdict_of target_of framed is_utf8 chars encode
trace_127-12-settled = refl

trace_127-14-settled : settled trace_127_limits trace_127_rules 20000 ((20000, sent 0) ∷ trace_127_13)
    ≡ trace_127_14
unfolding settled head_text digits date_at count_off is_name_byte trimmed front_length whole_head host_fits head_of verdict_of target_of framed is_utf8 chars encode
trace_127-14-settled = refl
