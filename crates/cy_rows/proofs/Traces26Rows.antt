-- Traces that another program made, with what it tells of them, computed from the definitions. Made by `cases/rows.py`.
use Rattle.std.proofs.Common.{◌≡◌, true, false, List, [], ◌∷◌, Some, None, codes, refl}
use Rattle.std.specs.Prelude.{pos}
use Rattle.std.specs.Fmt.{digits}
use Rattle.std.specs.Str.{is_utf8, chars}
use lib.Utf8.{encode}
use Rattle.cy_event.specs.declared.framing.Framing.TheVariants as framing
use Rattle.cy_event.specs.declared.limits.Limits.{Limits}
use Rattle.cy_event.specs.declared.steps.Act.TheVariants as act
use Rattle.cy_event.specs.declared.steps.Call.TheVariants as call
use Rattle.cy_event.specs.declared.steps.CloseCause.TheVariants as cause
use Rattle.cy_event.specs.declared.steps.Job.TheVariants as job
use Rattle.cy_event.specs.declared.steps.Reply.TheVariants as reply
use Rattle.cy_event.specs.declared.steps.State.TheVariants as state
use Rattle.cy_event.specs.Answers.{head_text}
use Rattle.cy_event.specs.Dates.{date_at, count_off}
use Rattle.cy_event.specs.Framings.{framed}
use Rattle.cy_event.specs.Heads.{is_name_byte, trimmed, front_length, whole_head, host_fits, head_of}
use Rattle.cy_event.specs.Targets.{target_of}
use Rattle.cy_map.specs.declared.rule.Rule.{Rule}
use Rattle.cy_model.specs.Endings.{end_marks}
use Rattle.cy_model.specs.Entries.{on_act, reply_to}
use Rattle.cy_model.specs.Jobs.{next_job}
use Rattle.cy_model.specs.Marks.{Trace, input_side, output_side, opened, came, sent, began, called, started, parked, back, end_given, read_listener_set, status_set, length_set, put, flushed, over, caused}
use Rattle.cy_model.specs.Replies.{plain}
use Rattle.cy_model.specs.Settling.{settled}
use Rattle.cy_model.specs.Verdicts.{verdict_of}
use Rattle.cy_rows.specs.Told.{answer_told, connection_told, open_told, request_told}

abbrev trace_105_limits : Limits
trace_105_limits = record { max_connections = 1; max_head = 8192; max_fields = 100; max_keep_alive = pos 100; connection_timeout = 20000; async_timeout = 30000; max_swallow = 2097152; max_trailer = 8192; parts = 3 }

abbrev trace_105_rules : List Rule
trace_105_rules = record { pattern = (codes "/"); part = 0; can_async = true } ∷ record { pattern = (codes "/a"); part = 1; can_async = true } ∷ record { pattern = (codes "/x/*"); part = 2; can_async = false } ∷ []

abbrev trace_105_01 : Trace
trace_105_01 = (0, opened) ∷ []

abbrev trace_105_02 : Trace
trace_105_02 = (0, sent 0) ∷ trace_105_01

abbrev trace_105_03 : Trace
trace_105_03 = (0, began (record { place = 0; size = 31; head = record { method = (codes "POST"); target = (codes "/"); minor = 1; fields = record { name = (codes "Host"); value = (codes "a") } ∷ [] }; framing = framing.None; max_trailer = 8192; async_timeout = 30000; part = 0; can_async = true; keep = true; go_on = false })) ∷ (0, came (codes "\n\r\nPOST / HTTP/1.1\r\nHost: a\r\n\r\n")) ∷ trace_105_02

abbrev trace_105_04 : Trace
trace_105_04 = (0, came (71 ∷ 69 ∷ 84 ∷ 32 ∷ 47 ∷ 47 ∷ 97 ∷ 47 ∷ 47 ∷ 98 ∷ 47 ∷ 32 ∷ 72 ∷ 84 ∷ 84 ∷ 80 ∷ 47 ∷ 49 ∷ 46 ∷ 49 ∷ 13 ∷ 10 ∷ 72 ∷ 111 ∷ 115 ∷ 116 ∷ 58 ∷ 32 ∷ 97 ∷ 13 ∷ 10 ∷ 69 ∷ 120 ∷ 112 ∷ 101 ∷ 99 ∷ 116 ∷ 58 ∷ 32 ∷ 49 ∷ 48 ∷ 48 ∷ 45 ∷ 99 ∷ 111 ∷ 110 ∷ 116 ∷ 105 ∷ 110 ∷ 117 ∷ 101 ∷ 13 ∷ 10 ∷ 85 ∷ 116 ∷ 102 ∷ 58 ∷ 32 ∷ 195 ∷ 169 ∷ 13 ∷ 10 ∷ 13 ∷ 10 ∷ [])) ∷ trace_105_03

abbrev trace_105_05 : Trace
trace_105_05 = (0, called call.Run None) ∷ (0, started (job.Service 0)) ∷ trace_105_04

abbrev trace_105_06 : Trace
trace_105_06 = (0, length_set 2) ∷ trace_105_05

abbrev trace_105_07 : Trace
trace_105_07 = (0, status_set 599) ∷ trace_105_06

abbrev trace_105_08 : Trace
trace_105_08 = (0, parked output_side) ∷ trace_105_07

abbrev trace_105_09 : Trace
trace_105_09 = (0, started job.Resume) ∷ trace_105_08

abbrev trace_105_10 : Trace
trace_105_10 = (0, end_given) ∷ trace_105_09

abbrev trace_105_11 : Trace
trace_105_11 = (0, flushed) ∷ trace_105_10

abbrev trace_105_12 : Trace
trace_105_12 = (0, put (codes "\\")) ∷ trace_105_11

abbrev trace_105_15 : Trace
trace_105_15 = (0, parked input_side) ∷ trace_105_12

abbrev trace_105_16 : Trace
trace_105_16 = (0, started job.Resume) ∷ trace_105_15

abbrev trace_105_20 : Trace
trace_105_20 = (0, caused cause.ShortAnswer) ∷ (0, over) ∷ (0, called call.Return None) ∷ (0, back) ∷ trace_105_16

trace_105-connection : connection_told trace_105_20
    ≡ record {
      came = 95;
      consumed = 31;
      room = 16320;
      has_ended = false;
      cause = (Some cause.ShortAnswer);
      is_broken = false;
      is_gone = false;
      is_open = false;
      begun = 1;
      output = (codes "HTTP/1.1 599 \r\nContent-Length: 2\r\nDate: Thu, 01 Jan 1970 00:00:00 GMT\r\n\r\n\\");
      took = 0;
      unsent = 74;
      idle_since = 0;
      next_job = None;
      charts = (call.Run ∷ call.Return ∷ []) ∷ [];
    }
unfolding head_text digits date_at count_off is_name_byte
trace_105-connection = refl

trace_105-request : request_told trace_105_20
    ≡ record {
      part = 0;
      state = state.Dispatched;
      running = None;
      parked = None;
      given = 0;
      is_end_told = true;
      waiting = 0;
      used = 0;
      swallowed = 0;
      has_whole_body = true;
      has_bad_body = false;
      listeners = [];
      owed = [];
      deadline = None;
      ready = record { read_set = false; read_armed = false; all_read_told = false; write_set = false; write_armed = false };
    }
unfolding is_name_byte
trace_105-request = refl

trace_105-answer : answer_told trace_105_20
    ≡ record {
      status = 599;
      fields = [];
      set_length = (Some 2);
      content = 1;
      is_aborted = false;
    }
unfolding digits
trace_105-answer = refl

trace_105-01-settled : settled trace_105_limits trace_105_rules 0 ((0, opened) ∷ [])
    ≡ trace_105_01
unfolding settled head_text digits date_at count_off is_name_byte trimmed front_length whole_head host_fits head_of verdict_of target_of framed is_utf8 chars encode
trace_105-01-settled = refl

trace_105-02-settled : settled trace_105_limits trace_105_rules 0 ((0, sent 0) ∷ trace_105_01)
    ≡ trace_105_02
unfolding settled head_text digits date_at count_off is_name_byte trimmed front_length whole_head host_fits head_of verdict_of target_of framed is_utf8 chars encode
trace_105-02-settled = refl

trace_105-03-settled : settled trace_105_limits trace_105_rules 0 ((0, came (codes "\n\r\nPOST / HTTP/1.1\r\nHost: a\r\n\r\n")) ∷ trace_105_02)
    ≡ trace_105_03
unfolding settled head_text digits date_at count_off is_name_byte trimmed front_length whole_head host_fits head_of verdict_of target_of framed is_utf8 chars encode
trace_105-03-settled = refl

trace_105-04-settled : settled trace_105_limits trace_105_rules 0 ((0, came (71 ∷ 69 ∷ 84 ∷ 32 ∷ 47 ∷ 47 ∷ 97 ∷ 47 ∷ 47 ∷ 98 ∷ 47 ∷ 32 ∷ 72 ∷ 84 ∷ 84 ∷ 80 ∷ 47 ∷ 49 ∷ 46 ∷ 49 ∷ 13 ∷ 10 ∷ 72 ∷ 111 ∷ 115 ∷ 116 ∷ 58 ∷ 32 ∷ 97 ∷ 13 ∷ 10 ∷ 69 ∷ 120 ∷ 112 ∷ 101 ∷ 99 ∷ 116 ∷ 58 ∷ 32 ∷ 49 ∷ 48 ∷ 48 ∷ 45 ∷ 99 ∷ 111 ∷ 110 ∷ 116 ∷ 105 ∷ 110 ∷ 117 ∷ 101 ∷ 13 ∷ 10 ∷ 85 ∷ 116 ∷ 102 ∷ 58 ∷ 32 ∷ 195 ∷ 169 ∷ 13 ∷ 10 ∷ 13 ∷ 10 ∷ [])) ∷ trace_105_03)
    ≡ trace_105_04
unfolding settled head_text digits date_at count_off is_name_byte trimmed front_length whole_head host_fits head_of verdict_of target_of framed is_utf8 chars encode
trace_105-04-settled = refl

trace_105-05-next : next_job (trace_105_04)
    ≡ (Some (job.Service 0))
unfolding head_text digits date_at count_off is_name_byte
trace_105-05-next = refl

trace_105-06-settled : settled trace_105_limits trace_105_rules 0 ((0, length_set 2) ∷ trace_105_05)
    ≡ trace_105_06
unfolding settled head_text digits date_at count_off is_name_byte trimmed front_length whole_head host_fits head_of verdict_of target_of framed is_utf8 chars encode
trace_105-06-settled = refl

trace_105-07-settled : settled trace_105_limits trace_105_rules 0 ((0, status_set 599) ∷ trace_105_06)
    ≡ trace_105_07
unfolding settled head_text digits date_at count_off is_name_byte trimmed front_length whole_head host_fits head_of verdict_of target_of framed is_utf8 chars encode
trace_105-07-settled = refl

trace_105-08-settled : settled trace_105_limits trace_105_rules 0 ((0, parked output_side) ∷ trace_105_07)
    ≡ trace_105_08
unfolding settled head_text digits date_at count_off is_name_byte trimmed front_length whole_head host_fits head_of verdict_of target_of framed is_utf8 chars encode
trace_105-08-settled = refl

trace_105-09-next : next_job (trace_105_08)
    ≡ (Some job.Resume)
unfolding head_text digits date_at count_off is_name_byte
trace_105-09-next = refl

trace_105-10-reply : reply_to trace_105_limits trace_105_rules 0 trace_105_09 (on_act (act.Read 8192) [])
    ≡ plain reply.GotEnd
unfolding reply_to head_text digits date_at count_off is_name_byte
trace_105-10-reply = refl

trace_105-10-settled : settled trace_105_limits trace_105_rules 0 ((0, end_given) ∷ trace_105_09)
    ≡ trace_105_10
unfolding settled head_text digits date_at count_off is_name_byte trimmed front_length whole_head host_fits head_of verdict_of target_of framed is_utf8 chars encode
trace_105-10-settled = refl

trace_105-11-settled : settled trace_105_limits trace_105_rules 0 ((0, flushed) ∷ trace_105_10)
    ≡ trace_105_11
unfolding settled head_text digits date_at count_off is_name_byte trimmed front_length whole_head host_fits head_of verdict_of target_of framed is_utf8 chars encode
trace_105-11-settled = refl

trace_105-12-settled : settled trace_105_limits trace_105_rules 0 ((0, put (codes "\\")) ∷ trace_105_11)
    ≡ trace_105_12
unfolding settled head_text digits date_at count_off is_name_byte trimmed front_length whole_head host_fits head_of verdict_of target_of framed is_utf8 chars encode
trace_105-12-settled = refl

trace_105-15-settled : settled trace_105_limits trace_105_rules 0 ((0, parked input_side) ∷ trace_105_12)
    ≡ trace_105_15
unfolding settled head_text digits date_at count_off is_name_byte trimmed front_length whole_head host_fits head_of verdict_of target_of framed is_utf8 chars encode
trace_105-15-settled = refl

trace_105-16-next : next_job (trace_105_15)
    ≡ (Some job.Resume)
unfolding head_text digits date_at count_off is_name_byte
trace_105-16-next = refl

trace_105-20-end : end_marks ((0, called call.Return None) ∷ (0, back) ∷ trace_105_16)
    ≡ (over ∷ caused cause.ShortAnswer ∷ [])
unfolding head_text digits date_at count_off is_name_byte
trace_105-20-end = refl

trace_105-20-settled : settled trace_105_limits trace_105_rules 0 ((0, caused cause.ShortAnswer) ∷ (0, over) ∷ (0, called call.Return None) ∷ (0, back) ∷ trace_105_16)
    ≡ trace_105_20
unfolding settled head_text digits date_at count_off is_name_byte trimmed front_length whole_head host_fits head_of verdict_of target_of framed is_utf8 chars encode
trace_105-20-settled = refl

abbrev trace_106_limits : Limits
trace_106_limits = record { max_connections = 256; max_head = 8192; max_fields = 100; max_keep_alive = pos 100; connection_timeout = 20000; async_timeout = 30000; max_swallow = 2097152; max_trailer = 8192; parts = 4 }

abbrev trace_106_rules : List Rule
trace_106_rules = record { pattern = (codes "*.do"); part = 3; can_async = false } ∷ record { pattern = (codes "/a"); part = 1; can_async = true } ∷ record { pattern = (codes "/"); part = 0; can_async = true } ∷ record { pattern = (codes "/x/*"); part = 2; can_async = false } ∷ record { pattern = (codes "/a/*"); part = 2; can_async = true } ∷ []

abbrev trace_106_01 : Trace
trace_106_01 = (0, opened) ∷ []

abbrev trace_106_02 : Trace
trace_106_02 = (0, sent 0) ∷ trace_106_01

abbrev trace_106_03 : Trace
trace_106_03 = (0, sent 0) ∷ trace_106_02

abbrev trace_106_04 : Trace
trace_106_04 = (0, began (record { place = 0; size = 27; head = record { method = (codes "GET"); target = (codes "/"); minor = 1; fields = record { name = (codes "Host"); value = (codes "a") } ∷ [] }; framing = framing.None; max_trailer = 8192; async_timeout = 30000; part = 0; can_async = true; keep = true; go_on = false })) ∷ (0, came (codes "GET / HTTP/1.1\r\nHost: a\r\n\r\n")) ∷ trace_106_03

abbrev trace_106_05 : Trace
trace_106_05 = (0, called call.Run None) ∷ (0, started (job.Service 0)) ∷ trace_106_04

abbrev trace_106_08 : Trace
trace_106_08 = (0, called call.Start None) ∷ trace_106_05

abbrev trace_106_11 : Trace
trace_106_11 = (0, length_set 3) ∷ trace_106_08

abbrev trace_106_12 : Trace
trace_106_12 = (0, read_listener_set) ∷ trace_106_11

abbrev trace_106_13 : Trace
trace_106_13 = (0, called call.Return None) ∷ (0, back) ∷ trace_106_12

abbrev trace_106_14 : Trace
trace_106_14 = (0, end_given) ∷ trace_106_13

trace_106-connection : connection_told trace_106_14
    ≡ record {
      came = 27;
      consumed = 27;
      room = 16384;
      has_ended = false;
      cause = None;
      is_broken = false;
      is_gone = false;
      is_open = true;
      begun = 1;
      output = [];
      took = 0;
      unsent = 0;
      idle_since = 0;
      next_job = (Some job.AllRead);
      charts = (call.Run ∷ call.Start ∷ call.Return ∷ []) ∷ [];
    }
unfolding head_text digits date_at count_off is_name_byte
trace_106-connection = refl

trace_106-request : request_told trace_106_14
    ≡ record {
      part = 0;
      state = state.Started;
      running = None;
      parked = None;
      given = 0;
      is_end_told = true;
      waiting = 0;
      used = 0;
      swallowed = 0;
      has_whole_body = true;
      has_bad_body = false;
      listeners = [];
      owed = [];
      deadline = (Some 30000);
      ready = record { read_set = true; read_armed = true; all_read_told = false; write_set = false; write_armed = false };
    }
unfolding is_name_byte
trace_106-request = refl

trace_106-answer : answer_told trace_106_14
    ≡ record {
      status = 200;
      fields = [];
      set_length = (Some 3);
      content = 0;
      is_aborted = false;
    }
unfolding digits
trace_106-answer = refl

trace_106-open : open_told trace_106_14
    ≡ record {
      is_committed = false;
      takes_one = true;
      has_to_cut = true;
    }
unfolding head_text digits date_at count_off is_name_byte
trace_106-open = refl

trace_106-01-settled : settled trace_106_limits trace_106_rules 0 ((0, opened) ∷ [])
    ≡ trace_106_01
unfolding settled head_text digits date_at count_off is_name_byte trimmed front_length whole_head host_fits head_of verdict_of target_of framed is_utf8 chars encode
trace_106-01-settled = refl

trace_106-02-settled : settled trace_106_limits trace_106_rules 0 ((0, sent 0) ∷ trace_106_01)
    ≡ trace_106_02
unfolding settled head_text digits date_at count_off is_name_byte trimmed front_length whole_head host_fits head_of verdict_of target_of framed is_utf8 chars encode
trace_106-02-settled = refl

trace_106-03-settled : settled trace_106_limits trace_106_rules 0 ((0, sent 0) ∷ trace_106_02)
    ≡ trace_106_03
unfolding settled head_text digits date_at count_off is_name_byte trimmed front_length whole_head host_fits head_of verdict_of target_of framed is_utf8 chars encode
trace_106-03-settled = refl

trace_106-04-settled : settled trace_106_limits trace_106_rules 0 ((0, came (codes "GET / HTTP/1.1\r\nHost: a\r\n\r\n")) ∷ trace_106_03)
    ≡ trace_106_04
unfolding settled head_text digits date_at count_off is_name_byte trimmed front_length whole_head host_fits head_of verdict_of target_of framed is_utf8 chars encode
trace_106-04-settled = refl

trace_106-05-next : next_job (trace_106_04)
    ≡ (Some (job.Service 0))
unfolding head_text digits date_at count_off is_name_byte
trace_106-05-next = refl

trace_106-08-settled : settled trace_106_limits trace_106_rules 0 ((0, called call.Start None) ∷ trace_106_05)
    ≡ trace_106_08
unfolding settled head_text digits date_at count_off is_name_byte trimmed front_length whole_head host_fits head_of verdict_of target_of framed is_utf8 chars encode
trace_106-08-settled = refl

trace_106-11-settled : settled trace_106_limits trace_106_rules 0 ((0, length_set 3) ∷ trace_106_08)
    ≡ trace_106_11
unfolding settled head_text digits date_at count_off is_name_byte trimmed front_length whole_head host_fits head_of verdict_of target_of framed is_utf8 chars encode
trace_106-11-settled = refl

trace_106-12-settled : settled trace_106_limits trace_106_rules 0 ((0, read_listener_set) ∷ trace_106_11)
    ≡ trace_106_12
unfolding settled head_text digits date_at count_off is_name_byte trimmed front_length whole_head host_fits head_of verdict_of target_of framed is_utf8 chars encode
trace_106-12-settled = refl

trace_106-13-settled : settled trace_106_limits trace_106_rules 0 ((0, called call.Return None) ∷ (0, back) ∷ trace_106_12)
    ≡ trace_106_13
unfolding settled head_text digits date_at count_off is_name_byte trimmed front_length whole_head host_fits head_of verdict_of target_of framed is_utf8 chars encode
trace_106-13-settled = refl
