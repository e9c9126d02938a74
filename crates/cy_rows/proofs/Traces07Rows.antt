-- Traces that another program made, with what it tells of them, computed from the definitions. Made by `cases/rows.py`.
use Rattle.std.proofs.Common.{◌≡◌, true, false, List, [], ◌∷◌, Some, None, codes, refl}
use Rattle.std.specs.Prelude.{pos}
use Rattle.std.specs.Fmt.{digits}
use Rattle.std.specs.Str.{is_utf8, chars}
use lib.Utf8.{encode}
use Rattle.cy_event.specs.declared.framing.Framing.TheVariants as framing
use Rattle.cy_event.specs.declared.limits.Limits.{Limits}
use Rattle.cy_event.specs.declared.steps.Act.TheVariants as act
use Rattle.cy_event.specs.declared.steps.Call.TheVariants as call
use Rattle.cy_event.specs.declared.steps.CloseCause.TheVariants as cause
use Rattle.cy_event.specs.declared.steps.Job.TheVariants as job
use Rattle.cy_event.specs.declared.steps.Reply.TheVariants as reply
use Rattle.cy_event.specs.declared.steps.State.TheVariants as state
use Rattle.cy_event.specs.Answers.{head_text}
use Rattle.cy_event.specs.Dates.{date_at, count_off}
use Rattle.cy_event.specs.Framings.{framed}
use Rattle.cy_event.specs.Heads.{is_name_byte, trimmed, front_length, whole_head, host_fits, head_of}
use Rattle.cy_event.specs.Targets.{target_of}
use Rattle.cy_map.specs.declared.rule.Rule.{Rule}
use Rattle.cy_model.specs.Entries.{on_act, reply_to}
use Rattle.cy_model.specs.Jobs.{next_job}
use Rattle.cy_model.specs.Marks.{Trace, input_side, opened, came, sent, began, called, started, parked, back, end_given, put, error_answer, over, caused, broken}
use Rattle.cy_model.specs.Replies.{plain}
use Rattle.cy_model.specs.Settling.{settled}
use Rattle.cy_model.specs.Ticks.{tick_move}
use Rattle.cy_model.specs.Verdicts.{verdict_of}
use Rattle.cy_rows.specs.Told.{answer_told, connection_told, open_told, request_told}

abbrev trace_025_limits : Limits
trace_025_limits = record { max_connections = 256; max_head = 8192; max_fields = 100; max_keep_alive = pos 100; connection_timeout = 20000; async_timeout = 30000; max_swallow = 2097152; max_trailer = 12; parts = 3 }

abbrev trace_025_rules : List Rule
trace_025_rules = record { pattern = (codes "/"); part = 0; can_async = true } ∷ record { pattern = (codes "/a"); part = 1; can_async = true } ∷ record { pattern = (codes "/x/*"); part = 2; can_async = false } ∷ []

abbrev trace_025_01 : Trace
trace_025_01 = (0, opened) ∷ []

abbrev trace_025_02 : Trace
trace_025_02 = (0, came []) ∷ trace_025_01

abbrev trace_025_03 : Trace
trace_025_03 = (0, came (codes "PO")) ∷ trace_025_02

abbrev trace_025_05 : Trace
trace_025_05 = (20000, broken) ∷ (20000, caused cause.IdleTimeout) ∷ trace_025_03

trace_025-connection : connection_told trace_025_05
    ≡ record {
      came = 2;
      consumed = 0;
      room = 16382;
      has_ended = false;
      cause = (Some cause.IdleTimeout);
      is_broken = true;
      is_gone = true;
      is_open = false;
      begun = 0;
      output = [];
      took = 0;
      unsent = 0;
      idle_since = 0;
      next_job = None;
      charts = [];
    }
unfolding head_text digits date_at count_off is_name_byte
trace_025-connection = refl

trace_025-01-settled : settled trace_025_limits trace_025_rules 0 ((0, opened) ∷ [])
    ≡ trace_025_01
unfolding settled head_text digits date_at count_off is_name_byte trimmed front_length whole_head host_fits head_of verdict_of target_of framed is_utf8 chars encode
trace_025-01-settled = refl

trace_025-02-settled : settled trace_025_limits trace_025_rules 0 ((0, came []) ∷ trace_025_01)
    ≡ trace_025_02
unfolding settled head_text digits date_at count_off is_name_byte trimmed front_length whole_head host_fits head_of verdict_of target_of framed is_utf8 chars encode
trace_025-02-settled = refl

trace_025-03-settled : settled trace_025_limits trace_025_rules 0 ((0, came (codes "PO")) ∷ trace_025_02)
    ≡ trace_025_03
unfolding settled head_text digits date_at count_off is_name_byte trimmed front_length whole_head host_fits head_of verdict_of target_of framed is_utf8 chars encode
trace_025-03-settled = refl

trace_025-04-tick : tick_move trace_025_limits 19999 trace_025_03
    ≡ None
unfolding head_text digits date_at count_off is_name_byte
trace_025-04-tick = refl

trace_025-05-tick : tick_move trace_025_limits 20000 trace_025_03
    ≡ Some (caused cause.IdleTimeout ∷ broken ∷ [])
unfolding head_text digits date_at count_off is_name_byte
trace_025-05-tick = refl

trace_025-05-settled : settled trace_025_limits trace_025_rules 20000 ((20000, broken) ∷ (20000, caused cause.IdleTimeout) ∷ trace_025_03)
    ≡ trace_025_05
unfolding settled head_text digits date_at count_off is_name_byte trimmed front_length whole_head host_fits head_of verdict_of target_of framed is_utf8 chars encode
trace_025-05-settled = refl

trace_025-06-tick : tick_move trace_025_limits 20000 trace_025_05
    ≡ None
unfolding head_text digits date_at count_off is_name_byte
trace_025-06-tick = refl

abbrev trace_026_limits : Limits
trace_026_limits = record { max_connections = 256; max_head = 8192; max_fields = 100; max_keep_alive = pos 100; connection_timeout = 20000; async_timeout = 30000; max_swallow = 2097152; max_trailer = 12; parts = 3 }

abbrev trace_026_rules : List Rule
trace_026_rules = record { pattern = (codes "/"); part = 0; can_async = true } ∷ record { pattern = (codes "/a"); part = 1; can_async = true } ∷ record { pattern = (codes "/x/*"); part = 2; can_async = false } ∷ []

abbrev trace_026_01 : Trace
trace_026_01 = (0, opened) ∷ []

abbrev trace_026_02 : Trace
trace_026_02 = (0, began (record { place = 0; size = 51; head = record { method = (codes "GET"); target = (codes "/a%20b;p=1/c"); minor = 0; fields = record { name = (codes "Expect"); value = (codes "100-Continue") } ∷ [] }; framing = framing.None; max_trailer = 12; async_timeout = 30000; part = 0; can_async = true; keep = false; go_on = false })) ∷ (0, came (codes "GET /a%20b;p=1/c HTTP/1.0\r\nExpect: 100-Continue\r\n\r\n\n\r\nHEAD /b HTTP/1.0\r\nHost: [::1]:80\r\nContent-Length: 3\r\n\r\nczdPUT /q.do HTTP/1.1\r\nHost: a\r\nContent-Length: 1\r\n\r\nc")) ∷ trace_026_01

abbrev trace_026_03 : Trace
trace_026_03 = (0, came (71 ∷ 69 ∷ 84 ∷ 32 ∷ 47 ∷ 32 ∷ 72 ∷ 84 ∷ 84 ∷ 80 ∷ 47 ∷ 49 ∷ 46 ∷ 49 ∷ 13 ∷ 10 ∷ 72 ∷ 111 ∷ 115 ∷ 116 ∷ 58 ∷ 32 ∷ 108 ∷ 111 ∷ 99 ∷ 97 ∷ 108 ∷ 104 ∷ 111 ∷ 115 ∷ 116 ∷ 58 ∷ 56 ∷ 48 ∷ 56 ∷ 48 ∷ 13 ∷ 10 ∷ 13 ∷ 10 ∷ 71 ∷ 69 ∷ 84 ∷ 32 ∷ 47 ∷ 32 ∷ 72 ∷ 84 ∷ 84 ∷ 80 ∷ 47 ∷ 49 ∷ 46 ∷ 49 ∷ 13 ∷ 10 ∷ 72 ∷ 111 ∷ 115 ∷ 116 ∷ 58 ∷ 32 ∷ 13 ∷ 10 ∷ 84 ∷ 114 ∷ 97 ∷ 110 ∷ 115 ∷ 102 ∷ 101 ∷ 114 ∷ 45 ∷ 69 ∷ 110 ∷ 99 ∷ 111 ∷ 100 ∷ 105 ∷ 110 ∷ 103 ∷ 58 ∷ 32 ∷ 67 ∷ 104 ∷ 117 ∷ 110 ∷ 107 ∷ 101 ∷ 100 ∷ 13 ∷ 10 ∷ 13 ∷ 10 ∷ 48 ∷ 49 ∷ 59 ∷ 120 ∷ 61 ∷ 49 ∷ 13 ∷ 10 ∷ 107 ∷ 13 ∷ 10 ∷ 97 ∷ 13 ∷ 10 ∷ 108 ∷ 107 ∷ 108 ∷ 107 ∷ 108 ∷ 107 ∷ 112 ∷ 107 ∷ 108 ∷ 112 ∷ 13 ∷ 10 ∷ 48 ∷ 48 ∷ 48 ∷ 51 ∷ 9 ∷ 32 ∷ 59 ∷ 32 ∷ 122 ∷ 61 ∷ 34 ∷ 113 ∷ 34 ∷ 13 ∷ 10 ∷ 112 ∷ 112 ∷ 109 ∷ 13 ∷ 10 ∷ 48 ∷ 59 ∷ 108 ∷ 97 ∷ 115 ∷ 116 ∷ 13 ∷ 10 ∷ 88 ∷ 45 ∷ 83 ∷ 117 ∷ 109 ∷ 58 ∷ 9 ∷ 32 ∷ 55 ∷ 32 ∷ 13 ∷ 10 ∷ 81 ∷ 58 ∷ 128 ∷ 255 ∷ 13 ∷ 10 ∷ 84 ∷ 58 ∷ 32 ∷ 119 ∷ 13 ∷ 10 ∷ 13 ∷ 10 ∷ [])) ∷ trace_026_02

abbrev trace_026_04 : Trace
trace_026_04 = (0, called call.Run None) ∷ (0, started (job.Service 0)) ∷ trace_026_03

abbrev trace_026_05 : Trace
trace_026_05 = (0, called call.Start None) ∷ trace_026_04

abbrev trace_026_06 : Trace
trace_026_06 = (0, called call.DispatchOther (Some 2)) ∷ trace_026_05

abbrev trace_026_07 : Trace
trace_026_07 = (0, end_given) ∷ trace_026_06

trace_026-connection : connection_told trace_026_07
    ≡ record {
      came = 337;
      consumed = 51;
      room = 16098;
      has_ended = false;
      cause = None;
      is_broken = false;
      is_gone = false;
      is_open = true;
      begun = 1;
      output = [];
      took = 0;
      unsent = 0;
      idle_since = 0;
      next_job = None;
      charts = (call.Run ∷ call.Start ∷ call.DispatchOther ∷ []) ∷ [];
    }
unfolding head_text digits date_at count_off is_name_byte
trace_026-connection = refl

trace_026-request : request_told trace_026_07
    ≡ record {
      part = 2;
      state = state.DispatchPending;
      running = (Some (job.Service 0));
      parked = None;
      given = 0;
      is_end_told = true;
      waiting = 0;
      used = 0;
      swallowed = 0;
      has_whole_body = true;
      has_bad_body = false;
      listeners = [];
      owed = [];
      deadline = None;
      ready = record { read_set = false; read_armed = false; all_read_told = false; write_set = false; write_armed = false };
    }
unfolding is_name_byte
trace_026-request = refl

trace_026-answer : answer_told trace_026_07
    ≡ record {
      status = 200;
      fields = [];
      set_length = None;
      content = 0;
      is_aborted = false;
    }
unfolding digits
trace_026-answer = refl

trace_026-open : open_told trace_026_07
    ≡ record {
      is_committed = false;
      takes_one = true;
      has_to_cut = true;
    }
unfolding head_text digits date_at count_off is_name_byte
trace_026-open = refl

trace_026-01-settled : settled trace_026_limits trace_026_rules 0 ((0, opened) ∷ [])
    ≡ trace_026_01
unfolding settled head_text digits date_at count_off is_name_byte trimmed front_length whole_head host_fits head_of verdict_of target_of framed is_utf8 chars encode
trace_026-01-settled = refl

trace_026-02-settled : settled trace_026_limits trace_026_rules 0 ((0, came (codes "GET /a%20b;p=1/c HTTP/1.0\r\nExpect: 100-Continue\r\n\r\n\n\r\nHEAD /b HTTP/1.0\r\nHost: [::1]:80\r\nContent-Length: 3\r\n\r\nczdPUT /q.do HTTP/1.1\r\nHost: a\r\nContent-Length: 1\r\n\r\nc")) ∷ trace_026_01)
    ≡ trace_026_02
unfolding settled head_text digits date_at count_off is_name_byte trimmed front_length whole_head host_fits head_of verdict_of target_of framed is_utf8 chars encode
trace_026-02-settled = refl

trace_026-03-settled : settled trace_026_limits trace_026_rules 0 ((0, came (71 ∷ 69 ∷ 84 ∷ 32 ∷ 47 ∷ 32 ∷ 72 ∷ 84 ∷ 84 ∷ 80 ∷ 47 ∷ 49 ∷ 46 ∷ 49 ∷ 13 ∷ 10 ∷ 72 ∷ 111 ∷ 115 ∷ 116 ∷ 58 ∷ 32 ∷ 108 ∷ 111 ∷ 99 ∷ 97 ∷ 108 ∷ 104 ∷ 111 ∷ 115 ∷ 116 ∷ 58 ∷ 56 ∷ 48 ∷ 56 ∷ 48 ∷ 13 ∷ 10 ∷ 13 ∷ 10 ∷ 71 ∷ 69 ∷ 84 ∷ 32 ∷ 47 ∷ 32 ∷ 72 ∷ 84 ∷ 84 ∷ 80 ∷ 47 ∷ 49 ∷ 46 ∷ 49 ∷ 13 ∷ 10 ∷ 72 ∷ 111 ∷ 115 ∷ 116 ∷ 58 ∷ 32 ∷ 13 ∷ 10 ∷ 84 ∷ 114 ∷ 97 ∷ 110 ∷ 115 ∷ 102 ∷ 101 ∷ 114 ∷ 45 ∷ 69 ∷ 110 ∷ 99 ∷ 111 ∷ 100 ∷ 105 ∷ 110 ∷ 103 ∷ 58 ∷ 32 ∷ 67 ∷ 104 ∷ 117 ∷ 110 ∷ 107 ∷ 101 ∷ 100 ∷ 13 ∷ 10 ∷ 13 ∷ 10 ∷ 48 ∷ 49 ∷ 59 ∷ 120 ∷ 61 ∷ 49 ∷ 13 ∷ 10 ∷ 107 ∷ 13 ∷ 10 ∷ 97 ∷ 13 ∷ 10 ∷ 108 ∷ 107 ∷ 108 ∷ 107 ∷ 108 ∷ 107 ∷ 112 ∷ 107 ∷ 108 ∷ 112 ∷ 13 ∷ 10 ∷ 48 ∷ 48 ∷ 48 ∷ 51 ∷ 9 ∷ 32 ∷ 59 ∷ 32 ∷ 122 ∷ 61 ∷ 34 ∷ 113 ∷ 34 ∷ 13 ∷ 10 ∷ 112 ∷ 112 ∷ 109 ∷ 13 ∷ 10 ∷ 48 ∷ 59 ∷ 108 ∷ 97 ∷ 115 ∷ 116 ∷ 13 ∷ 10 ∷ 88 ∷ 45 ∷ 83 ∷ 117 ∷ 109 ∷ 58 ∷ 9 ∷ 32 ∷ 55 ∷ 32 ∷ 13 ∷ 10 ∷ 81 ∷ 58 ∷ 128 ∷ 255 ∷ 13 ∷ 10 ∷ 84 ∷ 58 ∷ 32 ∷ 119 ∷ 13 ∷ 10 ∷ 13 ∷ 10 ∷ [])) ∷ trace_026_02)
    ≡ trace_026_03
unfolding settled head_text digits date_at count_off is_name_byte trimmed front_length whole_head host_fits head_of verdict_of target_of framed is_utf8 chars encode
trace_026-03-settled = refl

trace_026-04-next : next_job (trace_026_03)
    ≡ (Some (job.Service 0))
unfolding head_text digits date_at count_off is_name_byte
trace_026-04-next = refl

trace_026-05-settled : settled trace_026_limits trace_026_rules 0 ((0, called call.Start None) ∷ trace_026_04)
    ≡ trace_026_05
unfolding settled head_text digits date_at count_off is_name_byte trimmed front_length whole_head host_fits head_of verdict_of target_of framed is_utf8 chars encode
trace_026-05-settled = refl

trace_026-07-reply : reply_to trace_026_limits trace_026_rules 0 trace_026_06 (on_act (act.Read 10) [])
    ≡ plain reply.GotEnd
unfolding reply_to head_text digits date_at count_off is_name_byte
trace_026-07-reply = refl

trace_026-07-settled : settled trace_026_limits trace_026_rules 0 ((0, end_given) ∷ trace_026_06)
    ≡ trace_026_07
unfolding settled head_text digits date_at count_off is_name_byte trimmed front_length whole_head host_fits head_of verdict_of target_of framed is_utf8 chars encode
trace_026-07-settled = refl

abbrev trace_027_limits : Limits
trace_027_limits = record { max_connections = 256; max_head = 8192; max_fields = 100; max_keep_alive = pos 100; connection_timeout = 20000; async_timeout = 30000; max_swallow = 2097152; max_trailer = 8192; parts = 3 }

abbrev trace_027_rules : List Rule
trace_027_rules = record { pattern = (codes "/x/*"); part = 2; can_async = false } ∷ record { pattern = (codes "/a/*"); part = 2; can_async = true } ∷ record { pattern = (codes "/"); part = 0; can_async = true } ∷ []

abbrev trace_027_01 : Trace
trace_027_01 = (0, opened) ∷ []

abbrev trace_027_02 : Trace
trace_027_02 = (0, began (record { place = 0; size = 49; head = record { method = (codes "POST"); target = (codes "/b"); minor = 1; fields = record { name = (codes "Host"); value = (codes "a") } ∷ record { name = (codes "Content-Length"); value = (codes "05") } ∷ [] }; framing = (framing.Length 5); max_trailer = 8192; async_timeout = 30000; part = 0; can_async = true; keep = true; go_on = false })) ∷ (0, came (codes "POST /b HTTP/1.1\r\nHost: a\r\nContent-Length: 05\r\n\r\n")) ∷ trace_027_01

abbrev trace_027_03 : Trace
trace_027_03 = (0, called call.Run None) ∷ (0, started (job.Service 0)) ∷ trace_027_02

abbrev trace_027_04 : Trace
trace_027_04 = (0, called call.Start None) ∷ trace_027_03

abbrev trace_027_05 : Trace
trace_027_05 = (0, parked input_side) ∷ trace_027_04

abbrev trace_027_06 : Trace
trace_027_06 = (0, put (codes "\r\r")) ∷ trace_027_05

abbrev trace_027_07 : Trace
trace_027_07 = (0, sent 0) ∷ trace_027_06

abbrev trace_027_08 : Trace
trace_027_08 = (20000, called call.Fault None) ∷ (20000, broken) ∷ (20000, caused cause.AwaitTimeout) ∷ trace_027_07

abbrev trace_027_11 : Trace
trace_027_11 = (20001, started job.Resume) ∷ trace_027_08

abbrev trace_027_19 : Trace
trace_027_19 = (20003, over) ∷ (20003, called call.Return None) ∷ (20003, error_answer 500) ∷ (20003, called call.Return None) ∷ (20003, called call.Return None) ∷ (20003, back) ∷ trace_027_11

trace_027-connection : connection_told trace_027_19
    ≡ record {
      came = 49;
      consumed = 49;
      room = 16384;
      has_ended = false;
      cause = (Some cause.AwaitTimeout);
      is_broken = true;
      is_gone = true;
      is_open = false;
      begun = 1;
      output = [];
      took = 0;
      unsent = 0;
      idle_since = 20003;
      next_job = None;
      charts = (call.Run ∷ call.Start ∷ call.Fault ∷ call.Return ∷ call.Return ∷ call.Return ∷ []) ∷ [];
    }
unfolding head_text digits date_at count_off is_name_byte
trace_027-connection = refl

trace_027-request : request_told trace_027_19
    ≡ record {
      part = 0;
      state = state.Completing;
      running = None;
      parked = None;
      given = 0;
      is_end_told = false;
      waiting = 0;
      used = 0;
      swallowed = 0;
      has_whole_body = false;
      has_bad_body = false;
      listeners = [];
      owed = [];
      deadline = None;
      ready = record { read_set = false; read_armed = false; all_read_told = false; write_set = false; write_armed = false };
    }
unfolding is_name_byte
trace_027-request = refl

trace_027-answer : answer_told trace_027_19
    ≡ record {
      status = 500;
      fields = record { name = (codes "Content-Type"); value = (codes "text/plain") } ∷ [];
      set_length = None;
      content = 10;
      is_aborted = false;
    }
unfolding digits
trace_027-answer = refl

trace_027-01-settled : settled trace_027_limits trace_027_rules 0 ((0, opened) ∷ [])
    ≡ trace_027_01
unfolding settled head_text digits date_at count_off is_name_byte trimmed front_length whole_head host_fits head_of verdict_of target_of framed is_utf8 chars encode
trace_027-01-settled = refl

trace_027-02-settled : settled trace_027_limits trace_027_rules 0 ((0, came (codes "POST /b HTTP/1.1\r\nHost: a\r\nContent-Length: 05\r\n\r\n")) ∷ trace_027_01)
    ≡ trace_027_02
unfolding settled head_text digits date_at count_off is_name_byte trimmed front_length whole_head host_fits head_of verdict_of target_of framed is_utf8 chars encode
trace_027-02-settled = refl

trace_027-03-next : next_job (trace_027_02)
    ≡ (Some (job.Service 0))
unfolding head_text digits date_at count_off is_name_byte
trace_027-03-next = refl

trace_027-04-settled : settled trace_027_limits trace_027_rules 0 ((0, called call.Start None) ∷ trace_027_03)
    ≡ trace_027_04
unfolding settled head_text digits date_at count_off is_name_byte trimmed front_length whole_head host_fits head_of verdict_of target_of framed is_utf8 chars encode
trace_027-04-settled = refl

trace_027-05-settled : settled trace_027_limits trace_027_rules 0 ((0, parked input_side) ∷ trace_027_04)
    ≡ trace_027_05
unfolding settled head_text digits date_at count_off is_name_byte trimmed front_length whole_head host_fits head_of verdict_of target_of framed is_utf8 chars encode
trace_027-05-settled = refl

trace_027-07-settled : settled trace_027_limits trace_027_rules 0 ((0, sent 0) ∷ trace_027_06)
    ≡ trace_027_07
unfolding settled head_text digits date_at count_off is_name_byte trimmed front_length whole_head host_fits head_of verdict_of target_of framed is_utf8 chars encode
trace_027-07-settled = refl

trace_027-08-tick : tick_move trace_027_limits 20000 trace_027_07
    ≡ Some (caused cause.AwaitTimeout ∷ broken ∷ called call.Fault None ∷ [])
unfolding head_text digits date_at count_off is_name_byte
trace_027-08-tick = refl

trace_027-08-settled : settled trace_027_limits trace_027_rules 20000 ((20000, called call.Fault None) ∷ (20000, broken) ∷ (20000, caused cause.AwaitTimeout) ∷ trace_027_07)
    ≡ trace_027_08
unfolding settled head_text digits date_at count_off is_name_byte trimmed front_length whole_head host_fits head_of verdict_of target_of framed is_utf8 chars encode
trace_027-08-settled = refl

trace_027-09-tick : tick_move trace_027_limits 20001 trace_027_08
    ≡ None
unfolding head_text digits date_at count_off is_name_byte
trace_027-09-tick = refl

trace_027-11-next : next_job (trace_027_08)
    ≡ (Some job.Resume)
unfolding head_text digits date_at count_off is_name_byte
trace_027-11-next = refl

trace_027-13-tick : tick_move trace_027_limits 20002 trace_027_11
    ≡ None
unfolding head_text digits date_at count_off is_name_byte
trace_027-13-tick = refl

trace_027-14-tick : tick_move trace_027_limits 20003 trace_027_11
    ≡ None
unfolding head_text digits date_at count_off is_name_byte
trace_027-14-tick = refl

trace_027-19-settled : settled trace_027_limits trace_027_rules 20003 ((20003, called call.Return None) ∷ (20003, back) ∷ trace_027_11)
    ≡ trace_027_19
unfolding settled head_text digits date_at count_off is_name_byte trimmed front_length whole_head host_fits head_of verdict_of target_of framed is_utf8 chars encode
trace_027-19-settled = refl

trace_027-27-tick : tick_move trace_027_limits 20003 trace_027_19
    ≡ None
unfolding head_text digits date_at count_off is_name_byte
trace_027-27-tick = refl
