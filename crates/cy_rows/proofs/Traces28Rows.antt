-- Traces that another program made, with what it tells of them, computed from the definitions. Made by `cases/rows.py`.
use Rattle.std.proofs.Common.{◌≡◌, true, false, List, [], ◌∷◌, Some, None, codes, refl}
use Rattle.std.specs.Prelude.{pos}
use Rattle.std.specs.Fmt.{digits}
use Rattle.std.specs.Str.{is_utf8, chars}
use lib.Utf8.{encode}
use Rattle.cy_event.specs.declared.framing.Framing.TheVariants as framing
use Rattle.cy_event.specs.declared.limits.Limits.{Limits}
use Rattle.cy_event.specs.declared.steps.Act.TheVariants as act
use Rattle.cy_event.specs.declared.steps.Call.TheVariants as call
use Rattle.cy_event.specs.declared.steps.CloseCause.TheVariants as cause
use Rattle.cy_event.specs.declared.steps.Job.TheVariants as job
use Rattle.cy_event.specs.declared.steps.Reply.TheVariants as reply
use Rattle.cy_event.specs.declared.steps.State.TheVariants as state
use Rattle.cy_event.specs.Answers.{head_text}
use Rattle.cy_event.specs.Dates.{date_at, count_off}
use Rattle.cy_event.specs.Framings.{framed}
use Rattle.cy_event.specs.Heads.{is_name_byte, trimmed, front_length, whole_head, host_fits, head_of}
use Rattle.cy_event.specs.Targets.{target_of}
use Rattle.cy_map.specs.declared.rule.Rule.{Rule}
use Rattle.cy_model.specs.Endings.{end_marks}
use Rattle.cy_model.specs.Entries.{on_act, reply_to}
use Rattle.cy_model.specs.Jobs.{next_job}
use Rattle.cy_model.specs.Marks.{Trace, input_side, opened, came, sent, began, called, started, parked, back, given, answer_reset, put, flushed, nothing_to_flush, error_answer, aborted, over, caused, broken}
use Rattle.cy_model.specs.Replies.{plain}
use Rattle.cy_model.specs.Settling.{settled}
use Rattle.cy_model.specs.Ticks.{tick_move}
use Rattle.cy_model.specs.Verdicts.{verdict_of}
use Rattle.cy_rows.specs.Told.{answer_told, connection_told, request_told}

abbrev trace_114_limits : Limits
trace_114_limits = record { max_connections = 256; max_head = 257; max_fields = 100; max_keep_alive = pos 3; connection_timeout = 20000; async_timeout = 30000; max_swallow = 2097152; max_trailer = 2; parts = 3 }

abbrev trace_114_rules : List Rule
trace_114_rules = record { pattern = (codes "/a/*"); part = 2; can_async = true } ∷ []

abbrev trace_114_01 : Trace
trace_114_01 = (0, opened) ∷ []

abbrev trace_114_02 : Trace
trace_114_02 = (0, over) ∷ (0, error_answer 404) ∷ (0, began (record { place = 0; size = 65; head = record { method = (codes "GET"); target = (codes "/b"); minor = 1; fields = record { name = (codes "Host"); value = (codes "localhost:8080") } ∷ record { name = (codes "Utf"); value = (195 ∷ 169 ∷ []) } ∷ record { name = (codes "Connection"); value = (codes ",") } ∷ [] }; framing = framing.None; max_trailer = 2; async_timeout = 30000; part = 0; can_async = false; keep = true; go_on = false })) ∷ (0, came (71 ∷ 69 ∷ 84 ∷ 32 ∷ 47 ∷ 98 ∷ 32 ∷ 72 ∷ 84 ∷ 84 ∷ 80 ∷ 47 ∷ 49 ∷ 46 ∷ 49 ∷ 13 ∷ 10 ∷ 72 ∷ 111 ∷ 115 ∷ 116 ∷ 58 ∷ 32 ∷ 108 ∷ 111 ∷ 99 ∷ 97 ∷ 108 ∷ 104 ∷ 111 ∷ 115 ∷ 116 ∷ 58 ∷ 56 ∷ 48 ∷ 56 ∷ 48 ∷ 13 ∷ 10 ∷ 85 ∷ 116 ∷ 102 ∷ 58 ∷ 32 ∷ 195 ∷ 169 ∷ 13 ∷ 10 ∷ 67 ∷ 111 ∷ 110 ∷ 110 ∷ 101 ∷ 99 ∷ 116 ∷ 105 ∷ 111 ∷ 110 ∷ 58 ∷ 32 ∷ 44 ∷ 13 ∷ 10 ∷ 13 ∷ 10 ∷ [])) ∷ trace_114_01

abbrev trace_114_03 : Trace
trace_114_03 = (0, began (record { place = 65; size = 66; head = record { method = (codes "POST"); target = (codes "/a/./b/../c?q=1"); minor = 1; fields = record { name = (codes "Host"); value = (codes "a.b%41") } ∷ record { name = (codes "Content-Length"); value = (codes "3") } ∷ [] }; framing = (framing.Length 3); max_trailer = 2; async_timeout = 30000; part = 2; can_async = true; keep = true; go_on = false })) ∷ (0, came (codes "POST /a/./b/../c?q=1 HTTP/1.1\r\nHost: a.b%41\r\nContent-Length: 3\r\n\r\n")) ∷ trace_114_02

abbrev trace_114_04 : Trace
trace_114_04 = (0, called call.Run None) ∷ (0, started (job.Service 2)) ∷ trace_114_03

abbrev trace_114_05 : Trace
trace_114_05 = (0, called call.Start None) ∷ trace_114_04

abbrev trace_114_06 : Trace
trace_114_06 = (0, parked input_side) ∷ trace_114_05

abbrev trace_114_08 : Trace
trace_114_08 = (1, flushed) ∷ trace_114_06

abbrev trace_114_10 : Trace
trace_114_10 = (19999, came (codes "b")) ∷ trace_114_08

abbrev trace_114_11 : Trace
trace_114_11 = (19999, called call.Fault None) ∷ trace_114_10

abbrev trace_114_12 : Trace
trace_114_12 = (19999, nothing_to_flush) ∷ trace_114_11

abbrev trace_114_13 : Trace
trace_114_13 = (19999, started job.Resume) ∷ trace_114_12

abbrev trace_114_14 : Trace
trace_114_14 = (19999, given 1) ∷ trace_114_13

abbrev trace_114_17 : Trace
trace_114_17 = (19999, put []) ∷ trace_114_14

abbrev trace_114_18 : Trace
trace_114_18 = (19999, caused cause.FailedAnswer) ∷ (19999, over) ∷ (19999, called call.Return None) ∷ (19999, aborted) ∷ (19999, called call.Return None) ∷ (19999, called call.Return None) ∷ (19999, back) ∷ trace_114_17

abbrev trace_114_20 : Trace
trace_114_20 = (39999, broken) ∷ trace_114_18

trace_114-connection : connection_told trace_114_20
    ≡ record {
      came = 132;
      consumed = 132;
      room = 16384;
      has_ended = false;
      cause = (Some cause.FailedAnswer);
      is_broken = true;
      is_gone = true;
      is_open = false;
      begun = 2;
      output = (codes "HTTP/1.1 404 \r\nContent-Type: text/plain\r\nContent-Length: 10\r\nDate: Thu, 01 Jan 1970 00:00:00 GMT\r\n\r\nError 404\nHTTP/1.1 200 \r\nTransfer-Encoding: chunked\r\nDate: Thu, 01 Jan 1970 00:00:00 GMT\r\n\r\n");
      took = 0;
      unsent = 0;
      idle_since = 19999;
      next_job = None;
      charts = ([]) ∷ (call.Run ∷ call.Start ∷ call.Fault ∷ call.Return ∷ call.Return ∷ call.Return ∷ []) ∷ [];
    }
unfolding head_text digits date_at count_off is_name_byte
trace_114-connection = refl

trace_114-request : request_told trace_114_20
    ≡ record {
      part = 2;
      state = state.Completing;
      running = None;
      parked = None;
      given = 1;
      is_end_told = false;
      waiting = 0;
      used = 1;
      swallowed = 0;
      has_whole_body = false;
      has_bad_body = false;
      listeners = [];
      owed = [];
      deadline = None;
      ready = record { read_set = false; read_armed = false; all_read_told = false; write_set = false; write_armed = false };
    }
unfolding is_name_byte
trace_114-request = refl

trace_114-answer : answer_told trace_114_20
    ≡ record {
      status = 200;
      fields = [];
      set_length = None;
      content = 0;
      is_aborted = true;
    }
unfolding digits
trace_114-answer = refl

trace_114-01-settled : settled trace_114_limits trace_114_rules 0 ((0, opened) ∷ [])
    ≡ trace_114_01
unfolding settled head_text digits date_at count_off is_name_byte trimmed front_length whole_head host_fits head_of verdict_of target_of framed is_utf8 chars encode
trace_114-01-settled = refl

trace_114-02-settled : settled trace_114_limits trace_114_rules 0 ((0, came (71 ∷ 69 ∷ 84 ∷ 32 ∷ 47 ∷ 98 ∷ 32 ∷ 72 ∷ 84 ∷ 84 ∷ 80 ∷ 47 ∷ 49 ∷ 46 ∷ 49 ∷ 13 ∷ 10 ∷ 72 ∷ 111 ∷ 115 ∷ 116 ∷ 58 ∷ 32 ∷ 108 ∷ 111 ∷ 99 ∷ 97 ∷ 108 ∷ 104 ∷ 111 ∷ 115 ∷ 116 ∷ 58 ∷ 56 ∷ 48 ∷ 56 ∷ 48 ∷ 13 ∷ 10 ∷ 85 ∷ 116 ∷ 102 ∷ 58 ∷ 32 ∷ 195 ∷ 169 ∷ 13 ∷ 10 ∷ 67 ∷ 111 ∷ 110 ∷ 110 ∷ 101 ∷ 99 ∷ 116 ∷ 105 ∷ 111 ∷ 110 ∷ 58 ∷ 32 ∷ 44 ∷ 13 ∷ 10 ∷ 13 ∷ 10 ∷ [])) ∷ trace_114_01)
    ≡ trace_114_02
unfolding settled head_text digits date_at count_off is_name_byte trimmed front_length whole_head host_fits head_of verdict_of target_of framed is_utf8 chars encode
trace_114-02-settled = refl

trace_114-03-settled : settled trace_114_limits trace_114_rules 0 ((0, came (codes "POST /a/./b/../c?q=1 HTTP/1.1\r\nHost: a.b%41\r\nContent-Length: 3\r\n\r\n")) ∷ trace_114_02)
    ≡ trace_114_03
unfolding settled head_text digits date_at count_off is_name_byte trimmed front_length whole_head host_fits head_of verdict_of target_of framed is_utf8 chars encode
trace_114-03-settled = refl

trace_114-04-next : next_job (trace_114_03)
    ≡ (Some (job.Service 2))
unfolding head_text digits date_at count_off is_name_byte
trace_114-04-next = refl

trace_114-05-settled : settled trace_114_limits trace_114_rules 0 ((0, called call.Start None) ∷ trace_114_04)
    ≡ trace_114_05
unfolding settled head_text digits date_at count_off is_name_byte trimmed front_length whole_head host_fits head_of verdict_of target_of framed is_utf8 chars encode
trace_114-05-settled = refl

trace_114-06-settled : settled trace_114_limits trace_114_rules 0 ((0, parked input_side) ∷ trace_114_05)
    ≡ trace_114_06
unfolding settled head_text digits date_at count_off is_name_byte trimmed front_length whole_head host_fits head_of verdict_of target_of framed is_utf8 chars encode
trace_114-06-settled = refl

trace_114-07-tick : tick_move trace_114_limits 1 trace_114_06
    ≡ None
unfolding head_text digits date_at count_off is_name_byte
trace_114-07-tick = refl

trace_114-09-tick : tick_move trace_114_limits 19999 trace_114_08
    ≡ None
unfolding head_text digits date_at count_off is_name_byte
trace_114-09-tick = refl

trace_114-10-settled : settled trace_114_limits trace_114_rules 19999 ((19999, came (codes "b")) ∷ trace_114_08)
    ≡ trace_114_10
unfolding settled head_text digits date_at count_off is_name_byte trimmed front_length whole_head host_fits head_of verdict_of target_of framed is_utf8 chars encode
trace_114-10-settled = refl

trace_114-13-next : next_job (trace_114_12)
    ≡ (Some job.Resume)
unfolding head_text digits date_at count_off is_name_byte
trace_114-13-next = refl

trace_114-14-reply : reply_to trace_114_limits trace_114_rules 0 trace_114_13 (on_act (act.Read 10) [])
    ≡ record { reply = reply.Got 1; got = (codes "b") }
unfolding reply_to head_text digits date_at count_off is_name_byte
trace_114-14-reply = refl

trace_114-14-settled : settled trace_114_limits trace_114_rules 19999 ((19999, given 1) ∷ trace_114_13)
    ≡ trace_114_14
unfolding settled head_text digits date_at count_off is_name_byte trimmed front_length whole_head host_fits head_of verdict_of target_of framed is_utf8 chars encode
trace_114-14-settled = refl

trace_114-17-settled : settled trace_114_limits trace_114_rules 19999 ((19999, put []) ∷ trace_114_14)
    ≡ trace_114_17
unfolding settled head_text digits date_at count_off is_name_byte trimmed front_length whole_head host_fits head_of verdict_of target_of framed is_utf8 chars encode
trace_114-17-settled = refl

trace_114-18-settled : settled trace_114_limits trace_114_rules 19999 ((19999, called call.Return None) ∷ (19999, back) ∷ trace_114_17)
    ≡ trace_114_18
unfolding settled head_text digits date_at count_off is_name_byte trimmed front_length whole_head host_fits head_of verdict_of target_of framed is_utf8 chars encode
trace_114-18-settled = refl

trace_114-19-tick : tick_move trace_114_limits 39998 trace_114_18
    ≡ None
unfolding head_text digits date_at count_off is_name_byte
trace_114-19-tick = refl

trace_114-20-tick : tick_move trace_114_limits 39999 trace_114_18
    ≡ Some (broken ∷ [])
unfolding head_text digits date_at count_off is_name_byte
trace_114-20-tick = refl

trace_114-20-settled : settled trace_114_limits trace_114_rules 39999 ((39999, broken) ∷ trace_114_18)
    ≡ trace_114_20
unfolding settled head_text digits date_at count_off is_name_byte trimmed front_length whole_head host_fits head_of verdict_of target_of framed is_utf8 chars encode
trace_114-20-settled = refl

trace_114-21-tick : tick_move trace_114_limits 39999 trace_114_20
    ≡ None
unfolding head_text digits date_at count_off is_name_byte
trace_114-21-tick = refl

abbrev trace_117_limits : Limits
trace_117_limits = record { max_connections = 256; max_head = 8192; max_fields = 100; max_keep_alive = pos 5; connection_timeout = 20000; async_timeout = 30000; max_swallow = 2097152; max_trailer = 8192; parts = 5 }

abbrev trace_117_rules : List Rule
trace_117_rules = record { pattern = (codes "/a"); part = 1; can_async = false } ∷ record { pattern = (codes "/*"); part = 4; can_async = true } ∷ record { pattern = (codes "/a/*"); part = 2; can_async = true } ∷ record { pattern = (codes "/x/*"); part = 2; can_async = false } ∷ []

abbrev trace_117_01 : Trace
trace_117_01 = (0, opened) ∷ []

abbrev trace_117_02 : Trace
trace_117_02 = (0, began (record { place = 0; size = 76; head = record { method = (codes "HEAD"); target = (codes "//a//b/"); minor = 0; fields = record { name = (codes "Utf"); value = (195 ∷ 169 ∷ []) } ∷ record { name = (codes "Utf"); value = (195 ∷ 169 ∷ []) } ∷ record { name = (codes "Content-Length"); value = (codes "3") } ∷ record { name = (codes "Host"); value = (codes "a.b%41") } ∷ [] }; framing = (framing.Length 3); max_trailer = 8192; async_timeout = 30000; part = 2; can_async = true; keep = false; go_on = false })) ∷ (0, came (72 ∷ 69 ∷ 65 ∷ 68 ∷ 32 ∷ 47 ∷ 47 ∷ 97 ∷ 47 ∷ 47 ∷ 98 ∷ 47 ∷ 32 ∷ 72 ∷ 84 ∷ 84 ∷ 80 ∷ 47 ∷ 49 ∷ 46 ∷ 48 ∷ 13 ∷ 10 ∷ 85 ∷ 116 ∷ 102 ∷ 58 ∷ 32 ∷ 195 ∷ 169 ∷ 13 ∷ 10 ∷ 85 ∷ 116 ∷ 102 ∷ 58 ∷ 32 ∷ 195 ∷ 169 ∷ 13 ∷ 10 ∷ 67 ∷ 111 ∷ 110 ∷ 116 ∷ 101 ∷ 110 ∷ 116 ∷ 45 ∷ 76 ∷ 101 ∷ 110 ∷ 103 ∷ 116 ∷ 104 ∷ 58 ∷ 32 ∷ 51 ∷ 13 ∷ 10 ∷ 72 ∷ 111 ∷ 115 ∷ 116 ∷ 58 ∷ 32 ∷ 97 ∷ 46 ∷ 98 ∷ 37 ∷ 52 ∷ 49 ∷ 13 ∷ 10 ∷ 13 ∷ 10 ∷ [])) ∷ trace_117_01

abbrev trace_117_03 : Trace
trace_117_03 = (0, called call.Run None) ∷ (0, started (job.Service 2)) ∷ trace_117_02

abbrev trace_117_04 : Trace
trace_117_04 = (0, answer_reset) ∷ trace_117_03

abbrev trace_117_06 : Trace
trace_117_06 = (0, parked input_side) ∷ trace_117_04

abbrev trace_117_08 : Trace
trace_117_08 = (0, sent 0) ∷ trace_117_06

abbrev trace_117_10 : Trace
trace_117_10 = (0, came (codes "cxx")) ∷ trace_117_08

abbrev trace_117_11 : Trace
trace_117_11 = (0, came (codes "GET /a HTTP/1.0\r\nHost: a\r\nConnection: keep-alive\r\nA: b\r\n\r\nPOST / HTTP/1.1\r\nHost: \r\nContent-Length: 0")) ∷ trace_117_10

abbrev trace_117_12 : Trace
trace_117_12 = (0, started job.Resume) ∷ trace_117_11

abbrev trace_117_13 : Trace
trace_117_13 = (0, caused cause.LastAnswer) ∷ (0, over) ∷ (0, error_answer 500) ∷ (0, called call.Fail None) ∷ (0, back) ∷ trace_117_12

abbrev trace_117_14 : Trace
trace_117_14 = (0, sent 119) ∷ trace_117_13

trace_117-connection : connection_told trace_117_14
    ≡ record {
      came = 179;
      consumed = 79;
      room = 16284;
      has_ended = false;
      cause = (Some cause.LastAnswer);
      is_broken = false;
      is_gone = true;
      is_open = false;
      begun = 1;
      output = (codes "HTTP/1.1 500 \r\nContent-Type: text/plain\r\nContent-Length: 10\r\nDate: Thu, 01 Jan 1970 00:00:00 GMT\r\nConnection: close\r\n\r\n");
      took = 119;
      unsent = 0;
      idle_since = 0;
      next_job = None;
      charts = (call.Run ∷ call.Fail ∷ []) ∷ [];
    }
unfolding head_text digits date_at count_off is_name_byte
trace_117-connection = refl

trace_117-request : request_told trace_117_14
    ≡ record {
      part = 2;
      state = state.Dispatched;
      running = None;
      parked = None;
      given = 0;
      is_end_told = false;
      waiting = 3;
      used = 3;
      swallowed = 3;
      has_whole_body = true;
      has_bad_body = false;
      listeners = [];
      owed = [];
      deadline = None;
      ready = record { read_set = false; read_armed = false; all_read_told = false; write_set = false; write_armed = false };
    }
unfolding is_name_byte
trace_117-request = refl

trace_117-answer : answer_told trace_117_14
    ≡ record {
      status = 500;
      fields = record { name = (codes "Content-Type"); value = (codes "text/plain") } ∷ [];
      set_length = None;
      content = 10;
      is_aborted = false;
    }
unfolding digits
trace_117-answer = refl

trace_117-01-settled : settled trace_117_limits trace_117_rules 0 ((0, opened) ∷ [])
    ≡ trace_117_01
unfolding settled head_text digits date_at count_off is_name_byte trimmed front_length whole_head host_fits head_of verdict_of target_of framed is_utf8 chars encode
trace_117-01-settled = refl

trace_117-03-next : next_job (trace_117_02)
    ≡ (Some (job.Service 2))
unfolding head_text digits date_at count_off is_name_byte
trace_117-03-next = refl

trace_117-04-settled : settled trace_117_limits trace_117_rules 0 ((0, answer_reset) ∷ trace_117_03)
    ≡ trace_117_04
unfolding settled head_text digits date_at count_off is_name_byte trimmed front_length whole_head host_fits head_of verdict_of target_of framed is_utf8 chars encode
trace_117-04-settled = refl

trace_117-05-reply : reply_to trace_117_limits trace_117_rules 0 trace_117_04 (on_act (act.Read 1) [])
    ≡ plain reply.Again
unfolding reply_to head_text digits date_at count_off is_name_byte
trace_117-05-reply = refl

trace_117-06-settled : settled trace_117_limits trace_117_rules 0 ((0, parked input_side) ∷ trace_117_04)
    ≡ trace_117_06
unfolding settled head_text digits date_at count_off is_name_byte trimmed front_length whole_head host_fits head_of verdict_of target_of framed is_utf8 chars encode
trace_117-06-settled = refl

trace_117-08-settled : settled trace_117_limits trace_117_rules 0 ((0, sent 0) ∷ trace_117_06)
    ≡ trace_117_08
unfolding settled head_text digits date_at count_off is_name_byte trimmed front_length whole_head host_fits head_of verdict_of target_of framed is_utf8 chars encode
trace_117-08-settled = refl

trace_117-10-settled : settled trace_117_limits trace_117_rules 0 ((0, came (codes "cxx")) ∷ trace_117_08)
    ≡ trace_117_10
unfolding settled head_text digits date_at count_off is_name_byte trimmed front_length whole_head host_fits head_of verdict_of target_of framed is_utf8 chars encode
trace_117-10-settled = refl

trace_117-11-settled : settled trace_117_limits trace_117_rules 0 ((0, came (codes "GET /a HTTP/1.0\r\nHost: a\r\nConnection: keep-alive\r\nA: b\r\n\r\nPOST / HTTP/1.1\r\nHost: \r\nContent-Length: 0")) ∷ trace_117_10)
    ≡ trace_117_11
unfolding settled head_text digits date_at count_off is_name_byte trimmed front_length whole_head host_fits head_of verdict_of target_of framed is_utf8 chars encode
trace_117-11-settled = refl

trace_117-12-next : next_job (trace_117_11)
    ≡ (Some job.Resume)
unfolding head_text digits date_at count_off is_name_byte
trace_117-12-next = refl

trace_117-13-end : end_marks ((0, error_answer 500) ∷ (0, called call.Fail None) ∷ (0, back) ∷ trace_117_12)
    ≡ (over ∷ caused cause.LastAnswer ∷ [])
unfolding head_text digits date_at count_off is_name_byte
trace_117-13-end = refl

trace_117-13-settled : settled trace_117_limits trace_117_rules 0 ((0, caused cause.LastAnswer) ∷ (0, over) ∷ (0, error_answer 500) ∷ (0, called call.Fail None) ∷ (0, back) ∷ trace_117_12)
    ≡ trace_117_13
unfolding settled head_text digits date_at count_off is_name_byte trimmed front_length whole_head host_fits head_of verdict_of target_of framed is_utf8 chars encode
trace_117-13-settled = refl

trace_117-14-settled : settled trace_117_limits trace_117_rules 0 ((0, sent 119) ∷ trace_117_13)
    ≡ trace_117_14
unfolding settled head_text digits date_at count_off is_name_byte trimmed front_length whole_head host_fits head_of verdict_of target_of framed is_utf8 chars encode
trace_117-14-settled = refl
