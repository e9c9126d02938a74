-- Traces that another program made, with what it tells of them, computed from the definitions. Made by `cases/rows.py`.
use Rattle.std.proofs.Common.{◌≡◌, true, false, List, [], ◌∷◌, Some, None, codes, refl}
use Rattle.std.specs.Prelude.{pos}
use Rattle.std.specs.Fmt.{digits}
use Rattle.std.specs.Str.{is_utf8, chars}
use lib.Utf8.{encode}
use Rattle.cy_event.specs.declared.framing.Framing.TheVariants as framing
use Rattle.cy_event.specs.declared.limits.Limits.{Limits}
use Rattle.cy_event.specs.declared.steps.Act.TheVariants as act
use Rattle.cy_event.specs.declared.steps.Call.TheVariants as call
use Rattle.cy_event.specs.declared.steps.CloseCause.TheVariants as cause
use Rattle.cy_event.specs.declared.steps.Job.TheVariants as job
use Rattle.cy_event.specs.declared.steps.Reply.TheVariants as reply
use Rattle.cy_event.specs.declared.steps.State.TheVariants as state
use Rattle.cy_event.specs.Answers.{head_text}
use Rattle.cy_event.specs.Dates.{date_at, count_off}
use Rattle.cy_event.specs.Framings.{framed}
use Rattle.cy_event.specs.Heads.{is_name_byte, trimmed, front_length, whole_head, host_fits, head_of}
use Rattle.cy_event.specs.Targets.{target_of}
use Rattle.cy_map.specs.declared.rule.Rule.{Rule}
use Rattle.cy_model.specs.Endings.{end_marks}
use Rattle.cy_model.specs.Entries.{on_act, reply_to}
use Rattle.cy_model.specs.Jobs.{next_job}
use Rattle.cy_model.specs.Marks.{Trace, opened, came, sent, began, refused, called, started, back, given, end_given, read_listener_set, put, flushed, nothing_to_flush, over, caused, broken}
use Rattle.cy_model.specs.Replies.{plain}
use Rattle.cy_model.specs.Settling.{settled}
use Rattle.cy_model.specs.Ticks.{tick_move}
use Rattle.cy_model.specs.Verdicts.{verdict_of}
use Rattle.cy_rows.specs.Told.{answer_told, connection_told, request_told}

abbrev trace_032_limits : Limits
trace_032_limits = record { max_connections = 2; max_head = 8192; max_fields = 100; max_keep_alive = pos 100; connection_timeout = 20000; async_timeout = 30000; max_swallow = 2097152; max_trailer = 8192; parts = 3 }

abbrev trace_032_rules : List Rule
trace_032_rules = record { pattern = (codes "/"); part = 0; can_async = true } ∷ record { pattern = (codes "/a"); part = 1; can_async = true } ∷ record { pattern = (codes "/x/*"); part = 2; can_async = false } ∷ []

abbrev trace_032_01 : Trace
trace_032_01 = (0, opened) ∷ []

abbrev trace_032_02 : Trace
trace_032_02 = (0, began (record { place = 0; size = 87; head = record { method = (codes "POST"); target = (codes "/"); minor = 1; fields = record { name = (codes "Cookie"); value = (codes "x=1; y=2") } ∷ record { name = (codes "Host"); value = (codes "[::1]:80") } ∷ record { name = (codes "A"); value = (codes "b") } ∷ record { name = (codes "Transfer-Encoding"); value = (codes "chunked") } ∷ [] }; framing = framing.Chunked; max_trailer = 8192; async_timeout = 30000; part = 0; can_async = true; keep = true; go_on = false })) ∷ (0, came (codes "POST / HTTP/1.1\r\nCookie: x=1; y=2\r\nHost: [::1]:80\r\nA: b\r\nTransfer-Encoding: chunked\r\n\r\n")) ∷ trace_032_01

abbrev trace_032_03 : Trace
trace_032_03 = (0, called call.Run None) ∷ (0, started (job.Service 0)) ∷ trace_032_02

abbrev trace_032_04 : Trace
trace_032_04 = (0, put (codes "a")) ∷ trace_032_03

abbrev trace_032_05 : Trace
trace_032_05 = (0, called call.Start None) ∷ trace_032_04

abbrev trace_032_06 : Trace
trace_032_06 = (0, sent 0) ∷ trace_032_05

abbrev trace_032_07 : Trace
trace_032_07 = (0, flushed) ∷ trace_032_06

abbrev trace_032_08 : Trace
trace_032_08 = (0, called call.DispatchOther (Some 2)) ∷ trace_032_07

abbrev trace_032_10 : Trace
trace_032_10 = (0, nothing_to_flush) ∷ trace_032_08

abbrev trace_032_12 : Trace
trace_032_12 = (0, broken) ∷ (0, caused cause.Shut) ∷ trace_032_10

abbrev trace_032_13 : Trace
trace_032_13 = (0, called call.Return None) ∷ (0, back) ∷ trace_032_12

abbrev trace_032_14 : Trace
trace_032_14 = (0, called call.Run None) ∷ (0, started (job.Again 2)) ∷ trace_032_13

abbrev trace_032_15 : Trace
trace_032_15 = (0, over) ∷ (0, called call.Return None) ∷ (0, back) ∷ trace_032_14

trace_032-connection : connection_told trace_032_15
    ≡ record {
      came = 87;
      consumed = 87;
      room = 16384;
      has_ended = false;
      cause = (Some cause.Shut);
      is_broken = true;
      is_gone = true;
      is_open = false;
      begun = 1;
      output = (codes "HTTP/1.1 200 \r\nTransfer-Encoding: chunked\r\nDate: Thu, 01 Jan 1970 00:00:00 GMT\r\n\r\n1\r\na\r\n");
      took = 0;
      unsent = 0;
      idle_since = 0;
      next_job = None;
      charts = (call.Run ∷ call.Start ∷ call.DispatchOther ∷ call.Return ∷ call.Run ∷ call.Return ∷ []) ∷ [];
    }
unfolding head_text digits date_at count_off is_name_byte
trace_032-connection = refl

trace_032-request : request_told trace_032_15
    ≡ record {
      part = 2;
      state = state.Dispatched;
      running = None;
      parked = None;
      given = 0;
      is_end_told = false;
      waiting = 0;
      used = 0;
      swallowed = 0;
      has_whole_body = false;
      has_bad_body = false;
      listeners = [];
      owed = [];
      deadline = None;
      ready = record { read_set = false; read_armed = false; all_read_told = false; write_set = false; write_armed = false };
    }
unfolding is_name_byte
trace_032-request = refl

trace_032-answer : answer_told trace_032_15
    ≡ record {
      status = 200;
      fields = [];
      set_length = None;
      content = 1;
      is_aborted = false;
    }
unfolding digits
trace_032-answer = refl

trace_032-01-settled : settled trace_032_limits trace_032_rules 0 ((0, opened) ∷ [])
    ≡ trace_032_01
unfolding settled head_text digits date_at count_off is_name_byte trimmed front_length whole_head host_fits head_of verdict_of target_of framed is_utf8 chars encode
trace_032-01-settled = refl

trace_032-02-settled : settled trace_032_limits trace_032_rules 0 ((0, came (codes "POST / HTTP/1.1\r\nCookie: x=1; y=2\r\nHost: [::1]:80\r\nA: b\r\nTransfer-Encoding: chunked\r\n\r\n")) ∷ trace_032_01)
    ≡ trace_032_02
unfolding settled head_text digits date_at count_off is_name_byte trimmed front_length whole_head host_fits head_of verdict_of target_of framed is_utf8 chars encode
trace_032-02-settled = refl

trace_032-03-next : next_job (trace_032_02)
    ≡ (Some (job.Service 0))
unfolding head_text digits date_at count_off is_name_byte
trace_032-03-next = refl

trace_032-04-settled : settled trace_032_limits trace_032_rules 0 ((0, put (codes "a")) ∷ trace_032_03)
    ≡ trace_032_04
unfolding settled head_text digits date_at count_off is_name_byte trimmed front_length whole_head host_fits head_of verdict_of target_of framed is_utf8 chars encode
trace_032-04-settled = refl

trace_032-05-settled : settled trace_032_limits trace_032_rules 0 ((0, called call.Start None) ∷ trace_032_04)
    ≡ trace_032_05
unfolding settled head_text digits date_at count_off is_name_byte trimmed front_length whole_head host_fits head_of verdict_of target_of framed is_utf8 chars encode
trace_032-05-settled = refl

trace_032-06-settled : settled trace_032_limits trace_032_rules 0 ((0, sent 0) ∷ trace_032_05)
    ≡ trace_032_06
unfolding settled head_text digits date_at count_off is_name_byte trimmed front_length whole_head host_fits head_of verdict_of target_of framed is_utf8 chars encode
trace_032-06-settled = refl

trace_032-07-settled : settled trace_032_limits trace_032_rules 0 ((0, flushed) ∷ trace_032_06)
    ≡ trace_032_07
unfolding settled head_text digits date_at count_off is_name_byte trimmed front_length whole_head host_fits head_of verdict_of target_of framed is_utf8 chars encode
trace_032-07-settled = refl

trace_032-09-reply : reply_to trace_032_limits trace_032_rules 0 trace_032_08 (on_act (act.Read 10) [])
    ≡ plain reply.Again
unfolding reply_to head_text digits date_at count_off is_name_byte
trace_032-09-reply = refl

trace_032-10-settled : settled trace_032_limits trace_032_rules 0 ((0, nothing_to_flush) ∷ trace_032_08)
    ≡ trace_032_10
unfolding settled head_text digits date_at count_off is_name_byte trimmed front_length whole_head host_fits head_of verdict_of target_of framed is_utf8 chars encode
trace_032-10-settled = refl

trace_032-12-settled : settled trace_032_limits trace_032_rules 0 ((0, broken) ∷ (0, caused cause.Shut) ∷ trace_032_10)
    ≡ trace_032_12
unfolding settled head_text digits date_at count_off is_name_byte trimmed front_length whole_head host_fits head_of verdict_of target_of framed is_utf8 chars encode
trace_032-12-settled = refl

trace_032-13-settled : settled trace_032_limits trace_032_rules 0 ((0, called call.Return None) ∷ (0, back) ∷ trace_032_12)
    ≡ trace_032_13
unfolding settled head_text digits date_at count_off is_name_byte trimmed front_length whole_head host_fits head_of verdict_of target_of framed is_utf8 chars encode
trace_032-13-settled = refl

trace_032-14-next : next_job (trace_032_13)
    ≡ (Some (job.Again 2))
unfolding head_text digits date_at count_off is_name_byte
trace_032-14-next = refl

trace_032-15-end : end_marks ((0, called call.Return None) ∷ (0, back) ∷ trace_032_14)
    ≡ (over ∷ [])
unfolding head_text digits date_at count_off is_name_byte
trace_032-15-end = refl

trace_032-15-settled : settled trace_032_limits trace_032_rules 0 ((0, over) ∷ (0, called call.Return None) ∷ (0, back) ∷ trace_032_14)
    ≡ trace_032_15
unfolding settled head_text digits date_at count_off is_name_byte trimmed front_length whole_head host_fits head_of verdict_of target_of framed is_utf8 chars encode
trace_032-15-settled = refl

abbrev trace_033_limits : Limits
trace_033_limits = record { max_connections = 256; max_head = 8192; max_fields = 100; max_keep_alive = pos 2; connection_timeout = 20000; async_timeout = 1; max_swallow = 2097152; max_trailer = 40; parts = 3 }

abbrev trace_033_rules : List Rule
trace_033_rules = record { pattern = (codes "/"); part = 0; can_async = true } ∷ record { pattern = (codes "/a"); part = 1; can_async = true } ∷ record { pattern = (codes "/x/*"); part = 2; can_async = false } ∷ []

abbrev trace_033_01 : Trace
trace_033_01 = (0, opened) ∷ []

abbrev trace_033_02 : Trace
trace_033_02 = (0, began (record { place = 0; size = 49; head = record { method = (codes "POST"); target = (codes "/"); minor = 1; fields = record { name = (codes "Host"); value = (codes "a") } ∷ record { name = (codes "Content-Length"); value = (codes "200") } ∷ [] }; framing = (framing.Length 200); max_trailer = 40; async_timeout = 1; part = 0; can_async = true; keep = true; go_on = false })) ∷ (0, came (codes "POST / HTTP/1.1\r\nHost: a\r\nContent-Length: 200\r\n\r\ndzxbxyxadc")) ∷ trace_033_01

abbrev trace_033_03 : Trace
trace_033_03 = (0, called call.Run None) ∷ (0, started (job.Service 0)) ∷ trace_033_02

abbrev trace_033_04 : Trace
trace_033_04 = (0, called call.Start None) ∷ trace_033_03

abbrev trace_033_05 : Trace
trace_033_05 = (0, read_listener_set) ∷ trace_033_04

abbrev trace_033_06 : Trace
trace_033_06 = (0, called call.Return None) ∷ (0, back) ∷ trace_033_05

abbrev trace_033_07 : Trace
trace_033_07 = (0, came (122 ∷ 97 ∷ 122 ∷ 122 ∷ 97 ∷ 120 ∷ 120 ∷ 121 ∷ 100 ∷ 98 ∷ 100 ∷ 121 ∷ 97 ∷ 122 ∷ 122 ∷ 98 ∷ 122 ∷ 120 ∷ 120 ∷ 121 ∷ 98 ∷ 122 ∷ 100 ∷ 100 ∷ 120 ∷ 97 ∷ 98 ∷ 99 ∷ 120 ∷ 120 ∷ 120 ∷ 97 ∷ 100 ∷ 121 ∷ 97 ∷ 100 ∷ 100 ∷ 120 ∷ 122 ∷ 99 ∷ 97 ∷ 121 ∷ 98 ∷ 121 ∷ 121 ∷ 97 ∷ 121 ∷ 122 ∷ 99 ∷ 122 ∷ 100 ∷ 100 ∷ 121 ∷ 122 ∷ 100 ∷ 98 ∷ 120 ∷ 121 ∷ 99 ∷ 98 ∷ 99 ∷ 97 ∷ 97 ∷ 97 ∷ 121 ∷ 98 ∷ 100 ∷ 98 ∷ 97 ∷ 122 ∷ 121 ∷ 100 ∷ 121 ∷ 100 ∷ 121 ∷ 99 ∷ 98 ∷ 97 ∷ 122 ∷ 121 ∷ 100 ∷ 122 ∷ 100 ∷ 122 ∷ 120 ∷ 122 ∷ 121 ∷ 122 ∷ 100 ∷ 99 ∷ 121 ∷ 97 ∷ 97 ∷ 99 ∷ 97 ∷ 97 ∷ 122 ∷ 97 ∷ 99 ∷ 120 ∷ 98 ∷ 97 ∷ 121 ∷ 97 ∷ 120 ∷ 121 ∷ 120 ∷ 120 ∷ 100 ∷ 121 ∷ 97 ∷ 120 ∷ 98 ∷ 97 ∷ 100 ∷ 99 ∷ 97 ∷ 98 ∷ 98 ∷ 122 ∷ 99 ∷ 100 ∷ 99 ∷ 99 ∷ 120 ∷ 100 ∷ 122 ∷ 120 ∷ 120 ∷ 122 ∷ 99 ∷ 99 ∷ 122 ∷ 100 ∷ 122 ∷ 99 ∷ 100 ∷ 122 ∷ 121 ∷ 98 ∷ 100 ∷ 122 ∷ 97 ∷ 99 ∷ 97 ∷ 121 ∷ 99 ∷ 122 ∷ 97 ∷ 98 ∷ 100 ∷ 98 ∷ 122 ∷ 122 ∷ 98 ∷ 120 ∷ 120 ∷ 99 ∷ 97 ∷ 100 ∷ 121 ∷ 97 ∷ 122 ∷ 100 ∷ 121 ∷ 98 ∷ 120 ∷ 97 ∷ 122 ∷ 97 ∷ 121 ∷ 97 ∷ 122 ∷ 122 ∷ 121 ∷ 122 ∷ 97 ∷ 120 ∷ 120 ∷ 100 ∷ 99 ∷ 100 ∷ 98 ∷ 121 ∷ 100 ∷ 98 ∷ 121 ∷ 122 ∷ 121 ∷ 99 ∷ 80 ∷ 79 ∷ 83 ∷ 84 ∷ 32 ∷ 47 ∷ 97 ∷ 92 ∷ 98 ∷ 32 ∷ 72 ∷ 84 ∷ 84 ∷ 80 ∷ 47 ∷ 49 ∷ 46 ∷ 49 ∷ 13 ∷ 10 ∷ 85 ∷ 116 ∷ 102 ∷ 58 ∷ 32 ∷ 195 ∷ 169 ∷ 13 ∷ 10 ∷ 72 ∷ 111 ∷ 115 ∷ 116 ∷ 58 ∷ 32 ∷ 97 ∷ 13 ∷ 10 ∷ 13 ∷ 10 ∷ [])) ∷ trace_033_06

abbrev trace_033_08 : Trace
trace_033_08 = (0, called call.Run None) ∷ (0, started job.Readable) ∷ trace_033_07

abbrev trace_033_09 : Trace
trace_033_09 = (0, given 200) ∷ trace_033_08

abbrev trace_033_10 : Trace
trace_033_10 = (0, called call.Return None) ∷ (0, back) ∷ trace_033_09

abbrev trace_033_11 : Trace
trace_033_11 = (0, called call.Run None) ∷ (0, started job.AllRead) ∷ trace_033_10

abbrev trace_033_12 : Trace
trace_033_12 = (0, end_given) ∷ trace_033_11

abbrev trace_033_14 : Trace
trace_033_14 = (0, called call.CompleteOwn None) ∷ trace_033_12

abbrev trace_033_15 : Trace
trace_033_15 = (0, caused cause.Refused) ∷ (0, refused 400 false) ∷ (0, over) ∷ (0, called call.Return None) ∷ (0, called call.Return None) ∷ (0, back) ∷ trace_033_14

abbrev trace_033_24 : Trace
trace_033_24 = (0, sent 73) ∷ trace_033_15

abbrev trace_033_26 : Trace
trace_033_26 = (0, sent 129) ∷ trace_033_24

trace_033-connection : connection_told trace_033_26
    ≡ record {
      came = 289;
      consumed = 249;
      room = 16344;
      has_ended = false;
      cause = (Some cause.Refused);
      is_broken = false;
      is_gone = true;
      is_open = false;
      begun = 1;
      output = (codes "HTTP/1.1 200 \r\nContent-Length: 0\r\nDate: Thu, 01 Jan 1970 00:00:00 GMT\r\n\r\nHTTP/1.1 400 \r\nContent-Type: text/plain\r\nContent-Length: 10\r\nDate: Thu, 01 Jan 1970 00:00:00 GMT\r\nConnection: close\r\n\r\nError 400\n");
      took = 202;
      unsent = 0;
      idle_since = 0;
      next_job = None;
      charts = (call.Run ∷ call.Start ∷ call.Return ∷ call.Run ∷ call.Return ∷ call.Run ∷ call.CompleteOwn ∷ call.Return ∷ call.Return ∷ []) ∷ [];
    }
unfolding head_text digits date_at count_off is_name_byte
trace_033-connection = refl

trace_033-01-settled : settled trace_033_limits trace_033_rules 0 ((0, opened) ∷ [])
    ≡ trace_033_01
unfolding settled head_text digits date_at count_off is_name_byte trimmed front_length whole_head host_fits head_of verdict_of target_of framed is_utf8 chars encode
trace_033-01-settled = refl

trace_033-02-settled : settled trace_033_limits trace_033_rules 0 ((0, came (codes "POST / HTTP/1.1\r\nHost: a\r\nContent-Length: 200\r\n\r\ndzxbxyxadc")) ∷ trace_033_01)
    ≡ trace_033_02
unfolding settled head_text digits date_at count_off is_name_byte trimmed front_length whole_head host_fits head_of verdict_of target_of framed is_utf8 chars encode
trace_033-02-settled = refl

trace_033-03-next : next_job (trace_033_02)
    ≡ (Some (job.Service 0))
unfolding head_text digits date_at count_off is_name_byte
trace_033-03-next = refl

trace_033-04-settled : settled trace_033_limits trace_033_rules 0 ((0, called call.Start None) ∷ trace_033_03)
    ≡ trace_033_04
unfolding settled head_text digits date_at count_off is_name_byte trimmed front_length whole_head host_fits head_of verdict_of target_of framed is_utf8 chars encode
trace_033-04-settled = refl

trace_033-05-settled : settled trace_033_limits trace_033_rules 0 ((0, read_listener_set) ∷ trace_033_04)
    ≡ trace_033_05
unfolding settled head_text digits date_at count_off is_name_byte trimmed front_length whole_head host_fits head_of verdict_of target_of framed is_utf8 chars encode
trace_033-05-settled = refl

trace_033-06-settled : settled trace_033_limits trace_033_rules 0 ((0, called call.Return None) ∷ (0, back) ∷ trace_033_05)
    ≡ trace_033_06
unfolding settled head_text digits date_at count_off is_name_byte trimmed front_length whole_head host_fits head_of verdict_of target_of framed is_utf8 chars encode
trace_033-06-settled = refl

trace_033-07-settled : settled trace_033_limits trace_033_rules 0 ((0, came (122 ∷ 97 ∷ 122 ∷ 122 ∷ 97 ∷ 120 ∷ 120 ∷ 121 ∷ 100 ∷ 98 ∷ 100 ∷ 121 ∷ 97 ∷ 122 ∷ 122 ∷ 98 ∷ 122 ∷ 120 ∷ 120 ∷ 121 ∷ 98 ∷ 122 ∷ 100 ∷ 100 ∷ 120 ∷ 97 ∷ 98 ∷ 99 ∷ 120 ∷ 120 ∷ 120 ∷ 97 ∷ 100 ∷ 121 ∷ 97 ∷ 100 ∷ 100 ∷ 120 ∷ 122 ∷ 99 ∷ 97 ∷ 121 ∷ 98 ∷ 121 ∷ 121 ∷ 97 ∷ 121 ∷ 122 ∷ 99 ∷ 122 ∷ 100 ∷ 100 ∷ 121 ∷ 122 ∷ 100 ∷ 98 ∷ 120 ∷ 121 ∷ 99 ∷ 98 ∷ 99 ∷ 97 ∷ 97 ∷ 97 ∷ 121 ∷ 98 ∷ 100 ∷ 98 ∷ 97 ∷ 122 ∷ 121 ∷ 100 ∷ 121 ∷ 100 ∷ 121 ∷ 99 ∷ 98 ∷ 97 ∷ 122 ∷ 121 ∷ 100 ∷ 122 ∷ 100 ∷ 122 ∷ 120 ∷ 122 ∷ 121 ∷ 122 ∷ 100 ∷ 99 ∷ 121 ∷ 97 ∷ 97 ∷ 99 ∷ 97 ∷ 97 ∷ 122 ∷ 97 ∷ 99 ∷ 120 ∷ 98 ∷ 97 ∷ 121 ∷ 97 ∷ 120 ∷ 121 ∷ 120 ∷ 120 ∷ 100 ∷ 121 ∷ 97 ∷ 120 ∷ 98 ∷ 97 ∷ 100 ∷ 99 ∷ 97 ∷ 98 ∷ 98 ∷ 122 ∷ 99 ∷ 100 ∷ 99 ∷ 99 ∷ 120 ∷ 100 ∷ 122 ∷ 120 ∷ 120 ∷ 122 ∷ 99 ∷ 99 ∷ 122 ∷ 100 ∷ 122 ∷ 99 ∷ 100 ∷ 122 ∷ 121 ∷ 98 ∷ 100 ∷ 122 ∷ 97 ∷ 99 ∷ 97 ∷ 121 ∷ 99 ∷ 122 ∷ 97 ∷ 98 ∷ 100 ∷ 98 ∷ 122 ∷ 122 ∷ 98 ∷ 120 ∷ 120 ∷ 99 ∷ 97 ∷ 100 ∷ 121 ∷ 97 ∷ 122 ∷ 100 ∷ 121 ∷ 98 ∷ 120 ∷ 97 ∷ 122 ∷ 97 ∷ 121 ∷ 97 ∷ 122 ∷ 122 ∷ 121 ∷ 122 ∷ 97 ∷ 120 ∷ 120 ∷ 100 ∷ 99 ∷ 100 ∷ 98 ∷ 121 ∷ 100 ∷ 98 ∷ 121 ∷ 122 ∷ 121 ∷ 99 ∷ 80 ∷ 79 ∷ 83 ∷ 84 ∷ 32 ∷ 47 ∷ 97 ∷ 92 ∷ 98 ∷ 32 ∷ 72 ∷ 84 ∷ 84 ∷ 80 ∷ 47 ∷ 49 ∷ 46 ∷ 49 ∷ 13 ∷ 10 ∷ 85 ∷ 116 ∷ 102 ∷ 58 ∷ 32 ∷ 195 ∷ 169 ∷ 13 ∷ 10 ∷ 72 ∷ 111 ∷ 115 ∷ 116 ∷ 58 ∷ 32 ∷ 97 ∷ 13 ∷ 10 ∷ 13 ∷ 10 ∷ [])) ∷ trace_033_06)
    ≡ trace_033_07
unfolding settled head_text digits date_at count_off is_name_byte trimmed front_length whole_head host_fits head_of verdict_of target_of framed is_utf8 chars encode
trace_033-07-settled = refl

trace_033-08-next : next_job (trace_033_07)
    ≡ (Some job.Readable)
unfolding head_text digits date_at count_off is_name_byte
trace_033-08-next = refl

trace_033-09-reply : reply_to trace_033_limits trace_033_rules 0 trace_033_08 (on_act (act.Read 65536) [])
    ≡ record { reply = reply.Got 200; got = (codes "dzxbxyxadczazzaxxydbdyazzbzxxybzddxabcxxxadyaddxzcaybyyayzczddyzdbxycbcaaaybdbazydydycbazydzdzxzyzdcyaacaazacxbayaxyxxdyaxbadcabbzcdccxdzxxzcczdzcdzybdzacayczabdbzzbxxcadyazdybxazayazzyzaxxdcdbydbyzyc") }
unfolding reply_to head_text digits date_at count_off is_name_byte
trace_033-09-reply = refl

trace_033-09-settled : settled trace_033_limits trace_033_rules 0 ((0, given 200) ∷ trace_033_08)
    ≡ trace_033_09
unfolding settled head_text digits date_at count_off is_name_byte trimmed front_length whole_head host_fits head_of verdict_of target_of framed is_utf8 chars encode
trace_033-09-settled = refl

trace_033-10-settled : settled trace_033_limits trace_033_rules 0 ((0, called call.Return None) ∷ (0, back) ∷ trace_033_09)
    ≡ trace_033_10
unfolding settled head_text digits date_at count_off is_name_byte trimmed front_length whole_head host_fits head_of verdict_of target_of framed is_utf8 chars encode
trace_033-10-settled = refl

trace_033-11-next : next_job (trace_033_10)
    ≡ (Some job.AllRead)
unfolding head_text digits date_at count_off is_name_byte
trace_033-11-next = refl

trace_033-12-reply : reply_to trace_033_limits trace_033_rules 0 trace_033_11 (on_act (act.Read 5) [])
    ≡ plain reply.GotEnd
unfolding reply_to head_text digits date_at count_off is_name_byte
trace_033-12-reply = refl

trace_033-12-settled : settled trace_033_limits trace_033_rules 0 ((0, end_given) ∷ trace_033_11)
    ≡ trace_033_12
unfolding settled head_text digits date_at count_off is_name_byte trimmed front_length whole_head host_fits head_of verdict_of target_of framed is_utf8 chars encode
trace_033-12-settled = refl

trace_033-14-settled : settled trace_033_limits trace_033_rules 0 ((0, called call.CompleteOwn None) ∷ trace_033_12)
    ≡ trace_033_14
unfolding settled head_text digits date_at count_off is_name_byte trimmed front_length whole_head host_fits head_of verdict_of target_of framed is_utf8 chars encode
trace_033-14-settled = refl

trace_033-15-settled : settled trace_033_limits trace_033_rules 0 ((0, called call.Return None) ∷ (0, back) ∷ trace_033_14)
    ≡ trace_033_15
unfolding settled head_text digits date_at count_off is_name_byte trimmed front_length whole_head host_fits head_of verdict_of target_of framed is_utf8 chars encode
trace_033-15-settled = refl

trace_033-17-reply : reply_to trace_033_limits trace_033_rules 0 trace_033_15 (on_act (act.Read 5) [])
    ≡ plain reply.NotActive
unfolding reply_to head_text digits date_at count_off is_name_byte
trace_033-17-reply = refl

trace_033-20-reply : reply_to trace_033_limits trace_033_rules 0 trace_033_15 (on_act (act.Read 65536) [])
    ≡ plain reply.NotActive
unfolding reply_to head_text digits date_at count_off is_name_byte
trace_033-20-reply = refl

trace_033-24-settled : settled trace_033_limits trace_033_rules 0 ((0, sent 73) ∷ trace_033_15)
    ≡ trace_033_24
unfolding settled head_text digits date_at count_off is_name_byte trimmed front_length whole_head host_fits head_of verdict_of target_of framed is_utf8 chars encode
trace_033-24-settled = refl

trace_033-26-settled : settled trace_033_limits trace_033_rules 0 ((0, sent 129) ∷ trace_033_24)
    ≡ trace_033_26
unfolding settled head_text digits date_at count_off is_name_byte trimmed front_length whole_head host_fits head_of verdict_of target_of framed is_utf8 chars encode
trace_033-26-settled = refl

trace_033-35-tick : tick_move trace_033_limits 0 trace_033_26
    ≡ None
unfolding head_text digits date_at count_off is_name_byte
trace_033-35-tick = refl
