-- Traces that another program made, with what it tells of them, computed from the definitions. Made by `cases/rows.py`.
use Rattle.std.proofs.Common.{◌≡◌, true, false, List, [], ◌∷◌, Some, None, codes, refl}
use Rattle.std.specs.Prelude.{pos}
use Rattle.std.specs.Fmt.{digits}
use Rattle.std.specs.Str.{is_utf8, chars}
use lib.Utf8.{encode}
use Rattle.cy_event.specs.declared.framing.Framing.TheVariants as framing
use Rattle.cy_event.specs.declared.limits.Limits.{Limits}
use Rattle.cy_event.specs.declared.steps.Act.TheVariants as act
use Rattle.cy_event.specs.declared.steps.Call.TheVariants as call
use Rattle.cy_event.specs.declared.steps.CloseCause.TheVariants as cause
use Rattle.cy_event.specs.declared.steps.Job.TheVariants as job
use Rattle.cy_event.specs.declared.steps.Reply.TheVariants as reply
use Rattle.cy_event.specs.declared.steps.State.TheVariants as state
use Rattle.cy_event.specs.Answers.{head_text}
use Rattle.cy_event.specs.Dates.{date_at, count_off}
use Rattle.cy_event.specs.Framings.{framed}
use Rattle.cy_event.specs.Heads.{is_name_byte, trimmed, front_length, whole_head, host_fits, head_of}
use Rattle.cy_event.specs.Targets.{target_of}
use Rattle.cy_map.specs.declared.rule.Rule.{Rule}
use Rattle.cy_model.specs.Endings.{end_marks}
use Rattle.cy_model.specs.Entries.{on_act, reply_to}
use Rattle.cy_model.specs.Jobs.{next_job}
use Rattle.cy_model.specs.Marks.{Trace, input_side, opened, ended, came, sent, began, refused, called, started, back, given, end_given, read_listener_set, not_ready, length_set, error_answer, over, caused}
use Rattle.cy_model.specs.Replies.{plain}
use Rattle.cy_model.specs.Settling.{settled}
use Rattle.cy_model.specs.Verdicts.{verdict_of}
use Rattle.cy_rows.specs.Told.{answer_told, connection_told, request_told}

abbrev trace_130_limits : Limits
trace_130_limits = record { max_connections = 256; max_head = 8192; max_fields = 100; max_keep_alive = pos 100; connection_timeout = 20000; async_timeout = 30000; max_swallow = 2097152; max_trailer = 6; parts = 3 }

abbrev trace_130_rules : List Rule
trace_130_rules = record { pattern = (codes "/"); part = 0; can_async = true } ∷ record { pattern = (codes "/a"); part = 1; can_async = true } ∷ record { pattern = (codes "/x/*"); part = 2; can_async = false } ∷ []

abbrev trace_130_01 : Trace
trace_130_01 = (0, opened) ∷ []

abbrev trace_130_02 : Trace
trace_130_02 = (0, began (record { place = 0; size = 54; head = record { method = (codes "GET"); target = (codes "/a"); minor = 1; fields = record { name = (codes "Host"); value = (codes "[::1]:80") } ∷ record { name = (codes "Content-Length"); value = (codes "3") } ∷ [] }; framing = (framing.Length 3); max_trailer = 6; async_timeout = 30000; part = 1; can_async = true; keep = true; go_on = false })) ∷ (0, came (codes "GET /a HTTP/1.1\r\nHost: [::1]:80\r\nContent-Length: 3\r\n\r\n")) ∷ trace_130_01

abbrev trace_130_03 : Trace
trace_130_03 = (0, called call.Run None) ∷ (0, started (job.Service 1)) ∷ trace_130_02

abbrev trace_130_04 : Trace
trace_130_04 = (0, called call.Start None) ∷ trace_130_03

abbrev trace_130_05 : Trace
trace_130_05 = (0, sent 0) ∷ trace_130_04

abbrev trace_130_06 : Trace
trace_130_06 = (0, length_set 16384) ∷ trace_130_05

abbrev trace_130_07 : Trace
trace_130_07 = (0, called call.Fault None) ∷ (0, caused cause.InputEnd) ∷ (0, ended) ∷ trace_130_06

abbrev trace_130_08 : Trace
trace_130_08 = (0, over) ∷ (0, error_answer 400) ∷ (0, called call.Return None) ∷ (0, error_answer 500) ∷ (0, called call.Return None) ∷ (0, called call.Return None) ∷ (0, back) ∷ trace_130_07

abbrev trace_130_09 : Trace
trace_130_09 = (0, sent 129) ∷ trace_130_08

trace_130-connection : connection_told trace_130_09
    ≡ record {
      came = 54;
      consumed = 54;
      room = 16384;
      has_ended = true;
      cause = (Some cause.InputEnd);
      is_broken = false;
      is_gone = true;
      is_open = false;
      begun = 1;
      output = (codes "HTTP/1.1 400 \r\nContent-Type: text/plain\r\nContent-Length: 10\r\nDate: Thu, 01 Jan 1970 00:00:00 GMT\r\nConnection: close\r\n\r\nError 400\n");
      took = 129;
      unsent = 0;
      idle_since = 0;
      next_job = None;
      charts = (call.Run ∷ call.Start ∷ call.Fault ∷ call.Return ∷ call.Return ∷ call.Return ∷ []) ∷ [];
    }
unfolding head_text digits date_at count_off is_name_byte
trace_130-connection = refl

trace_130-request : request_told trace_130_09
    ≡ record {
      part = 1;
      state = state.Completing;
      running = None;
      parked = None;
      given = 0;
      is_end_told = false;
      waiting = 0;
      used = 0;
      swallowed = 0;
      has_whole_body = false;
      has_bad_body = false;
      listeners = [];
      owed = [];
      deadline = None;
      ready = record { read_set = false; read_armed = false; all_read_told = false; write_set = false; write_armed = false };
    }
unfolding is_name_byte
trace_130-request = refl

trace_130-answer : answer_told trace_130_09
    ≡ record {
      status = 400;
      fields = record { name = (codes "Content-Type"); value = (codes "text/plain") } ∷ [];
      set_length = None;
      content = 10;
      is_aborted = false;
    }
unfolding digits
trace_130-answer = refl

trace_130-01-settled : settled trace_130_limits trace_130_rules 0 ((0, opened) ∷ [])
    ≡ trace_130_01
unfolding settled head_text digits date_at count_off is_name_byte trimmed front_length whole_head host_fits head_of verdict_of target_of framed is_utf8 chars encode
trace_130-01-settled = refl

trace_130-02-settled : settled trace_130_limits trace_130_rules 0 ((0, came (codes "GET /a HTTP/1.1\r\nHost: [::1]:80\r\nContent-Length: 3\r\n\r\n")) ∷ trace_130_01)
    ≡ trace_130_02
unfolding settled head_text digits date_at count_off is_name_byte trimmed front_length whole_head host_fits head_of verdict_of target_of framed is_utf8 chars encode
trace_130-02-settled = refl

trace_130-03-next : next_job (trace_130_02)
    ≡ (Some (job.Service 1))
unfolding head_text digits date_at count_off is_name_byte
trace_130-03-next = refl

trace_130-04-settled : settled trace_130_limits trace_130_rules 0 ((0, called call.Start None) ∷ trace_130_03)
    ≡ trace_130_04
unfolding settled head_text digits date_at count_off is_name_byte trimmed front_length whole_head host_fits head_of verdict_of target_of framed is_utf8 chars encode
trace_130-04-settled = refl

trace_130-05-settled : settled trace_130_limits trace_130_rules 0 ((0, sent 0) ∷ trace_130_04)
    ≡ trace_130_05
unfolding settled head_text digits date_at count_off is_name_byte trimmed front_length whole_head host_fits head_of verdict_of target_of framed is_utf8 chars encode
trace_130-05-settled = refl

trace_130-06-settled : settled trace_130_limits trace_130_rules 0 ((0, length_set 16384) ∷ trace_130_05)
    ≡ trace_130_06
unfolding settled head_text digits date_at count_off is_name_byte trimmed front_length whole_head host_fits head_of verdict_of target_of framed is_utf8 chars encode
trace_130-06-settled = refl

trace_130-07-settled : settled trace_130_limits trace_130_rules 0 ((0, ended) ∷ trace_130_06)
    ≡ trace_130_07
unfolding settled head_text digits date_at count_off is_name_byte trimmed front_length whole_head host_fits head_of verdict_of target_of framed is_utf8 chars encode
trace_130-07-settled = refl

trace_130-08-settled : settled trace_130_limits trace_130_rules 0 ((0, called call.Return None) ∷ (0, back) ∷ trace_130_07)
    ≡ trace_130_08
unfolding settled head_text digits date_at count_off is_name_byte trimmed front_length whole_head host_fits head_of verdict_of target_of framed is_utf8 chars encode
trace_130-08-settled = refl

trace_130-09-settled : settled trace_130_limits trace_130_rules 0 ((0, sent 129) ∷ trace_130_08)
    ≡ trace_130_09
unfolding settled head_text digits date_at count_off is_name_byte trimmed front_length whole_head host_fits head_of verdict_of target_of framed is_utf8 chars encode
trace_130-09-settled = refl

abbrev trace_131_limits : Limits
trace_131_limits = record { max_connections = 256; max_head = 8192; max_fields = 100; max_keep_alive = pos 100; connection_timeout = 20000; async_timeout = 30000; max_swallow = 2097152; max_trailer = 8192; parts = 5 }

abbrev trace_131_rules : List Rule
trace_131_rules = record { pattern = (codes "/*"); part = 4; can_async = true } ∷ []

abbrev trace_131_01 : Trace
trace_131_01 = (0, opened) ∷ []

abbrev trace_131_02 : Trace
trace_131_02 = (0, began (record { place = 0; size = 47; head = record { method = (codes "PUT"); target = (codes "/a"); minor = 1; fields = record { name = (codes "Host"); value = (codes "a") } ∷ record { name = (codes "Content-Length"); value = (codes "5") } ∷ [] }; framing = (framing.Length 5); max_trailer = 8192; async_timeout = 30000; part = 4; can_async = true; keep = true; go_on = false })) ∷ (0, came (codes "PUT /a HTTP/1.1\r\nHost: a\r\nContent-Length: 5\r\n\r\n")) ∷ trace_131_01

abbrev trace_131_03 : Trace
trace_131_03 = (0, called call.Run None) ∷ (0, started (job.Service 4)) ∷ trace_131_02

abbrev trace_131_04 : Trace
trace_131_04 = (0, not_ready input_side) ∷ trace_131_03

abbrev trace_131_05 : Trace
trace_131_05 = (0, called call.Start None) ∷ trace_131_04

abbrev trace_131_06 : Trace
trace_131_06 = (0, read_listener_set) ∷ trace_131_05

abbrev trace_131_07 : Trace
trace_131_07 = (0, called call.Return None) ∷ (0, back) ∷ trace_131_06

abbrev trace_131_08 : Trace
trace_131_08 = (0, came (codes "b")) ∷ trace_131_07

abbrev trace_131_09 : Trace
trace_131_09 = (0, called call.Run None) ∷ (0, started job.Readable) ∷ trace_131_08

abbrev trace_131_10 : Trace
trace_131_10 = (0, given 1) ∷ trace_131_09

abbrev trace_131_11 : Trace
trace_131_11 = (0, not_ready input_side) ∷ trace_131_10

abbrev trace_131_12 : Trace
trace_131_12 = (0, called call.CompleteOwn None) ∷ trace_131_11

abbrev trace_131_13 : Trace
trace_131_13 = (0, over) ∷ (0, called call.Return None) ∷ (0, called call.Return None) ∷ (0, back) ∷ trace_131_12

abbrev trace_131_14 : Trace
trace_131_14 = (0, began (record { place = 52; size = 82; head = record { method = (codes "PUT"); target = (codes "/x/y/z"); minor = 1; fields = record { name = (codes "Host"); value = (codes "a") } ∷ record { name = (codes "Transfer-Encoding"); value = (codes ", chunked") } ∷ record { name = (codes "Cookie"); value = (codes "x=1; y=2") } ∷ [] }; framing = framing.Chunked; max_trailer = 8192; async_timeout = 30000; part = 4; can_async = true; keep = true; go_on = false })) ∷ (0, came (codes "zydc\r\nPUT /x/y/z HTTP/1.1\r\nHost: a\r\nTransfer-Encoding: , chunked\r\nCookie: x=1; y=2\r\n\r\n00\r\nT: w\r\nT: w\r\n\r\nGET /x/y/z HTTP/1.1\r\nHost: [::1]:80\r\nX : y\r\n\r\n")) ∷ trace_131_13

abbrev trace_131_15 : Trace
trace_131_15 = (0, called call.Run None) ∷ (0, started (job.Service 4)) ∷ trace_131_14

abbrev trace_131_16 : Trace
trace_131_16 = (0, end_given) ∷ trace_131_15

abbrev trace_131_18 : Trace
trace_131_18 = (0, caused cause.Refused) ∷ (0, refused 400 false) ∷ (0, over) ∷ (0, called call.Return None) ∷ (0, back) ∷ trace_131_16

trace_131-connection : connection_told trace_131_18
    ≡ record {
      came = 198;
      consumed = 152;
      room = 16338;
      has_ended = false;
      cause = (Some cause.Refused);
      is_broken = false;
      is_gone = false;
      is_open = false;
      begun = 2;
      output = (codes "HTTP/1.1 200 \r\nContent-Length: 0\r\nDate: Thu, 01 Jan 1970 00:00:00 GMT\r\n\r\nHTTP/1.1 200 \r\nContent-Length: 0\r\nDate: Thu, 01 Jan 1970 00:00:00 GMT\r\n\r\nHTTP/1.1 400 \r\nContent-Type: text/plain\r\nContent-Length: 10\r\nDate: Thu, 01 Jan 1970 00:00:00 GMT\r\nConnection: close\r\n\r\nError 400\n");
      took = 0;
      unsent = 275;
      idle_since = 0;
      next_job = None;
      charts = (call.Run ∷ call.Start ∷ call.Return ∷ call.Run ∷ call.CompleteOwn ∷ call.Return ∷ call.Return ∷ []) ∷ (call.Run ∷ call.Return ∷ []) ∷ [];
    }
unfolding head_text digits date_at count_off is_name_byte
trace_131-connection = refl

trace_131-01-settled : settled trace_131_limits trace_131_rules 0 ((0, opened) ∷ [])
    ≡ trace_131_01
unfolding settled head_text digits date_at count_off is_name_byte trimmed front_length whole_head host_fits head_of verdict_of target_of framed is_utf8 chars encode
trace_131-01-settled = refl

trace_131-02-settled : settled trace_131_limits trace_131_rules 0 ((0, came (codes "PUT /a HTTP/1.1\r\nHost: a\r\nContent-Length: 5\r\n\r\n")) ∷ trace_131_01)
    ≡ trace_131_02
unfolding settled head_text digits date_at count_off is_name_byte trimmed front_length whole_head host_fits head_of verdict_of target_of framed is_utf8 chars encode
trace_131-02-settled = refl

trace_131-03-next : next_job (trace_131_02)
    ≡ (Some (job.Service 4))
unfolding head_text digits date_at count_off is_name_byte
trace_131-03-next = refl

trace_131-04-settled : settled trace_131_limits trace_131_rules 0 ((0, not_ready input_side) ∷ trace_131_03)
    ≡ trace_131_04
unfolding settled head_text digits date_at count_off is_name_byte trimmed front_length whole_head host_fits head_of verdict_of target_of framed is_utf8 chars encode
trace_131-04-settled = refl

trace_131-05-settled : settled trace_131_limits trace_131_rules 0 ((0, called call.Start None) ∷ trace_131_04)
    ≡ trace_131_05
unfolding settled head_text digits date_at count_off is_name_byte trimmed front_length whole_head host_fits head_of verdict_of target_of framed is_utf8 chars encode
trace_131-05-settled = refl

trace_131-06-settled : settled trace_131_limits trace_131_rules 0 ((0, read_listener_set) ∷ trace_131_05)
    ≡ trace_131_06
unfolding settled head_text digits date_at count_off is_name_byte trimmed front_length whole_head host_fits head_of verdict_of target_of framed is_utf8 chars encode
trace_131-06-settled = refl

trace_131-07-settled : settled trace_131_limits trace_131_rules 0 ((0, called call.Return None) ∷ (0, back) ∷ trace_131_06)
    ≡ trace_131_07
unfolding settled head_text digits date_at count_off is_name_byte trimmed front_length whole_head host_fits head_of verdict_of target_of framed is_utf8 chars encode
trace_131-07-settled = refl

trace_131-08-settled : settled trace_131_limits trace_131_rules 0 ((0, came (codes "b")) ∷ trace_131_07)
    ≡ trace_131_08
unfolding settled head_text digits date_at count_off is_name_byte trimmed front_length whole_head host_fits head_of verdict_of target_of framed is_utf8 chars encode
trace_131-08-settled = refl

trace_131-09-next : next_job (trace_131_08)
    ≡ (Some job.Readable)
unfolding head_text digits date_at count_off is_name_byte
trace_131-09-next = refl

trace_131-10-reply : reply_to trace_131_limits trace_131_rules 0 trace_131_09 (on_act (act.Read 65536) [])
    ≡ record { reply = reply.Got 1; got = (codes "b") }
unfolding reply_to head_text digits date_at count_off is_name_byte
trace_131-10-reply = refl

trace_131-10-settled : settled trace_131_limits trace_131_rules 0 ((0, given 1) ∷ trace_131_09)
    ≡ trace_131_10
unfolding settled head_text digits date_at count_off is_name_byte trimmed front_length whole_head host_fits head_of verdict_of target_of framed is_utf8 chars encode
trace_131-10-settled = refl

trace_131-11-settled : settled trace_131_limits trace_131_rules 0 ((0, not_ready input_side) ∷ trace_131_10)
    ≡ trace_131_11
unfolding settled head_text digits date_at count_off is_name_byte trimmed front_length whole_head host_fits head_of verdict_of target_of framed is_utf8 chars encode
trace_131-11-settled = refl

trace_131-12-settled : settled trace_131_limits trace_131_rules 0 ((0, called call.CompleteOwn None) ∷ trace_131_11)
    ≡ trace_131_12
unfolding settled head_text digits date_at count_off is_name_byte trimmed front_length whole_head host_fits head_of verdict_of target_of framed is_utf8 chars encode
trace_131-12-settled = refl

trace_131-13-settled : settled trace_131_limits trace_131_rules 0 ((0, called call.Return None) ∷ (0, back) ∷ trace_131_12)
    ≡ trace_131_13
unfolding settled head_text digits date_at count_off is_name_byte trimmed front_length whole_head host_fits head_of verdict_of target_of framed is_utf8 chars encode
trace_131-13-settled = refl

trace_131-14-settled : settled trace_131_limits trace_131_rules 0 ((0, came (codes "zydc\r\nPUT /x/y/z HTTP/1.1\r\nHost: a\r\nTransfer-Encoding: , chunked\r\nCookie: x=1; y=2\r\n\r\n00\r\nT: w\r\nT: w\r\n\r\nGET /x/y/z HTTP/1.1\r\nHost: [::1]:80\r\nX : y\r\n\r\n")) ∷ trace_131_13)
    ≡ trace_131_14
unfolding settled head_text digits date_at count_off is_name_byte trimmed front_length whole_head host_fits head_of verdict_of target_of framed is_utf8 chars encode
trace_131-14-settled = refl

trace_131-15-next : next_job (trace_131_14)
    ≡ (Some (job.Service 4))
unfolding head_text digits date_at count_off is_name_byte
trace_131-15-next = refl

trace_131-16-reply : reply_to trace_131_limits trace_131_rules 0 trace_131_15 (on_act (act.Read 65536) [])
    ≡ plain reply.GotEnd
unfolding reply_to head_text digits date_at count_off is_name_byte
trace_131-16-reply = refl

trace_131-16-settled : settled trace_131_limits trace_131_rules 0 ((0, end_given) ∷ trace_131_15)
    ≡ trace_131_16
unfolding settled head_text digits date_at count_off is_name_byte trimmed front_length whole_head host_fits head_of verdict_of target_of framed is_utf8 chars encode
trace_131-16-settled = refl

trace_131-18-end : end_marks ((0, called call.Return None) ∷ (0, back) ∷ trace_131_16)
    ≡ (over ∷ [])
unfolding head_text digits date_at count_off is_name_byte
trace_131-18-end = refl

trace_131-18-settled : settled trace_131_limits trace_131_rules 0 ((0, over) ∷ (0, called call.Return None) ∷ (0, back) ∷ trace_131_16)
    ≡ trace_131_18
unfolding settled head_text digits date_at count_off is_name_byte trimmed front_length whole_head host_fits head_of verdict_of target_of framed is_utf8 chars encode
trace_131-18-settled = refl

trace_131-20-reply : reply_to trace_131_limits trace_131_rules 0 trace_131_18 (on_act (act.Read 65536) [])
    ≡ plain reply.NotActive
unfolding reply_to head_text digits date_at count_off is_name_byte
trace_131-20-reply = refl

trace_131-24-reply : reply_to trace_131_limits trace_131_rules 0 trace_131_18 (on_act (act.Read 1) [])
    ≡ plain reply.NotActive
unfolding reply_to head_text digits date_at count_off is_name_byte
trace_131-24-reply = refl
