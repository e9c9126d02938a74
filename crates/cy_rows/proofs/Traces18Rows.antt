-- Traces that another program made, with what it tells of them, computed from the definitions. Made by `cases/rows.py`.
use Rattle.std.proofs.Common.{◌≡◌, true, false, List, [], ◌∷◌, Some, None, codes, refl}
use Rattle.std.specs.Prelude.{pos}
use Rattle.std.specs.Fmt.{digits}
use Rattle.std.specs.Str.{is_utf8, chars}
use lib.Utf8.{encode}
use Rattle.cy_event.specs.declared.framing.Framing.TheVariants as framing
use Rattle.cy_event.specs.declared.limits.Limits.{Limits}
use Rattle.cy_event.specs.declared.steps.Act.TheVariants as act
use Rattle.cy_event.specs.declared.steps.Call.TheVariants as call
use Rattle.cy_event.specs.declared.steps.CloseCause.TheVariants as cause
use Rattle.cy_event.specs.declared.steps.Job.TheVariants as job
use Rattle.cy_event.specs.declared.steps.Reply.TheVariants as reply
use Rattle.cy_event.specs.declared.steps.State.TheVariants as state
use Rattle.cy_event.specs.Answers.{head_text}
use Rattle.cy_event.specs.Dates.{date_at, count_off}
use Rattle.cy_event.specs.Framings.{framed}
use Rattle.cy_event.specs.Heads.{is_name_byte, trimmed, front_length, whole_head, host_fits, head_of}
use Rattle.cy_event.specs.Targets.{target_of}
use Rattle.cy_map.specs.declared.rule.Rule.{Rule}
use Rattle.cy_model.specs.Entries.{on_act, reply_to}
use Rattle.cy_model.specs.Jobs.{next_job}
use Rattle.cy_model.specs.Marks.{Trace, opened, came, sent, began, called, started, back, put, flushed, nothing_to_flush, aborted, over, caused}
use Rattle.cy_model.specs.Replies.{plain}
use Rattle.cy_model.specs.Settling.{settled}
use Rattle.cy_model.specs.Verdicts.{verdict_of}
use Rattle.cy_rows.specs.Told.{answer_told, connection_told, open_told, request_told}

abbrev trace_066_limits : Limits
trace_066_limits = record { max_connections = 2; max_head = 257; max_fields = 100; max_keep_alive = pos 100; connection_timeout = 20000; async_timeout = 30000; max_swallow = 10; max_trailer = 8192; parts = 4 }

abbrev trace_066_rules : List Rule
trace_066_rules = record { pattern = (codes "/a/*"); part = 2; can_async = true } ∷ record { pattern = (codes "/"); part = 0; can_async = true } ∷ record { pattern = (codes "*.do"); part = 3; can_async = true } ∷ record { pattern = (codes "/x/*"); part = 2; can_async = true } ∷ []

abbrev trace_066_01 : Trace
trace_066_01 = (0, opened) ∷ []

abbrev trace_066_02 : Trace
trace_066_02 = (0, began (record { place = 0; size = 56; head = record { method = (codes "POST"); target = (codes "/"); minor = 1; fields = record { name = (codes "Host"); value = (codes "a") } ∷ record { name = (codes "Transfer-Encoding"); value = (codes "Chunked") } ∷ [] }; framing = framing.Chunked; max_trailer = 8192; async_timeout = 30000; part = 0; can_async = true; keep = true; go_on = false })) ∷ (0, came (codes "POST / HTTP/1.1\r\nHost: a\r\nTransfer-Encoding: Chunked\r\n\r\n")) ∷ trace_066_01

abbrev trace_066_03 : Trace
trace_066_03 = (0, called call.Run None) ∷ (0, started (job.Service 0)) ∷ trace_066_02

abbrev trace_066_05 : Trace
trace_066_05 = (0, called call.Start None) ∷ trace_066_03

abbrev trace_066_07 : Trace
trace_066_07 = (0, flushed) ∷ trace_066_05

abbrev trace_066_08 : Trace
trace_066_08 = (0, called call.Return None) ∷ (0, back) ∷ trace_066_07

abbrev trace_066_09 : Trace
trace_066_09 = (0, came (codes "0\r\n\r\n")) ∷ trace_066_08

abbrev trace_066_10 : Trace
trace_066_10 = (0, came []) ∷ trace_066_09

abbrev trace_066_14 : Trace
trace_066_14 = (0, came (codes "GET /a%20b;p=1/c HTTP/1.1\r\nHost: \r\nConnection: upgrade\r\n\r\n")) ∷ trace_066_10

abbrev trace_066_16 : Trace
trace_066_16 = (0, nothing_to_flush) ∷ trace_066_14

abbrev trace_066_17 : Trace
trace_066_17 = (0, called call.CompleteOther None) ∷ trace_066_16

abbrev trace_066_19 : Trace
trace_066_19 = (0, began (record { place = 61; size = 58; head = record { method = (codes "GET"); target = (codes "/a%20b;p=1/c"); minor = 1; fields = record { name = (codes "Host"); value = [] } ∷ record { name = (codes "Connection"); value = (codes "upgrade") } ∷ [] }; framing = framing.None; max_trailer = 8192; async_timeout = 30000; part = 0; can_async = true; keep = true; go_on = false })) ∷ (0, over) ∷ (0, called call.Return None) ∷ (0, came (codes "POST /a HTTP/1.1\r\nA: b\r\nA: b\r\nHost: a\r\ntransfer-encoding:Chunked\r\n\r\n0\r\n\r\n")) ∷ trace_066_17

abbrev trace_066_20 : Trace
trace_066_20 = (0, came (codes "GET / HTTP/1.1\r\nHost: a\r\n\r\nGET / HTTP/1.1\r\nHost: a\r\n\r\n")) ∷ trace_066_19

trace_066-connection : connection_told trace_066_20
    ≡ record {
      came = 246;
      consumed = 119;
      room = 16257;
      has_ended = false;
      cause = None;
      is_broken = false;
      is_gone = false;
      is_open = true;
      begun = 2;
      output = (codes "HTTP/1.1 200 \r\nTransfer-Encoding: chunked\r\nDate: Thu, 01 Jan 1970 00:00:00 GMT\r\n\r\n0\r\n\r\n");
      took = 0;
      unsent = 87;
      idle_since = 0;
      next_job = (Some (job.Service 0));
      charts = (call.Run ∷ call.Start ∷ call.Return ∷ call.CompleteOther ∷ call.Return ∷ []) ∷ ([]) ∷ [];
    }
unfolding head_text digits date_at count_off is_name_byte
trace_066-connection = refl

trace_066-request : request_told trace_066_20
    ≡ record {
      part = 0;
      state = state.Dispatched;
      running = None;
      parked = None;
      given = 0;
      is_end_told = false;
      waiting = 0;
      used = 0;
      swallowed = 0;
      has_whole_body = true;
      has_bad_body = false;
      listeners = [];
      owed = [];
      deadline = None;
      ready = record { read_set = false; read_armed = false; all_read_told = false; write_set = false; write_armed = false };
    }
unfolding is_name_byte
trace_066-request = refl

trace_066-answer : answer_told trace_066_20
    ≡ record {
      status = 200;
      fields = [];
      set_length = None;
      content = 0;
      is_aborted = false;
    }
unfolding digits
trace_066-answer = refl

trace_066-open : open_told trace_066_20
    ≡ record {
      is_committed = false;
      takes_one = true;
      has_to_cut = true;
    }
unfolding head_text digits date_at count_off is_name_byte
trace_066-open = refl

trace_066-01-settled : settled trace_066_limits trace_066_rules 0 ((0, opened) ∷ [])
    ≡ trace_066_01
unfolding settled head_text digits date_at count_off is_name_byte trimmed front_length whole_head host_fits head_of verdict_of target_of framed is_utf8 chars encode
trace_066-01-settled = refl

trace_066-02-settled : settled trace_066_limits trace_066_rules 0 ((0, came (codes "POST / HTTP/1.1\r\nHost: a\r\nTransfer-Encoding: Chunked\r\n\r\n")) ∷ trace_066_01)
    ≡ trace_066_02
unfolding settled head_text digits date_at count_off is_name_byte trimmed front_length whole_head host_fits head_of verdict_of target_of framed is_utf8 chars encode
trace_066-02-settled = refl

trace_066-03-next : next_job (trace_066_02)
    ≡ (Some (job.Service 0))
unfolding head_text digits date_at count_off is_name_byte
trace_066-03-next = refl

trace_066-04-reply : reply_to trace_066_limits trace_066_rules 0 trace_066_03 (on_act (act.Read 65536) [])
    ≡ plain reply.Again
unfolding reply_to head_text digits date_at count_off is_name_byte
trace_066-04-reply = refl

trace_066-05-settled : settled trace_066_limits trace_066_rules 0 ((0, called call.Start None) ∷ trace_066_03)
    ≡ trace_066_05
unfolding settled head_text digits date_at count_off is_name_byte trimmed front_length whole_head host_fits head_of verdict_of target_of framed is_utf8 chars encode
trace_066-05-settled = refl

trace_066-07-settled : settled trace_066_limits trace_066_rules 0 ((0, flushed) ∷ trace_066_05)
    ≡ trace_066_07
unfolding settled head_text digits date_at count_off is_name_byte trimmed front_length whole_head host_fits head_of verdict_of target_of framed is_utf8 chars encode
trace_066-07-settled = refl

trace_066-08-settled : settled trace_066_limits trace_066_rules 0 ((0, called call.Return None) ∷ (0, back) ∷ trace_066_07)
    ≡ trace_066_08
unfolding settled head_text digits date_at count_off is_name_byte trimmed front_length whole_head host_fits head_of verdict_of target_of framed is_utf8 chars encode
trace_066-08-settled = refl

trace_066-09-settled : settled trace_066_limits trace_066_rules 0 ((0, came (codes "0\r\n\r\n")) ∷ trace_066_08)
    ≡ trace_066_09
unfolding settled head_text digits date_at count_off is_name_byte trimmed front_length whole_head host_fits head_of verdict_of target_of framed is_utf8 chars encode
trace_066-09-settled = refl

trace_066-10-settled : settled trace_066_limits trace_066_rules 0 ((0, came []) ∷ trace_066_09)
    ≡ trace_066_10
unfolding settled head_text digits date_at count_off is_name_byte trimmed front_length whole_head host_fits head_of verdict_of target_of framed is_utf8 chars encode
trace_066-10-settled = refl

trace_066-14-settled : settled trace_066_limits trace_066_rules 0 ((0, came (codes "GET /a%20b;p=1/c HTTP/1.1\r\nHost: \r\nConnection: upgrade\r\n\r\n")) ∷ trace_066_10)
    ≡ trace_066_14
unfolding settled head_text digits date_at count_off is_name_byte trimmed front_length whole_head host_fits head_of verdict_of target_of framed is_utf8 chars encode
trace_066-14-settled = refl

trace_066-19-settled : settled trace_066_limits trace_066_rules 0 ((0, came (codes "POST /a HTTP/1.1\r\nA: b\r\nA: b\r\nHost: a\r\ntransfer-encoding:Chunked\r\n\r\n0\r\n\r\n")) ∷ trace_066_17)
    ≡ trace_066_19
unfolding settled head_text digits date_at count_off is_name_byte trimmed front_length whole_head host_fits head_of verdict_of target_of framed is_utf8 chars encode
trace_066-19-settled = refl

trace_066-20-settled : settled trace_066_limits trace_066_rules 0 ((0, came (codes "GET / HTTP/1.1\r\nHost: a\r\n\r\nGET / HTTP/1.1\r\nHost: a\r\n\r\n")) ∷ trace_066_19)
    ≡ trace_066_20
unfolding settled head_text digits date_at count_off is_name_byte trimmed front_length whole_head host_fits head_of verdict_of target_of framed is_utf8 chars encode
trace_066-20-settled = refl

abbrev trace_068_limits : Limits
trace_068_limits = record { max_connections = 256; max_head = 8192; max_fields = 100; max_keep_alive = pos 100; connection_timeout = 20000; async_timeout = 30000; max_swallow = 2097152; max_trailer = 8192; parts = 5 }

abbrev trace_068_rules : List Rule
trace_068_rules = record { pattern = (codes "/"); part = 0; can_async = true } ∷ record { pattern = (codes "/a/*"); part = 2; can_async = true } ∷ record { pattern = (codes "*.do"); part = 3; can_async = false } ∷ record { pattern = (codes "/x/*"); part = 2; can_async = false } ∷ record { pattern = (codes "/*"); part = 4; can_async = true } ∷ []

abbrev trace_068_01 : Trace
trace_068_01 = (0, opened) ∷ []

abbrev trace_068_02 : Trace
trace_068_02 = (0, began (record { place = 0; size = 54; head = record { method = (codes "POST"); target = (codes "/"); minor = 1; fields = record { name = (codes "Host"); value = (codes "[::1]:80") } ∷ record { name = (codes "Content-Length"); value = (codes "5") } ∷ [] }; framing = (framing.Length 5); max_trailer = 8192; async_timeout = 30000; part = 4; can_async = true; keep = true; go_on = false })) ∷ (0, came (codes "POST / HTTP/1.1\r\nHost: [::1]:80\r\nContent-Length: 5\r\n\r\n")) ∷ trace_068_01

abbrev trace_068_03 : Trace
trace_068_03 = (0, called call.Run None) ∷ (0, started (job.Service 4)) ∷ trace_068_02

abbrev trace_068_04 : Trace
trace_068_04 = (0, called call.Start None) ∷ trace_068_03

abbrev trace_068_05 : Trace
trace_068_05 = (0, put (codes "aaaaaaaaaaaaa")) ∷ trace_068_04

abbrev trace_068_07 : Trace
trace_068_07 = (0, called call.DispatchOwn (Some 2)) ∷ trace_068_05

abbrev trace_068_10 : Trace
trace_068_10 = (0, sent 0) ∷ trace_068_07

abbrev trace_068_11 : Trace
trace_068_11 = (0, flushed) ∷ trace_068_10

abbrev trace_068_13 : Trace
trace_068_13 = (0, put (codes "\\\\\\\\\\\\\\\\")) ∷ trace_068_11

abbrev trace_068_14 : Trace
trace_068_14 = (0, caused cause.FailedAnswer) ∷ (0, over) ∷ (0, called call.Return None) ∷ (0, aborted) ∷ (0, called call.Return None) ∷ (0, aborted) ∷ (0, called call.Fail None) ∷ (0, back) ∷ trace_068_13

abbrev trace_068_16 : Trace
trace_068_16 = (0, sent 100) ∷ trace_068_14

trace_068-connection : connection_told trace_068_16
    ≡ record {
      came = 54;
      consumed = 54;
      room = 16384;
      has_ended = false;
      cause = (Some cause.FailedAnswer);
      is_broken = false;
      is_gone = true;
      is_open = false;
      begun = 1;
      output = (codes "HTTP/1.1 200 \r\nTransfer-Encoding: chunked\r\nDate: Thu, 01 Jan 1970 00:00:00 GMT\r\n\r\nd\r\naaaaaaaaaaaaa\r\n");
      took = 100;
      unsent = 0;
      idle_since = 0;
      next_job = None;
      charts = (call.Run ∷ call.Start ∷ call.DispatchOwn ∷ call.Fail ∷ call.Return ∷ call.Return ∷ []) ∷ [];
    }
unfolding head_text digits date_at count_off is_name_byte
trace_068-connection = refl

trace_068-request : request_told trace_068_16
    ≡ record {
      part = 2;
      state = state.Completing;
      running = None;
      parked = None;
      given = 0;
      is_end_told = false;
      waiting = 0;
      used = 0;
      swallowed = 0;
      has_whole_body = false;
      has_bad_body = false;
      listeners = [];
      owed = [];
      deadline = None;
      ready = record { read_set = false; read_armed = false; all_read_told = false; write_set = false; write_armed = false };
    }
unfolding is_name_byte
trace_068-request = refl

trace_068-answer : answer_told trace_068_16
    ≡ record {
      status = 200;
      fields = [];
      set_length = None;
      content = 21;
      is_aborted = true;
    }
unfolding digits
trace_068-answer = refl

trace_068-01-settled : settled trace_068_limits trace_068_rules 0 ((0, opened) ∷ [])
    ≡ trace_068_01
unfolding settled head_text digits date_at count_off is_name_byte trimmed front_length whole_head host_fits head_of verdict_of target_of framed is_utf8 chars encode
trace_068-01-settled = refl

trace_068-02-settled : settled trace_068_limits trace_068_rules 0 ((0, came (codes "POST / HTTP/1.1\r\nHost: [::1]:80\r\nContent-Length: 5\r\n\r\n")) ∷ trace_068_01)
    ≡ trace_068_02
unfolding settled head_text digits date_at count_off is_name_byte trimmed front_length whole_head host_fits head_of verdict_of target_of framed is_utf8 chars encode
trace_068-02-settled = refl

trace_068-03-next : next_job (trace_068_02)
    ≡ (Some (job.Service 4))
unfolding head_text digits date_at count_off is_name_byte
trace_068-03-next = refl

trace_068-04-settled : settled trace_068_limits trace_068_rules 0 ((0, called call.Start None) ∷ trace_068_03)
    ≡ trace_068_04
unfolding settled head_text digits date_at count_off is_name_byte trimmed front_length whole_head host_fits head_of verdict_of target_of framed is_utf8 chars encode
trace_068-04-settled = refl

trace_068-05-settled : settled trace_068_limits trace_068_rules 0 ((0, put (codes "aaaaaaaaaaaaa")) ∷ trace_068_04)
    ≡ trace_068_05
unfolding settled head_text digits date_at count_off is_name_byte trimmed front_length whole_head host_fits head_of verdict_of target_of framed is_utf8 chars encode
trace_068-05-settled = refl

trace_068-07-settled : settled trace_068_limits trace_068_rules 0 ((0, called call.DispatchOwn (Some 2)) ∷ trace_068_05)
    ≡ trace_068_07
unfolding settled head_text digits date_at count_off is_name_byte trimmed front_length whole_head host_fits head_of verdict_of target_of framed is_utf8 chars encode
trace_068-07-settled = refl

trace_068-09-reply : reply_to trace_068_limits trace_068_rules 0 trace_068_07 (on_act (act.Read 65536) [])
    ≡ plain reply.Again
unfolding reply_to head_text digits date_at count_off is_name_byte
trace_068-09-reply = refl

trace_068-10-settled : settled trace_068_limits trace_068_rules 0 ((0, sent 0) ∷ trace_068_07)
    ≡ trace_068_10
unfolding settled head_text digits date_at count_off is_name_byte trimmed front_length whole_head host_fits head_of verdict_of target_of framed is_utf8 chars encode
trace_068-10-settled = refl

trace_068-11-settled : settled trace_068_limits trace_068_rules 0 ((0, flushed) ∷ trace_068_10)
    ≡ trace_068_11
unfolding settled head_text digits date_at count_off is_name_byte trimmed front_length whole_head host_fits head_of verdict_of target_of framed is_utf8 chars encode
trace_068-11-settled = refl

trace_068-13-settled : settled trace_068_limits trace_068_rules 0 ((0, put (codes "\\\\\\\\\\\\\\\\")) ∷ trace_068_11)
    ≡ trace_068_13
unfolding settled head_text digits date_at count_off is_name_byte trimmed front_length whole_head host_fits head_of verdict_of target_of framed is_utf8 chars encode
trace_068-13-settled = refl

trace_068-14-settled : settled trace_068_limits trace_068_rules 0 ((0, aborted) ∷ (0, called call.Fail None) ∷ (0, back) ∷ trace_068_13)
    ≡ trace_068_14
unfolding settled head_text digits date_at count_off is_name_byte trimmed front_length whole_head host_fits head_of verdict_of target_of framed is_utf8 chars encode
trace_068-14-settled = refl

trace_068-16-settled : settled trace_068_limits trace_068_rules 0 ((0, sent 100) ∷ trace_068_14)
    ≡ trace_068_16
unfolding settled head_text digits date_at count_off is_name_byte trimmed front_length whole_head host_fits head_of verdict_of target_of framed is_utf8 chars encode
trace_068-16-settled = refl
