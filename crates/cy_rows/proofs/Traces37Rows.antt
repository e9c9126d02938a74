-- Traces that another program made, with what it tells of them, computed from the definitions. Made by `cases/rows.py`.
use Rattle.std.proofs.Common.{◌≡◌, true, false, List, [], ◌∷◌, Some, None, codes, refl}
use Rattle.std.specs.Prelude.{pos}
use Rattle.std.specs.Fmt.{digits}
use Rattle.std.specs.Str.{is_utf8, chars}
use lib.Utf8.{encode}
use Rattle.cy_event.specs.declared.framing.Framing.TheVariants as framing
use Rattle.cy_event.specs.declared.limits.Limits.{Limits}
use Rattle.cy_event.specs.declared.steps.Act.TheVariants as act
use Rattle.cy_event.specs.declared.steps.Call.TheVariants as call
use Rattle.cy_event.specs.declared.steps.CloseCause.TheVariants as cause
use Rattle.cy_event.specs.declared.steps.Job.TheVariants as job
use Rattle.cy_event.specs.declared.steps.Reply.TheVariants as reply
use Rattle.cy_event.specs.declared.steps.State.TheVariants as state
use Rattle.cy_event.specs.Answers.{head_text}
use Rattle.cy_event.specs.Dates.{date_at, count_off}
use Rattle.cy_event.specs.Framings.{framed}
use Rattle.cy_event.specs.Heads.{is_name_byte, trimmed, front_length, whole_head, host_fits, head_of}
use Rattle.cy_event.specs.Targets.{target_of}
use Rattle.cy_map.specs.declared.rule.Rule.{Rule}
use Rattle.cy_model.specs.Endings.{end_marks}
use Rattle.cy_model.specs.Entries.{on_act, reply_to}
use Rattle.cy_model.specs.Jobs.{next_job}
use Rattle.cy_model.specs.Marks.{Trace, opened, came, sent, began, called, started, back, given, read_listener_set, put, flushed, nothing_to_flush, error_answer, aborted, over, caused, broken}
use Rattle.cy_model.specs.Replies.{plain}
use Rattle.cy_model.specs.Settling.{settled}
use Rattle.cy_model.specs.Ticks.{tick_move}
use Rattle.cy_model.specs.Verdicts.{verdict_of}
use Rattle.cy_rows.specs.Told.{answer_told, connection_told, request_told}

abbrev trace_138_limits : Limits
trace_138_limits = record { max_connections = 256; max_head = 8192; max_fields = 100; max_keep_alive = pos 100; connection_timeout = 10; async_timeout = 20; max_swallow = 2097152; max_trailer = 8192; parts = 3 }

abbrev trace_138_rules : List Rule
trace_138_rules = record { pattern = (codes "/"); part = 0; can_async = true } ∷ record { pattern = (codes "/a"); part = 1; can_async = true } ∷ record { pattern = (codes "/x/*"); part = 2; can_async = false } ∷ []

abbrev trace_138_01 : Trace
trace_138_01 = (0, opened) ∷ []

abbrev trace_138_02 : Trace
trace_138_02 = (0, came (codes "GET / HTTP/1.1\r\nHost")) ∷ trace_138_01

abbrev trace_138_03 : Trace
trace_138_03 = (0, began (record { place = 0; size = 27; head = record { method = (codes "GET"); target = (codes "/"); minor = 1; fields = record { name = (codes "Host"); value = (codes "a") } ∷ [] }; framing = framing.None; max_trailer = 8192; async_timeout = 20; part = 0; can_async = true; keep = true; go_on = false })) ∷ (0, came (codes ": a\r\n\r\n")) ∷ trace_138_02

abbrev trace_138_04 : Trace
trace_138_04 = (0, called call.Run None) ∷ (0, started (job.Service 0)) ∷ trace_138_03

abbrev trace_138_05 : Trace
trace_138_05 = (0, over) ∷ (0, called call.Return None) ∷ (0, back) ∷ trace_138_04

abbrev trace_138_07 : Trace
trace_138_07 = (0, began (record { place = 27; size = 46; head = record { method = (codes "POST"); target = (codes "/"); minor = 1; fields = record { name = (codes "Host"); value = [] } ∷ record { name = (codes "Content-Length"); value = (codes "5") } ∷ [] }; framing = (framing.Length 5); max_trailer = 8192; async_timeout = 20; part = 0; can_async = true; keep = true; go_on = false })) ∷ (0, came (codes "POST / HTTP/1.1\r\nHost: \r\nContent-Length: 5\r\n\r\nb")) ∷ trace_138_05

abbrev trace_138_08 : Trace
trace_138_08 = (0, called call.Run None) ∷ (0, started (job.Service 0)) ∷ trace_138_07

abbrev trace_138_09 : Trace
trace_138_09 = (0, put (255 ∷ 255 ∷ 255 ∷ 255 ∷ 255 ∷ 255 ∷ 255 ∷ 255 ∷ [])) ∷ trace_138_08

abbrev trace_138_10 : Trace
trace_138_10 = (0, called call.Start None) ∷ trace_138_09

abbrev trace_138_11 : Trace
trace_138_11 = (0, called call.Return None) ∷ (0, back) ∷ trace_138_10

abbrev trace_138_12 : Trace
trace_138_12 = (0, put (codes "\\\\\\\\\\\\\\\\\\\\\\\\\\\\\\\\\\\\\\\\\\\\\\\\\\\\\\\\\\\\\\\\\\\\\\\\\\\\\\\\\\\\\\\\\\\\\\\\\\\\\\\\\\\\\\\\\\\\\\\\\\\\\\\\\\\\\\\\\\\\\\\\\\\\\\\\\\\\\\\\\\\\\\\\\\\\\\\\\\\\\\\\\\\\\\\\\\\\\\\\")) ∷ trace_138_11

abbrev trace_138_13 : Trace
trace_138_13 = (0, came (codes "yyxz")) ∷ trace_138_12

abbrev trace_138_14 : Trace
trace_138_14 = (0, given 5) ∷ trace_138_13

abbrev trace_138_15 : Trace
trace_138_15 = (0, flushed) ∷ trace_138_14

abbrev trace_138_17 : Trace
trace_138_17 = (0, nothing_to_flush) ∷ trace_138_15

abbrev trace_138_18 : Trace
trace_138_18 = (0, called call.DispatchOther (Some 1)) ∷ trace_138_17

abbrev trace_138_19 : Trace
trace_138_19 = (0, broken) ∷ (0, caused cause.Shut) ∷ trace_138_18

abbrev trace_138_20 : Trace
trace_138_20 = (0, called call.Run None) ∷ (0, started (job.Again 1)) ∷ trace_138_19

abbrev trace_138_22 : Trace
trace_138_22 = (0, over) ∷ (0, aborted) ∷ (0, called call.Fail None) ∷ (0, back) ∷ trace_138_20

trace_138-connection : connection_told trace_138_22
    ≡ record {
      came = 78;
      consumed = 78;
      room = 16384;
      has_ended = false;
      cause = (Some cause.Shut);
      is_broken = true;
      is_gone = true;
      is_open = false;
      begun = 2;
      output = (72 ∷ 84 ∷ 84 ∷ 80 ∷ 47 ∷ 49 ∷ 46 ∷ 49 ∷ 32 ∷ 50 ∷ 48 ∷ 48 ∷ 32 ∷ 13 ∷ 10 ∷ 67 ∷ 111 ∷ 110 ∷ 116 ∷ 101 ∷ 110 ∷ 116 ∷ 45 ∷ 76 ∷ 101 ∷ 110 ∷ 103 ∷ 116 ∷ 104 ∷ 58 ∷ 32 ∷ 48 ∷ 13 ∷ 10 ∷ 68 ∷ 97 ∷ 116 ∷ 101 ∷ 58 ∷ 32 ∷ 84 ∷ 104 ∷ 117 ∷ 44 ∷ 32 ∷ 48 ∷ 49 ∷ 32 ∷ 74 ∷ 97 ∷ 110 ∷ 32 ∷ 49 ∷ 57 ∷ 55 ∷ 48 ∷ 32 ∷ 48 ∷ 48 ∷ 58 ∷ 48 ∷ 48 ∷ 58 ∷ 48 ∷ 48 ∷ 32 ∷ 71 ∷ 77 ∷ 84 ∷ 13 ∷ 10 ∷ 13 ∷ 10 ∷ 72 ∷ 84 ∷ 84 ∷ 80 ∷ 47 ∷ 49 ∷ 46 ∷ 49 ∷ 32 ∷ 50 ∷ 48 ∷ 48 ∷ 32 ∷ 13 ∷ 10 ∷ 84 ∷ 114 ∷ 97 ∷ 110 ∷ 115 ∷ 102 ∷ 101 ∷ 114 ∷ 45 ∷ 69 ∷ 110 ∷ 99 ∷ 111 ∷ 100 ∷ 105 ∷ 110 ∷ 103 ∷ 58 ∷ 32 ∷ 99 ∷ 104 ∷ 117 ∷ 110 ∷ 107 ∷ 101 ∷ 100 ∷ 13 ∷ 10 ∷ 68 ∷ 97 ∷ 116 ∷ 101 ∷ 58 ∷ 32 ∷ 84 ∷ 104 ∷ 117 ∷ 44 ∷ 32 ∷ 48 ∷ 49 ∷ 32 ∷ 74 ∷ 97 ∷ 110 ∷ 32 ∷ 49 ∷ 57 ∷ 55 ∷ 48 ∷ 32 ∷ 48 ∷ 48 ∷ 58 ∷ 48 ∷ 48 ∷ 58 ∷ 48 ∷ 48 ∷ 32 ∷ 71 ∷ 77 ∷ 84 ∷ 13 ∷ 10 ∷ 13 ∷ 10 ∷ 54 ∷ 99 ∷ 13 ∷ 10 ∷ 255 ∷ 255 ∷ 255 ∷ 255 ∷ 255 ∷ 255 ∷ 255 ∷ 255 ∷ 92 ∷ 92 ∷ 92 ∷ 92 ∷ 92 ∷ 92 ∷ 92 ∷ 92 ∷ 92 ∷ 92 ∷ 92 ∷ 92 ∷ 92 ∷ 92 ∷ 92 ∷ 92 ∷ 92 ∷ 92 ∷ 92 ∷ 92 ∷ 92 ∷ 92 ∷ 92 ∷ 92 ∷ 92 ∷ 92 ∷ 92 ∷ 92 ∷ 92 ∷ 92 ∷ 92 ∷ 92 ∷ 92 ∷ 92 ∷ 92 ∷ 92 ∷ 92 ∷ 92 ∷ 92 ∷ 92 ∷ 92 ∷ 92 ∷ 92 ∷ 92 ∷ 92 ∷ 92 ∷ 92 ∷ 92 ∷ 92 ∷ 92 ∷ 92 ∷ 92 ∷ 92 ∷ 92 ∷ 92 ∷ 92 ∷ 92 ∷ 92 ∷ 92 ∷ 92 ∷ 92 ∷ 92 ∷ 92 ∷ 92 ∷ 92 ∷ 92 ∷ 92 ∷ 92 ∷ 92 ∷ 92 ∷ 92 ∷ 92 ∷ 92 ∷ 92 ∷ 92 ∷ 92 ∷ 92 ∷ 92 ∷ 92 ∷ 92 ∷ 92 ∷ 92 ∷ 92 ∷ 92 ∷ 92 ∷ 92 ∷ 92 ∷ 92 ∷ 92 ∷ 92 ∷ 92 ∷ 92 ∷ 92 ∷ 92 ∷ 92 ∷ 92 ∷ 92 ∷ 92 ∷ 92 ∷ 92 ∷ 13 ∷ 10 ∷ []);
      took = 0;
      unsent = 0;
      idle_since = 0;
      next_job = None;
      charts = (call.Run ∷ call.Return ∷ []) ∷ (call.Run ∷ call.Start ∷ call.Return ∷ call.DispatchOther ∷ call.Run ∷ call.Fail ∷ []) ∷ [];
    }
unfolding head_text digits date_at count_off is_name_byte
trace_138-connection = refl

trace_138-request : request_told trace_138_22
    ≡ record {
      part = 1;
      state = state.Dispatched;
      running = None;
      parked = None;
      given = 5;
      is_end_told = false;
      waiting = 0;
      used = 5;
      swallowed = 0;
      has_whole_body = true;
      has_bad_body = false;
      listeners = [];
      owed = [];
      deadline = (Some 20);
      ready = record { read_set = false; read_armed = false; all_read_told = false; write_set = false; write_armed = false };
    }
unfolding is_name_byte
trace_138-request = refl

trace_138-answer : answer_told trace_138_22
    ≡ record {
      status = 200;
      fields = [];
      set_length = None;
      content = 108;
      is_aborted = true;
    }
unfolding digits
trace_138-answer = refl

trace_138-01-settled : settled trace_138_limits trace_138_rules 0 ((0, opened) ∷ [])
    ≡ trace_138_01
unfolding settled head_text digits date_at count_off is_name_byte trimmed front_length whole_head host_fits head_of verdict_of target_of framed is_utf8 chars encode
trace_138-01-settled = refl

trace_138-02-settled : settled trace_138_limits trace_138_rules 0 ((0, came (codes "GET / HTTP/1.1\r\nHost")) ∷ trace_138_01)
    ≡ trace_138_02
unfolding settled head_text digits date_at count_off is_name_byte trimmed front_length whole_head host_fits head_of verdict_of target_of framed is_utf8 chars encode
trace_138-02-settled = refl

trace_138-03-settled : settled trace_138_limits trace_138_rules 0 ((0, came (codes ": a\r\n\r\n")) ∷ trace_138_02)
    ≡ trace_138_03
unfolding settled head_text digits date_at count_off is_name_byte trimmed front_length whole_head host_fits head_of verdict_of target_of framed is_utf8 chars encode
trace_138-03-settled = refl

trace_138-04-next : next_job (trace_138_03)
    ≡ (Some (job.Service 0))
unfolding head_text digits date_at count_off is_name_byte
trace_138-04-next = refl

trace_138-05-end : end_marks ((0, called call.Return None) ∷ (0, back) ∷ trace_138_04)
    ≡ (over ∷ [])
unfolding head_text digits date_at count_off is_name_byte
trace_138-05-end = refl

trace_138-05-settled : settled trace_138_limits trace_138_rules 0 ((0, over) ∷ (0, called call.Return None) ∷ (0, back) ∷ trace_138_04)
    ≡ trace_138_05
unfolding settled head_text digits date_at count_off is_name_byte trimmed front_length whole_head host_fits head_of verdict_of target_of framed is_utf8 chars encode
trace_138-05-settled = refl

trace_138-07-settled : settled trace_138_limits trace_138_rules 0 ((0, came (codes "POST / HTTP/1.1\r\nHost: \r\nContent-Length: 5\r\n\r\nb")) ∷ trace_138_05)
    ≡ trace_138_07
unfolding settled head_text digits date_at count_off is_name_byte trimmed front_length whole_head host_fits head_of verdict_of target_of framed is_utf8 chars encode
trace_138-07-settled = refl

trace_138-08-next : next_job (trace_138_07)
    ≡ (Some (job.Service 0))
unfolding head_text digits date_at count_off is_name_byte
trace_138-08-next = refl

trace_138-09-settled : settled trace_138_limits trace_138_rules 0 ((0, put (255 ∷ 255 ∷ 255 ∷ 255 ∷ 255 ∷ 255 ∷ 255 ∷ 255 ∷ [])) ∷ trace_138_08)
    ≡ trace_138_09
unfolding settled head_text digits date_at count_off is_name_byte trimmed front_length whole_head host_fits head_of verdict_of target_of framed is_utf8 chars encode
trace_138-09-settled = refl

trace_138-10-settled : settled trace_138_limits trace_138_rules 0 ((0, called call.Start None) ∷ trace_138_09)
    ≡ trace_138_10
unfolding settled head_text digits date_at count_off is_name_byte trimmed front_length whole_head host_fits head_of verdict_of target_of framed is_utf8 chars encode
trace_138-10-settled = refl

trace_138-11-settled : settled trace_138_limits trace_138_rules 0 ((0, called call.Return None) ∷ (0, back) ∷ trace_138_10)
    ≡ trace_138_11
unfolding settled head_text digits date_at count_off is_name_byte trimmed front_length whole_head host_fits head_of verdict_of target_of framed is_utf8 chars encode
trace_138-11-settled = refl

trace_138-13-settled : settled trace_138_limits trace_138_rules 0 ((0, came (codes "yyxz")) ∷ trace_138_12)
    ≡ trace_138_13
unfolding settled head_text digits date_at count_off is_name_byte trimmed front_length whole_head host_fits head_of verdict_of target_of framed is_utf8 chars encode
trace_138-13-settled = refl

trace_138-19-settled : settled trace_138_limits trace_138_rules 0 ((0, broken) ∷ (0, caused cause.Shut) ∷ trace_138_18)
    ≡ trace_138_19
unfolding settled head_text digits date_at count_off is_name_byte trimmed front_length whole_head host_fits head_of verdict_of target_of framed is_utf8 chars encode
trace_138-19-settled = refl

trace_138-20-next : next_job (trace_138_19)
    ≡ (Some (job.Again 1))
unfolding head_text digits date_at count_off is_name_byte
trace_138-20-next = refl

trace_138-22-end : end_marks ((0, aborted) ∷ (0, called call.Fail None) ∷ (0, back) ∷ trace_138_20)
    ≡ (over ∷ [])
unfolding head_text digits date_at count_off is_name_byte
trace_138-22-end = refl

trace_138-22-settled : settled trace_138_limits trace_138_rules 0 ((0, over) ∷ (0, aborted) ∷ (0, called call.Fail None) ∷ (0, back) ∷ trace_138_20)
    ≡ trace_138_22
unfolding settled head_text digits date_at count_off is_name_byte trimmed front_length whole_head host_fits head_of verdict_of target_of framed is_utf8 chars encode
trace_138-22-settled = refl

abbrev trace_139_limits : Limits
trace_139_limits = record { max_connections = 256; max_head = 8192; max_fields = 100; max_keep_alive = pos 100; connection_timeout = 20000; async_timeout = 30000; max_swallow = 2097152; max_trailer = 8192; parts = 3 }

abbrev trace_139_rules : List Rule
trace_139_rules = record { pattern = (codes "/"); part = 0; can_async = true } ∷ record { pattern = (codes "/a"); part = 1; can_async = true } ∷ record { pattern = (codes "/x/*"); part = 2; can_async = false } ∷ []

abbrev trace_139_01 : Trace
trace_139_01 = (0, opened) ∷ []

abbrev trace_139_02 : Trace
trace_139_02 = (0, began (record { place = 0; size = 84; head = record { method = (codes "PUT"); target = (codes "/q.do"); minor = 1; fields = record { name = (codes "Host"); value = (codes "a.b%41") } ∷ record { name = (codes "Transfer-Encoding"); value = (codes ", chunked") } ∷ record { name = (codes "Cookie"); value = (codes "x=1; y=2") } ∷ [] }; framing = framing.Chunked; max_trailer = 8192; async_timeout = 30000; part = 0; can_async = true; keep = true; go_on = false })) ∷ (0, came (codes "PUT /q.do HTTP/1.1\r\nHost: a.b%41\r\nTransfer-Encoding: , chunked\r\nCookie: x=1; y=2\r\n\r\n")) ∷ trace_139_01

abbrev trace_139_03 : Trace
trace_139_03 = (0, called call.Run None) ∷ (0, started (job.Service 0)) ∷ trace_139_02

abbrev trace_139_05 : Trace
trace_139_05 = (1, called call.Start None) ∷ trace_139_03

abbrev trace_139_06 : Trace
trace_139_06 = (1, read_listener_set) ∷ trace_139_05

abbrev trace_139_07 : Trace
trace_139_07 = (1, called call.Return None) ∷ (1, back) ∷ trace_139_06

abbrev trace_139_08 : Trace
trace_139_08 = (1, came (codes "3\r")) ∷ trace_139_07

abbrev trace_139_15 : Trace
trace_139_15 = (1, sent 0) ∷ trace_139_08

abbrev trace_139_16 : Trace
trace_139_16 = (1, came []) ∷ trace_139_15

abbrev trace_139_18 : Trace
trace_139_18 = (1, called call.Fault None) ∷ (1, caused cause.BadBody) ∷ (1, came (0 ∷ 108 ∷ 108 ∷ 111 ∷ 13 ∷ 10 ∷ 48 ∷ 13 ∷ 10 ∷ [])) ∷ trace_139_16

abbrev trace_139_19 : Trace
trace_139_19 = (1, started job.ReadError) ∷ trace_139_18

abbrev trace_139_20 : Trace
trace_139_20 = (1, over) ∷ (1, error_answer 400) ∷ (1, called call.Return None) ∷ (1, error_answer 500) ∷ (1, called call.Return None) ∷ (1, back) ∷ trace_139_19

trace_139-connection : connection_told trace_139_20
    ≡ record {
      came = 95;
      consumed = 86;
      room = 16375;
      has_ended = false;
      cause = (Some cause.BadBody);
      is_broken = false;
      is_gone = false;
      is_open = false;
      begun = 1;
      output = (codes "HTTP/1.1 400 \r\nContent-Type: text/plain\r\nContent-Length: 10\r\nDate: Thu, 01 Jan 1970 00:00:00 GMT\r\nConnection: close\r\n\r\nError 400\n");
      took = 0;
      unsent = 129;
      idle_since = 1;
      next_job = None;
      charts = (call.Run ∷ call.Start ∷ call.Return ∷ call.Fault ∷ call.Return ∷ call.Return ∷ []) ∷ [];
    }
unfolding head_text digits date_at count_off is_name_byte
trace_139-connection = refl

trace_139-request : request_told trace_139_20
    ≡ record {
      part = 0;
      state = state.Completing;
      running = None;
      parked = None;
      given = 0;
      is_end_told = false;
      waiting = 0;
      used = 2;
      swallowed = 2;
      has_whole_body = false;
      has_bad_body = true;
      listeners = [];
      owed = [];
      deadline = (Some 30001);
      ready = record { read_set = true; read_armed = true; all_read_told = false; write_set = false; write_armed = false };
    }
unfolding is_name_byte
trace_139-request = refl

trace_139-answer : answer_told trace_139_20
    ≡ record {
      status = 400;
      fields = record { name = (codes "Content-Type"); value = (codes "text/plain") } ∷ [];
      set_length = None;
      content = 10;
      is_aborted = false;
    }
unfolding digits
trace_139-answer = refl

trace_139-01-settled : settled trace_139_limits trace_139_rules 0 ((0, opened) ∷ [])
    ≡ trace_139_01
unfolding settled head_text digits date_at count_off is_name_byte trimmed front_length whole_head host_fits head_of verdict_of target_of framed is_utf8 chars encode
trace_139-01-settled = refl

trace_139-02-settled : settled trace_139_limits trace_139_rules 0 ((0, came (codes "PUT /q.do HTTP/1.1\r\nHost: a.b%41\r\nTransfer-Encoding: , chunked\r\nCookie: x=1; y=2\r\n\r\n")) ∷ trace_139_01)
    ≡ trace_139_02
unfolding settled head_text digits date_at count_off is_name_byte trimmed front_length whole_head host_fits head_of verdict_of target_of framed is_utf8 chars encode
trace_139-02-settled = refl

trace_139-03-next : next_job (trace_139_02)
    ≡ (Some (job.Service 0))
unfolding head_text digits date_at count_off is_name_byte
trace_139-03-next = refl

trace_139-04-tick : tick_move trace_139_limits 1 trace_139_03
    ≡ None
unfolding head_text digits date_at count_off is_name_byte
trace_139-04-tick = refl

trace_139-05-settled : settled trace_139_limits trace_139_rules 1 ((1, called call.Start None) ∷ trace_139_03)
    ≡ trace_139_05
unfolding settled head_text digits date_at count_off is_name_byte trimmed front_length whole_head host_fits head_of verdict_of target_of framed is_utf8 chars encode
trace_139-05-settled = refl

trace_139-06-settled : settled trace_139_limits trace_139_rules 1 ((1, read_listener_set) ∷ trace_139_05)
    ≡ trace_139_06
unfolding settled head_text digits date_at count_off is_name_byte trimmed front_length whole_head host_fits head_of verdict_of target_of framed is_utf8 chars encode
trace_139-06-settled = refl

trace_139-07-settled : settled trace_139_limits trace_139_rules 1 ((1, called call.Return None) ∷ (1, back) ∷ trace_139_06)
    ≡ trace_139_07
unfolding settled head_text digits date_at count_off is_name_byte trimmed front_length whole_head host_fits head_of verdict_of target_of framed is_utf8 chars encode
trace_139-07-settled = refl

trace_139-08-settled : settled trace_139_limits trace_139_rules 1 ((1, came (codes "3\r")) ∷ trace_139_07)
    ≡ trace_139_08
unfolding settled head_text digits date_at count_off is_name_byte trimmed front_length whole_head host_fits head_of verdict_of target_of framed is_utf8 chars encode
trace_139-08-settled = refl

trace_139-10-reply : reply_to trace_139_limits trace_139_rules 0 trace_139_08 (on_act (act.Read 65536) [])
    ≡ plain reply.NotActive
unfolding reply_to head_text digits date_at count_off is_name_byte
trace_139-10-reply = refl

trace_139-15-settled : settled trace_139_limits trace_139_rules 1 ((1, sent 0) ∷ trace_139_08)
    ≡ trace_139_15
unfolding settled head_text digits date_at count_off is_name_byte trimmed front_length whole_head host_fits head_of verdict_of target_of framed is_utf8 chars encode
trace_139-15-settled = refl

trace_139-16-settled : settled trace_139_limits trace_139_rules 1 ((1, came []) ∷ trace_139_15)
    ≡ trace_139_16
unfolding settled head_text digits date_at count_off is_name_byte trimmed front_length whole_head host_fits head_of verdict_of target_of framed is_utf8 chars encode
trace_139-16-settled = refl

trace_139-18-settled : settled trace_139_limits trace_139_rules 1 ((1, came (0 ∷ 108 ∷ 108 ∷ 111 ∷ 13 ∷ 10 ∷ 48 ∷ 13 ∷ 10 ∷ [])) ∷ trace_139_16)
    ≡ trace_139_18
unfolding settled head_text digits date_at count_off is_name_byte trimmed front_length whole_head host_fits head_of verdict_of target_of framed is_utf8 chars encode
trace_139-18-settled = refl

trace_139-19-next : next_job (trace_139_18)
    ≡ (Some job.ReadError)
unfolding head_text digits date_at count_off is_name_byte
trace_139-19-next = refl

trace_139-20-settled : settled trace_139_limits trace_139_rules 1 ((1, back) ∷ trace_139_19)
    ≡ trace_139_20
unfolding settled head_text digits date_at count_off is_name_byte trimmed front_length whole_head host_fits head_of verdict_of target_of framed is_utf8 chars encode
trace_139-20-settled = refl
