-- Traces that another program made, with what it tells of them, computed from the definitions. Made by `cases/rows.py`.
use Rattle.std.proofs.Common.{◌≡◌, true, false, List, [], ◌∷◌, Some, None, codes, refl}
use Rattle.std.specs.Prelude.{pos}
use Rattle.std.specs.Fmt.{digits}
use Rattle.std.specs.Str.{is_utf8, chars}
use lib.Utf8.{encode}
use Rattle.cy_event.specs.declared.framing.Framing.TheVariants as framing
use Rattle.cy_event.specs.declared.limits.Limits.{Limits}
use Rattle.cy_event.specs.declared.steps.Act.TheVariants as act
use Rattle.cy_event.specs.declared.steps.Call.TheVariants as call
use Rattle.cy_event.specs.declared.steps.CloseCause.TheVariants as cause
use Rattle.cy_event.specs.declared.steps.Job.TheVariants as job
use Rattle.cy_event.specs.declared.steps.Reply.TheVariants as reply
use Rattle.cy_event.specs.declared.steps.State.TheVariants as state
use Rattle.cy_event.specs.Answers.{head_text}
use Rattle.cy_event.specs.Dates.{date_at, count_off}
use Rattle.cy_event.specs.Framings.{framed}
use Rattle.cy_event.specs.Heads.{is_name_byte, trimmed, front_length, whole_head, host_fits, head_of}
use Rattle.cy_event.specs.Targets.{target_of}
use Rattle.cy_map.specs.declared.rule.Rule.{Rule}
use Rattle.cy_model.specs.Endings.{end_marks}
use Rattle.cy_model.specs.Entries.{on_act, reply_to}
use Rattle.cy_model.specs.Jobs.{next_job}
use Rattle.cy_model.specs.Marks.{Trace, opened, came, began, called, started, back, given, write_listener_set, put, flushed, aborted, over, caused, broken}
use Rattle.cy_model.specs.Settling.{settled}
use Rattle.cy_model.specs.Ticks.{tick_move}
use Rattle.cy_model.specs.Verdicts.{verdict_of}
use Rattle.cy_rows.specs.Told.{answer_told, connection_told, request_told}

abbrev trace_030_limits : Limits
trace_030_limits = record { max_connections = 256; max_head = 8192; max_fields = 100; max_keep_alive = pos 100; connection_timeout = 20000; async_timeout = 30000; max_swallow = 2097152; max_trailer = 8192; parts = 3 }

abbrev trace_030_rules : List Rule
trace_030_rules = record { pattern = (codes "/"); part = 0; can_async = true } ∷ record { pattern = (codes "/a"); part = 1; can_async = true } ∷ record { pattern = (codes "/x/*"); part = 2; can_async = false } ∷ []

abbrev trace_030_01 : Trace
trace_030_01 = (0, opened) ∷ []

abbrev trace_030_02 : Trace
trace_030_02 = (0, began (record { place = 0; size = 61; head = record { method = (codes "HEAD"); target = (codes "/x/y/z"); minor = 1; fields = record { name = (codes "Host"); value = (codes "a") } ∷ record { name = (codes "Transfer-Encoding"); value = (codes "Chunked") } ∷ [] }; framing = framing.Chunked; max_trailer = 8192; async_timeout = 30000; part = 2; can_async = false; keep = true; go_on = false })) ∷ (0, came (codes "HEAD /x/y/z HTTP/1.1\r\nHost: a\r\nTransfer-Encoding: Chunked\r\n\r\n5\r\npmnml\r\n0\r\nT: w\r\nT: w\r\n\r\n\n\r\nPOST / HTTP/1.1\r\nHost: a\r\nContent-Length: 010\r\n\r\nczyzacazbb")) ∷ trace_030_01

abbrev trace_030_03 : Trace
trace_030_03 = (0, called call.Run None) ∷ (0, started (job.Service 2)) ∷ trace_030_02

abbrev trace_030_05 : Trace
trace_030_05 = (0, given 3) ∷ trace_030_03

abbrev trace_030_06 : Trace
trace_030_06 = (0, began (record { place = 88; size = 52; head = record { method = (codes "POST"); target = (codes "/"); minor = 1; fields = record { name = (codes "Host"); value = (codes "a") } ∷ record { name = (codes "Content-Length"); value = (codes "010") } ∷ [] }; framing = (framing.Length 10); max_trailer = 8192; async_timeout = 30000; part = 0; can_async = true; keep = true; go_on = false })) ∷ (0, over) ∷ (0, called call.Return None) ∷ (0, back) ∷ trace_030_05

abbrev trace_030_07 : Trace
trace_030_07 = (0, called call.Run None) ∷ (0, started (job.Service 0)) ∷ trace_030_06

abbrev trace_030_08 : Trace
trace_030_08 = (0, called call.Start None) ∷ trace_030_07

abbrev trace_030_09 : Trace
trace_030_09 = (0, write_listener_set) ∷ trace_030_08

abbrev trace_030_10 : Trace
trace_030_10 = (0, called call.Return None) ∷ (0, back) ∷ trace_030_09

abbrev trace_030_11 : Trace
trace_030_11 = (0, called call.Run None) ∷ (0, started job.Writable) ∷ trace_030_10

abbrev trace_030_12 : Trace
trace_030_12 = (0, given 2) ∷ trace_030_11

abbrev trace_030_13 : Trace
trace_030_13 = (0, came (codes "POST //")) ∷ trace_030_12

abbrev trace_030_14 : Trace
trace_030_14 = (0, called call.Return None) ∷ (0, back) ∷ trace_030_13

abbrev trace_030_15 : Trace
trace_030_15 = (0, came (codes "a//b/ H")) ∷ trace_030_14

abbrev trace_030_16 : Trace
trace_030_16 = (0, flushed) ∷ trace_030_15

abbrev trace_030_17 : Trace
trace_030_17 = (0, put (codes "bbbbb")) ∷ trace_030_16

abbrev trace_030_18 : Trace
trace_030_18 = (0, came []) ∷ trace_030_17

abbrev trace_030_19 : Trace
trace_030_19 = (0, came (codes "TTP/1.0\r\nConnection: keep-alive\r\nContent-Length: 0\r\nHost: localhost:8080\r\n\r\n")) ∷ trace_030_18

abbrev trace_030_20 : Trace
trace_030_20 = (0, flushed) ∷ trace_030_19

abbrev trace_030_21 : Trace
trace_030_21 = (0, called call.Fault None) ∷ trace_030_20

abbrev trace_030_22 : Trace
trace_030_22 = (0, started job.WriteError) ∷ trace_030_21

abbrev trace_030_23 : Trace
trace_030_23 = (0, came (codes "GET /x/y/z HTTP/1.1\r\nHost: a\r\n\r\nGET / HTTP/1.1\r\nHost: localhost:8080\r\n\r\n")) ∷ trace_030_22

abbrev trace_030_24 : Trace
trace_030_24 = (0, caused cause.FailedAnswer) ∷ (0, over) ∷ (0, called call.Return None) ∷ (0, aborted) ∷ (0, called call.Return None) ∷ (0, back) ∷ trace_030_23

abbrev trace_030_27 : Trace
trace_030_27 = (20000, broken) ∷ trace_030_24

trace_030-connection : connection_told trace_030_27
    ≡ record {
      came = 312;
      consumed = 150;
      room = 16222;
      has_ended = false;
      cause = (Some cause.FailedAnswer);
      is_broken = true;
      is_gone = true;
      is_open = false;
      begun = 2;
      output = (codes "HTTP/1.1 200 \r\nContent-Length: 0\r\nDate: Thu, 01 Jan 1970 00:00:00 GMT\r\n\r\nHTTP/1.1 200 \r\nTransfer-Encoding: chunked\r\nDate: Thu, 01 Jan 1970 00:00:00 GMT\r\n\r\n5\r\nbbbbb\r\n");
      took = 0;
      unsent = 0;
      idle_since = 0;
      next_job = None;
      charts = (call.Run ∷ call.Return ∷ []) ∷ (call.Run ∷ call.Start ∷ call.Return ∷ call.Run ∷ call.Return ∷ call.Fault ∷ call.Return ∷ call.Return ∷ []) ∷ [];
    }
unfolding head_text digits date_at count_off is_name_byte
trace_030-connection = refl

trace_030-request : request_told trace_030_27
    ≡ record {
      part = 0;
      state = state.Completing;
      running = None;
      parked = None;
      given = 2;
      is_end_told = false;
      waiting = 8;
      used = 10;
      swallowed = 8;
      has_whole_body = true;
      has_bad_body = false;
      listeners = [];
      owed = [];
      deadline = (Some 30000);
      ready = record { read_set = false; read_armed = false; all_read_told = false; write_set = true; write_armed = false };
    }
unfolding is_name_byte
trace_030-request = refl

trace_030-answer : answer_told trace_030_27
    ≡ record {
      status = 200;
      fields = [];
      set_length = None;
      content = 5;
      is_aborted = true;
    }
unfolding digits
trace_030-answer = refl

trace_030-01-settled : settled trace_030_limits trace_030_rules 0 ((0, opened) ∷ [])
    ≡ trace_030_01
unfolding settled head_text digits date_at count_off is_name_byte trimmed front_length whole_head host_fits head_of verdict_of target_of framed is_utf8 chars encode
trace_030-01-settled = refl

trace_030-03-next : next_job (trace_030_02)
    ≡ (Some (job.Service 2))
unfolding head_text digits date_at count_off is_name_byte
trace_030-03-next = refl

trace_030-05-reply : reply_to trace_030_limits trace_030_rules 0 trace_030_03 (on_act (act.Read 3) [])
    ≡ record { reply = reply.Got 3; got = (codes "pmn") }
unfolding reply_to head_text digits date_at count_off is_name_byte
trace_030-05-reply = refl

trace_030-05-settled : settled trace_030_limits trace_030_rules 0 ((0, given 3) ∷ trace_030_03)
    ≡ trace_030_05
unfolding settled head_text digits date_at count_off is_name_byte trimmed front_length whole_head host_fits head_of verdict_of target_of framed is_utf8 chars encode
trace_030-05-settled = refl

trace_030-06-end : end_marks ((0, called call.Return None) ∷ (0, back) ∷ trace_030_05)
    ≡ (over ∷ [])
unfolding head_text digits date_at count_off is_name_byte
trace_030-06-end = refl

trace_030-06-settled : settled trace_030_limits trace_030_rules 0 ((0, over) ∷ (0, called call.Return None) ∷ (0, back) ∷ trace_030_05)
    ≡ trace_030_06
unfolding settled head_text digits date_at count_off is_name_byte trimmed front_length whole_head host_fits head_of verdict_of target_of framed is_utf8 chars encode
trace_030-06-settled = refl

trace_030-07-next : next_job (trace_030_06)
    ≡ (Some (job.Service 0))
unfolding head_text digits date_at count_off is_name_byte
trace_030-07-next = refl

trace_030-08-settled : settled trace_030_limits trace_030_rules 0 ((0, called call.Start None) ∷ trace_030_07)
    ≡ trace_030_08
unfolding settled head_text digits date_at count_off is_name_byte trimmed front_length whole_head host_fits head_of verdict_of target_of framed is_utf8 chars encode
trace_030-08-settled = refl

trace_030-09-settled : settled trace_030_limits trace_030_rules 0 ((0, write_listener_set) ∷ trace_030_08)
    ≡ trace_030_09
unfolding settled head_text digits date_at count_off is_name_byte trimmed front_length whole_head host_fits head_of verdict_of target_of framed is_utf8 chars encode
trace_030-09-settled = refl

trace_030-10-settled : settled trace_030_limits trace_030_rules 0 ((0, called call.Return None) ∷ (0, back) ∷ trace_030_09)
    ≡ trace_030_10
unfolding settled head_text digits date_at count_off is_name_byte trimmed front_length whole_head host_fits head_of verdict_of target_of framed is_utf8 chars encode
trace_030-10-settled = refl

trace_030-11-next : next_job (trace_030_10)
    ≡ (Some job.Writable)
unfolding head_text digits date_at count_off is_name_byte
trace_030-11-next = refl

trace_030-12-reply : reply_to trace_030_limits trace_030_rules 0 trace_030_11 (on_act (act.Read 2) [])
    ≡ record { reply = reply.Got 2; got = (codes "cz") }
unfolding reply_to head_text digits date_at count_off is_name_byte
trace_030-12-reply = refl

trace_030-12-settled : settled trace_030_limits trace_030_rules 0 ((0, given 2) ∷ trace_030_11)
    ≡ trace_030_12
unfolding settled head_text digits date_at count_off is_name_byte trimmed front_length whole_head host_fits head_of verdict_of target_of framed is_utf8 chars encode
trace_030-12-settled = refl

trace_030-13-settled : settled trace_030_limits trace_030_rules 0 ((0, came (codes "POST //")) ∷ trace_030_12)
    ≡ trace_030_13
unfolding settled head_text digits date_at count_off is_name_byte trimmed front_length whole_head host_fits head_of verdict_of target_of framed is_utf8 chars encode
trace_030-13-settled = refl

trace_030-14-settled : settled trace_030_limits trace_030_rules 0 ((0, called call.Return None) ∷ (0, back) ∷ trace_030_13)
    ≡ trace_030_14
unfolding settled head_text digits date_at count_off is_name_byte trimmed front_length whole_head host_fits head_of verdict_of target_of framed is_utf8 chars encode
trace_030-14-settled = refl

trace_030-15-settled : settled trace_030_limits trace_030_rules 0 ((0, came (codes "a//b/ H")) ∷ trace_030_14)
    ≡ trace_030_15
unfolding settled head_text digits date_at count_off is_name_byte trimmed front_length whole_head host_fits head_of verdict_of target_of framed is_utf8 chars encode
trace_030-15-settled = refl

trace_030-18-settled : settled trace_030_limits trace_030_rules 0 ((0, came []) ∷ trace_030_17)
    ≡ trace_030_18
unfolding settled head_text digits date_at count_off is_name_byte trimmed front_length whole_head host_fits head_of verdict_of target_of framed is_utf8 chars encode
trace_030-18-settled = refl

trace_030-19-settled : settled trace_030_limits trace_030_rules 0 ((0, came (codes "TTP/1.0\r\nConnection: keep-alive\r\nContent-Length: 0\r\nHost: localhost:8080\r\n\r\n")) ∷ trace_030_18)
    ≡ trace_030_19
unfolding settled head_text digits date_at count_off is_name_byte trimmed front_length whole_head host_fits head_of verdict_of target_of framed is_utf8 chars encode
trace_030-19-settled = refl

trace_030-22-next : next_job (trace_030_21)
    ≡ (Some job.WriteError)
unfolding head_text digits date_at count_off is_name_byte
trace_030-22-next = refl

trace_030-23-settled : settled trace_030_limits trace_030_rules 0 ((0, came (codes "GET /x/y/z HTTP/1.1\r\nHost: a\r\n\r\nGET / HTTP/1.1\r\nHost: localhost:8080\r\n\r\n")) ∷ trace_030_22)
    ≡ trace_030_23
unfolding settled head_text digits date_at count_off is_name_byte trimmed front_length whole_head host_fits head_of verdict_of target_of framed is_utf8 chars encode
trace_030-23-settled = refl

trace_030-24-settled : settled trace_030_limits trace_030_rules 0 ((0, back) ∷ trace_030_23)
    ≡ trace_030_24
unfolding settled head_text digits date_at count_off is_name_byte trimmed front_length whole_head host_fits head_of verdict_of target_of framed is_utf8 chars encode
trace_030-24-settled = refl

trace_030-26-tick : tick_move trace_030_limits 19999 trace_030_24
    ≡ None
unfolding head_text digits date_at count_off is_name_byte
trace_030-26-tick = refl

trace_030-27-tick : tick_move trace_030_limits 20000 trace_030_24
    ≡ Some (broken ∷ [])
unfolding head_text digits date_at count_off is_name_byte
trace_030-27-tick = refl

trace_030-27-settled : settled trace_030_limits trace_030_rules 20000 ((20000, broken) ∷ trace_030_24)
    ≡ trace_030_27
unfolding settled head_text digits date_at count_off is_name_byte trimmed front_length whole_head host_fits head_of verdict_of target_of framed is_utf8 chars encode
trace_030-27-settled = refl

trace_030-28-tick : tick_move trace_030_limits 20000 trace_030_27
    ≡ None
unfolding head_text digits date_at count_off is_name_byte
trace_030-28-tick = refl
