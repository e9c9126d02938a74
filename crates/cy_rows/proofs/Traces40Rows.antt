-- Traces that another program made, with what it tells of them, computed from the definitions. Made by `cases/rows.py`.
use Rattle.std.proofs.Common.{◌≡◌, true, false, List, [], ◌∷◌, Some, None, codes, refl}
use Rattle.std.specs.Prelude.{pos}
use Rattle.std.specs.Fmt.{digits}
use Rattle.std.specs.Str.{is_utf8, chars}
use lib.Utf8.{encode}
use Rattle.cy_event.specs.declared.framing.Framing.TheVariants as framing
use Rattle.cy_event.specs.declared.limits.Limits.{Limits}
use Rattle.cy_event.specs.declared.steps.Act.TheVariants as act
use Rattle.cy_event.specs.declared.steps.Call.TheVariants as call
use Rattle.cy_event.specs.declared.steps.CloseCause.TheVariants as cause
use Rattle.cy_event.specs.declared.steps.Job.TheVariants as job
use Rattle.cy_event.specs.declared.steps.Reply.TheVariants as reply
use Rattle.cy_event.specs.declared.steps.State.TheVariants as state
use Rattle.cy_event.specs.Answers.{head_text}
use Rattle.cy_event.specs.Dates.{date_at, count_off}
use Rattle.cy_event.specs.Framings.{framed}
use Rattle.cy_event.specs.Heads.{is_name_byte, trimmed, front_length, whole_head, host_fits, head_of}
use Rattle.cy_event.specs.Targets.{target_of}
use Rattle.cy_map.specs.declared.rule.Rule.{Rule}
use Rattle.cy_model.specs.Endings.{end_marks}
use Rattle.cy_model.specs.Entries.{on_act, reply_to}
use Rattle.cy_model.specs.Jobs.{next_job}
use Rattle.cy_model.specs.Marks.{Trace, opened, came, began, called, started, back, timeout_set, read_listener_set, write_listener_set, field_added, length_set, error_answer, over, caused, broken}
use Rattle.cy_model.specs.Replies.{plain}
use Rattle.cy_model.specs.Settling.{settled}
use Rattle.cy_model.specs.Ticks.{tick_move}
use Rattle.cy_model.specs.Verdicts.{verdict_of}
use Rattle.cy_rows.specs.Told.{answer_told, connection_told, request_told}

abbrev trace_149_limits : Limits
trace_149_limits = record { max_connections = 256; max_head = 8192; max_fields = 100; max_keep_alive = pos 100; connection_timeout = 20000; async_timeout = 30000; max_swallow = 2097152; max_trailer = 8192; parts = 3 }

abbrev trace_149_rules : List Rule
trace_149_rules = record { pattern = (codes "/"); part = 0; can_async = true } ∷ record { pattern = (codes "/a"); part = 1; can_async = true } ∷ record { pattern = (codes "/x/*"); part = 2; can_async = false } ∷ []

abbrev trace_149_01 : Trace
trace_149_01 = (0, opened) ∷ []

abbrev trace_149_03 : Trace
trace_149_03 = (0, began (record { place = 0; size = 27; head = record { method = (codes "GET"); target = (codes "/"); minor = 1; fields = record { name = (codes "Host"); value = (codes "a") } ∷ [] }; framing = framing.None; max_trailer = 8192; async_timeout = 30000; part = 0; can_async = true; keep = true; go_on = false })) ∷ (0, came (codes "GET / HTTP/1.1\r\nHost: a\r\n\r\n")) ∷ trace_149_01

abbrev trace_149_04 : Trace
trace_149_04 = (0, called call.Run None) ∷ (0, started (job.Service 0)) ∷ trace_149_03

abbrev trace_149_05 : Trace
trace_149_05 = (0, came (codes "POST /a HTTP/1.1\r\nHost: localhost:8080\r\nConnection: x, Close\r\nTransfer-Encoding: Chunked\r\nX: llllllllllllllllllllllllllllllllllllllll\r\nA: b\r\n\r\n0\r\nT: v\r\na:\r\n\r\n")) ∷ trace_149_04

abbrev trace_149_08 : Trace
trace_149_08 = (1, began (record { place = 27; size = 143; head = record { method = (codes "POST"); target = (codes "/a"); minor = 1; fields = record { name = (codes "Host"); value = (codes "localhost:8080") } ∷ record { name = (codes "Connection"); value = (codes "x, Close") } ∷ record { name = (codes "Transfer-Encoding"); value = (codes "Chunked") } ∷ record { name = (codes "X"); value = (codes "llllllllllllllllllllllllllllllllllllllll") } ∷ record { name = (codes "A"); value = (codes "b") } ∷ [] }; framing = framing.Chunked; max_trailer = 8192; async_timeout = 30000; part = 1; can_async = true; keep = false; go_on = false })) ∷ (1, over) ∷ (1, called call.Return None) ∷ (1, back) ∷ trace_149_05

abbrev trace_149_09 : Trace
trace_149_09 = (1, called call.Run None) ∷ (1, started (job.Service 1)) ∷ trace_149_08

abbrev trace_149_10 : Trace
trace_149_10 = (1, length_set 5) ∷ trace_149_09

abbrev trace_149_11 : Trace
trace_149_11 = (1, broken) ∷ (1, caused cause.OutFault) ∷ trace_149_10

abbrev trace_149_12 : Trace
trace_149_12 = (1, called call.Start None) ∷ trace_149_11

abbrev trace_149_13 : Trace
trace_149_13 = (1, write_listener_set) ∷ trace_149_12

abbrev trace_149_14 : Trace
trace_149_14 = (1, timeout_set 0) ∷ trace_149_13

abbrev trace_149_15 : Trace
trace_149_15 = (1, called call.Return None) ∷ (1, back) ∷ trace_149_14

abbrev trace_149_16 : Trace
trace_149_16 = (1, called call.Run None) ∷ (1, started job.Writable) ∷ trace_149_15

abbrev trace_149_17 : Trace
trace_149_17 = (1, error_answer 500) ∷ (1, called call.Fail None) ∷ (1, back) ∷ trace_149_16

abbrev trace_149_18 : Trace
trace_149_18 = (1, started job.WriteError) ∷ trace_149_17

abbrev trace_149_23 : Trace
trace_149_23 = (1, called call.DispatchOther (Some 2)) ∷ trace_149_18

abbrev trace_149_24 : Trace
trace_149_24 = (1, back) ∷ trace_149_23

abbrev trace_149_25 : Trace
trace_149_25 = (1, called call.Run None) ∷ (1, started (job.Again 2)) ∷ trace_149_24

abbrev trace_149_28 : Trace
trace_149_28 = (1, called call.Start None) ∷ trace_149_25

abbrev trace_149_29 : Trace
trace_149_29 = (1, timeout_set 5) ∷ trace_149_28

abbrev trace_149_30 : Trace
trace_149_30 = (1, read_listener_set) ∷ trace_149_29

abbrev trace_149_31 : Trace
trace_149_31 = (1, write_listener_set) ∷ trace_149_30

abbrev trace_149_32 : Trace
trace_149_32 = (1, called call.Return None) ∷ (1, back) ∷ trace_149_31

abbrev trace_149_33 : Trace
trace_149_33 = (1, called call.Run None) ∷ (1, started job.AllRead) ∷ trace_149_32

abbrev trace_149_35 : Trace
trace_149_35 = (1, called call.CompleteOwn None) ∷ trace_149_33

abbrev trace_149_38 : Trace
trace_149_38 = (2, field_added (record { name = (codes "Set-Cookie"); value = (codes "xxxxxxxxxxxxxxxxxxxxxxxxxxxxxxxxxxxxxxxxxxxxxxxxxxxxxxxxxxxx") })) ∷ trace_149_35

abbrev trace_149_39 : Trace
trace_149_39 = (2, over) ∷ (2, called call.Return None) ∷ (2, called call.Return None) ∷ (2, back) ∷ trace_149_38

trace_149-connection : connection_told trace_149_39
    ≡ record {
      came = 185;
      consumed = 185;
      room = 16384;
      has_ended = false;
      cause = (Some cause.OutFault);
      is_broken = true;
      is_gone = true;
      is_open = false;
      begun = 2;
      output = (codes "HTTP/1.1 200 \r\nContent-Length: 0\r\nDate: Thu, 01 Jan 1970 00:00:00 GMT\r\n\r\n");
      took = 0;
      unsent = 0;
      idle_since = 2;
      next_job = None;
      charts = (call.Run ∷ call.Return ∷ []) ∷ (call.Run ∷ call.Start ∷ call.Return ∷ call.Run ∷ call.Fail ∷ call.DispatchOther ∷ call.Run ∷ call.Start ∷ call.Return ∷ call.Run ∷ call.CompleteOwn ∷ call.Return ∷ call.Return ∷ []) ∷ [];
    }
unfolding head_text digits date_at count_off is_name_byte
trace_149-connection = refl

trace_149-request : request_told trace_149_39
    ≡ record {
      part = 2;
      state = state.Completing;
      running = None;
      parked = None;
      given = 0;
      is_end_told = false;
      waiting = 0;
      used = 15;
      swallowed = 15;
      has_whole_body = true;
      has_bad_body = false;
      listeners = [];
      owed = [];
      deadline = (Some 6);
      ready = record { read_set = true; read_armed = true; all_read_told = true; write_set = true; write_armed = true };
    }
unfolding is_name_byte
trace_149-request = refl

trace_149-answer : answer_told trace_149_39
    ≡ record {
      status = 500;
      fields = record { name = (codes "Content-Type"); value = (codes "text/plain") } ∷ record { name = (codes "Set-Cookie"); value = (codes "xxxxxxxxxxxxxxxxxxxxxxxxxxxxxxxxxxxxxxxxxxxxxxxxxxxxxxxxxxxx") } ∷ [];
      set_length = None;
      content = 10;
      is_aborted = false;
    }
unfolding digits
trace_149-answer = refl

trace_149-01-settled : settled trace_149_limits trace_149_rules 0 ((0, opened) ∷ [])
    ≡ trace_149_01
unfolding settled head_text digits date_at count_off is_name_byte trimmed front_length whole_head host_fits head_of verdict_of target_of framed is_utf8 chars encode
trace_149-01-settled = refl

trace_149-03-settled : settled trace_149_limits trace_149_rules 0 ((0, came (codes "GET / HTTP/1.1\r\nHost: a\r\n\r\n")) ∷ trace_149_01)
    ≡ trace_149_03
unfolding settled head_text digits date_at count_off is_name_byte trimmed front_length whole_head host_fits head_of verdict_of target_of framed is_utf8 chars encode
trace_149-03-settled = refl

trace_149-04-next : next_job (trace_149_03)
    ≡ (Some (job.Service 0))
unfolding head_text digits date_at count_off is_name_byte
trace_149-04-next = refl

trace_149-05-settled : settled trace_149_limits trace_149_rules 0 ((0, came (codes "POST /a HTTP/1.1\r\nHost: localhost:8080\r\nConnection: x, Close\r\nTransfer-Encoding: Chunked\r\nX: llllllllllllllllllllllllllllllllllllllll\r\nA: b\r\n\r\n0\r\nT: v\r\na:\r\n\r\n")) ∷ trace_149_04)
    ≡ trace_149_05
unfolding settled head_text digits date_at count_off is_name_byte trimmed front_length whole_head host_fits head_of verdict_of target_of framed is_utf8 chars encode
trace_149-05-settled = refl

trace_149-06-tick : tick_move trace_149_limits 1 trace_149_05
    ≡ None
unfolding head_text digits date_at count_off is_name_byte
trace_149-06-tick = refl

trace_149-08-end : end_marks ((1, called call.Return None) ∷ (1, back) ∷ trace_149_05)
    ≡ (over ∷ [])
unfolding head_text digits date_at count_off is_name_byte
trace_149-08-end = refl

trace_149-08-settled : settled trace_149_limits trace_149_rules 1 ((1, over) ∷ (1, called call.Return None) ∷ (1, back) ∷ trace_149_05)
    ≡ trace_149_08
unfolding settled head_text digits date_at count_off is_name_byte trimmed front_length whole_head host_fits head_of verdict_of target_of framed is_utf8 chars encode
trace_149-08-settled = refl

trace_149-09-next : next_job (trace_149_08)
    ≡ (Some (job.Service 1))
unfolding head_text digits date_at count_off is_name_byte
trace_149-09-next = refl

trace_149-10-settled : settled trace_149_limits trace_149_rules 1 ((1, length_set 5) ∷ trace_149_09)
    ≡ trace_149_10
unfolding settled head_text digits date_at count_off is_name_byte trimmed front_length whole_head host_fits head_of verdict_of target_of framed is_utf8 chars encode
trace_149-10-settled = refl

trace_149-11-settled : settled trace_149_limits trace_149_rules 1 ((1, broken) ∷ (1, caused cause.OutFault) ∷ trace_149_10)
    ≡ trace_149_11
unfolding settled head_text digits date_at count_off is_name_byte trimmed front_length whole_head host_fits head_of verdict_of target_of framed is_utf8 chars encode
trace_149-11-settled = refl

trace_149-12-settled : settled trace_149_limits trace_149_rules 1 ((1, called call.Start None) ∷ trace_149_11)
    ≡ trace_149_12
unfolding settled head_text digits date_at count_off is_name_byte trimmed front_length whole_head host_fits head_of verdict_of target_of framed is_utf8 chars encode
trace_149-12-settled = refl

trace_149-13-settled : settled trace_149_limits trace_149_rules 1 ((1, write_listener_set) ∷ trace_149_12)
    ≡ trace_149_13
unfolding settled head_text digits date_at count_off is_name_byte trimmed front_length whole_head host_fits head_of verdict_of target_of framed is_utf8 chars encode
trace_149-13-settled = refl

trace_149-14-settled : settled trace_149_limits trace_149_rules 1 ((1, timeout_set 0) ∷ trace_149_13)
    ≡ trace_149_14
unfolding settled head_text digits date_at count_off is_name_byte trimmed front_length whole_head host_fits head_of verdict_of target_of framed is_utf8 chars encode
trace_149-14-settled = refl

trace_149-15-settled : settled trace_149_limits trace_149_rules 1 ((1, called call.Return None) ∷ (1, back) ∷ trace_149_14)
    ≡ trace_149_15
unfolding settled head_text digits date_at count_off is_name_byte trimmed front_length whole_head host_fits head_of verdict_of target_of framed is_utf8 chars encode
trace_149-15-settled = refl

trace_149-16-next : next_job (trace_149_15)
    ≡ (Some job.Writable)
unfolding head_text digits date_at count_off is_name_byte
trace_149-16-next = refl

trace_149-17-settled : settled trace_149_limits trace_149_rules 1 ((1, error_answer 500) ∷ (1, called call.Fail None) ∷ (1, back) ∷ trace_149_16)
    ≡ trace_149_17
unfolding settled head_text digits date_at count_off is_name_byte trimmed front_length whole_head host_fits head_of verdict_of target_of framed is_utf8 chars encode
trace_149-17-settled = refl

trace_149-18-next : next_job (trace_149_17)
    ≡ (Some job.WriteError)
unfolding head_text digits date_at count_off is_name_byte
trace_149-18-next = refl

trace_149-24-settled : settled trace_149_limits trace_149_rules 1 ((1, back) ∷ trace_149_23)
    ≡ trace_149_24
unfolding settled head_text digits date_at count_off is_name_byte trimmed front_length whole_head host_fits head_of verdict_of target_of framed is_utf8 chars encode
trace_149-24-settled = refl

trace_149-25-next : next_job (trace_149_24)
    ≡ (Some (job.Again 2))
unfolding head_text digits date_at count_off is_name_byte
trace_149-25-next = refl

trace_149-28-settled : settled trace_149_limits trace_149_rules 1 ((1, called call.Start None) ∷ trace_149_25)
    ≡ trace_149_28
unfolding settled head_text digits date_at count_off is_name_byte trimmed front_length whole_head host_fits head_of verdict_of target_of framed is_utf8 chars encode
trace_149-28-settled = refl

trace_149-29-settled : settled trace_149_limits trace_149_rules 1 ((1, timeout_set 5) ∷ trace_149_28)
    ≡ trace_149_29
unfolding settled head_text digits date_at count_off is_name_byte trimmed front_length whole_head host_fits head_of verdict_of target_of framed is_utf8 chars encode
trace_149-29-settled = refl

trace_149-30-settled : settled trace_149_limits trace_149_rules 1 ((1, read_listener_set) ∷ trace_149_29)
    ≡ trace_149_30
unfolding settled head_text digits date_at count_off is_name_byte trimmed front_length whole_head host_fits head_of verdict_of target_of framed is_utf8 chars encode
trace_149-30-settled = refl

trace_149-31-settled : settled trace_149_limits trace_149_rules 1 ((1, write_listener_set) ∷ trace_149_30)
    ≡ trace_149_31
unfolding settled head_text digits date_at count_off is_name_byte trimmed front_length whole_head host_fits head_of verdict_of target_of framed is_utf8 chars encode
trace_149-31-settled = refl

trace_149-32-settled : settled trace_149_limits trace_149_rules 1 ((1, called call.Return None) ∷ (1, back) ∷ trace_149_31)
    ≡ trace_149_32
unfolding settled head_text digits date_at count_off is_name_byte trimmed front_length whole_head host_fits head_of verdict_of target_of framed is_utf8 chars encode
trace_149-32-settled = refl

trace_149-33-next : next_job (trace_149_32)
    ≡ (Some job.AllRead)
unfolding head_text digits date_at count_off is_name_byte
trace_149-33-next = refl

trace_149-35-settled : settled trace_149_limits trace_149_rules 1 ((1, called call.CompleteOwn None) ∷ trace_149_33)
    ≡ trace_149_35
unfolding settled head_text digits date_at count_off is_name_byte trimmed front_length whole_head host_fits head_of verdict_of target_of framed is_utf8 chars encode
trace_149-35-settled = refl

trace_149-36-tick : tick_move trace_149_limits 2 trace_149_35
    ≡ None
unfolding head_text digits date_at count_off is_name_byte
trace_149-36-tick = refl

trace_149-37-reply : reply_to trace_149_limits trace_149_rules 0 trace_149_35 (on_act (act.Read 100) [])
    ≡ plain reply.Closed
unfolding reply_to head_text digits date_at count_off is_name_byte
trace_149-37-reply = refl

trace_149-38-settled : settled trace_149_limits trace_149_rules 2 ((2, field_added (record { name = (codes "Set-Cookie"); value = (codes "xxxxxxxxxxxxxxxxxxxxxxxxxxxxxxxxxxxxxxxxxxxxxxxxxxxxxxxxxxxx") })) ∷ trace_149_35)
    ≡ trace_149_38
unfolding settled head_text digits date_at count_off is_name_byte trimmed front_length whole_head host_fits head_of verdict_of target_of framed is_utf8 chars encode
trace_149-38-settled = refl

trace_149-39-settled : settled trace_149_limits trace_149_rules 2 ((2, called call.Return None) ∷ (2, back) ∷ trace_149_38)
    ≡ trace_149_39
unfolding settled head_text digits date_at count_off is_name_byte trimmed front_length whole_head host_fits head_of verdict_of target_of framed is_utf8 chars encode
trace_149-39-settled = refl
