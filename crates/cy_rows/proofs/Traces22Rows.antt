-- Traces that another program made, with what it tells of them, computed from the definitions. Made by `cases/rows.py`.
use Rattle.std.proofs.Common.{◌≡◌, true, false, List, [], ◌∷◌, Some, None, codes, refl}
use Rattle.std.specs.Prelude.{negsuc}
use Rattle.std.specs.Fmt.{digits}
use Rattle.std.specs.Str.{is_utf8, chars}
use lib.Utf8.{encode}
use Rattle.cy_event.specs.declared.framing.Framing.TheVariants as framing
use Rattle.cy_event.specs.declared.limits.Limits.{Limits}
use Rattle.cy_event.specs.declared.steps.Act.TheVariants as act
use Rattle.cy_event.specs.declared.steps.Call.TheVariants as call
use Rattle.cy_event.specs.declared.steps.CloseCause.TheVariants as cause
use Rattle.cy_event.specs.declared.steps.Job.TheVariants as job
use Rattle.cy_event.specs.declared.steps.Reply.TheVariants as reply
use Rattle.cy_event.specs.declared.steps.State.TheVariants as state
use Rattle.cy_event.specs.Answers.{head_text}
use Rattle.cy_event.specs.Dates.{date_at, count_off}
use Rattle.cy_event.specs.Framings.{framed}
use Rattle.cy_event.specs.Heads.{is_name_byte, trimmed, front_length, whole_head, host_fits, head_of}
use Rattle.cy_event.specs.Targets.{target_of}
use Rattle.cy_map.specs.declared.rule.Rule.{Rule}
use Rattle.cy_model.specs.Entries.{on_act, reply_to}
use Rattle.cy_model.specs.Jobs.{next_job}
use Rattle.cy_model.specs.Marks.{Trace, opened, ended, came, sent, began, called, started, back, error_answer, over, caused}
use Rattle.cy_model.specs.Replies.{plain}
use Rattle.cy_model.specs.Settling.{settled}
use Rattle.cy_model.specs.Ticks.{tick_move}
use Rattle.cy_model.specs.Verdicts.{verdict_of}
use Rattle.cy_rows.specs.Told.{answer_told, connection_told, request_told}

abbrev trace_096_limits : Limits
trace_096_limits = record { max_connections = 256; max_head = 8192; max_fields = 100; max_keep_alive = negsuc 0; connection_timeout = 20000; async_timeout = 30000; max_swallow = 0; max_trailer = 8192; parts = 5 }

abbrev trace_096_rules : List Rule
trace_096_rules = record { pattern = (codes "/a/*"); part = 2; can_async = false } ∷ record { pattern = (codes "/x/*"); part = 2; can_async = false } ∷ record { pattern = (codes "/*"); part = 4; can_async = true } ∷ record { pattern = (codes "*.do"); part = 3; can_async = false } ∷ []

abbrev trace_096_01 : Trace
trace_096_01 = (0, opened) ∷ []

abbrev trace_096_02 : Trace
trace_096_02 = (0, sent 0) ∷ trace_096_01

abbrev trace_096_03 : Trace
trace_096_03 = (0, began (record { place = 0; size = 68; head = record { method = (codes "GET"); target = (codes "/"); minor = 1; fields = record { name = (codes "Host"); value = (codes "localhost:8080") } ∷ record { name = (codes "Transfer-Encoding"); value = (codes "chunked") } ∷ [] }; framing = framing.Chunked; max_trailer = 8192; async_timeout = 30000; part = 4; can_async = true; keep = true; go_on = false })) ∷ (0, came (codes "GET / HTTP/1.1\r\nHost: localhost:8080\r\nTransfer-Encoding: chunked\r\n\r\n")) ∷ trace_096_02

abbrev trace_096_04 : Trace
trace_096_04 = (0, came []) ∷ trace_096_03

abbrev trace_096_05 : Trace
trace_096_05 = (0, caused cause.InputEnd) ∷ (0, ended) ∷ trace_096_04

abbrev trace_096_06 : Trace
trace_096_06 = (0, called call.Run None) ∷ (0, started (job.Service 4)) ∷ trace_096_05

abbrev trace_096_08 : Trace
trace_096_08 = (0, called call.Start None) ∷ trace_096_06

abbrev trace_096_09 : Trace
trace_096_09 = (0, called call.DispatchOther (Some 4)) ∷ trace_096_08

abbrev trace_096_11 : Trace
trace_096_11 = (0, called call.Return None) ∷ (0, back) ∷ trace_096_09

abbrev trace_096_12 : Trace
trace_096_12 = (0, sent 0) ∷ trace_096_11

abbrev trace_096_13 : Trace
trace_096_13 = (0, sent 0) ∷ trace_096_12

abbrev trace_096_14 : Trace
trace_096_14 = (0, sent 0) ∷ trace_096_13

abbrev trace_096_15 : Trace
trace_096_15 = (0, called call.Run None) ∷ (0, started (job.Again 4)) ∷ trace_096_14

abbrev trace_096_16 : Trace
trace_096_16 = (0, called call.Start None) ∷ trace_096_15

abbrev trace_096_17 : Trace
trace_096_17 = (0, called call.Return None) ∷ (0, back) ∷ trace_096_16

abbrev trace_096_21 : Trace
trace_096_21 = (0, sent 0) ∷ trace_096_17

abbrev trace_096_23 : Trace
trace_096_23 = (0, sent 0) ∷ trace_096_21

abbrev trace_096_26 : Trace
trace_096_26 = (0, sent 0) ∷ trace_096_23

abbrev trace_096_28 : Trace
trace_096_28 = (30000, over) ∷ (30000, error_answer 400) ∷ (30000, called call.Return None) ∷ (30000, error_answer 500) ∷ (30000, called call.Return None) ∷ (30000, called call.Return None) ∷ (30000, called call.Timeout None) ∷ trace_096_26

abbrev trace_096_30 : Trace
trace_096_30 = (30000, sent 129) ∷ trace_096_28

trace_096-connection : connection_told trace_096_30
    ≡ record {
      came = 68;
      consumed = 68;
      room = 16384;
      has_ended = true;
      cause = (Some cause.InputEnd);
      is_broken = false;
      is_gone = true;
      is_open = false;
      begun = 1;
      output = (codes "HTTP/1.1 400 \r\nContent-Type: text/plain\r\nContent-Length: 10\r\nDate: Thu, 01 Jan 1970 00:00:30 GMT\r\nConnection: close\r\n\r\nError 400\n");
      took = 129;
      unsent = 0;
      idle_since = 30000;
      next_job = None;
      charts = (call.Run ∷ call.Start ∷ call.DispatchOther ∷ call.Return ∷ call.Run ∷ call.Start ∷ call.Return ∷ call.Timeout ∷ call.Return ∷ call.Return ∷ call.Return ∷ []) ∷ [];
    }
unfolding head_text digits date_at count_off is_name_byte
trace_096-connection = refl

trace_096-request : request_told trace_096_30
    ≡ record {
      part = 4;
      state = state.Completing;
      running = None;
      parked = None;
      given = 0;
      is_end_told = false;
      waiting = 0;
      used = 0;
      swallowed = 0;
      has_whole_body = false;
      has_bad_body = false;
      listeners = [];
      owed = [];
      deadline = (Some 30000);
      ready = record { read_set = false; read_armed = false; all_read_told = false; write_set = false; write_armed = false };
    }
unfolding is_name_byte
trace_096-request = refl

trace_096-answer : answer_told trace_096_30
    ≡ record {
      status = 400;
      fields = record { name = (codes "Content-Type"); value = (codes "text/plain") } ∷ [];
      set_length = None;
      content = 10;
      is_aborted = false;
    }
unfolding digits
trace_096-answer = refl

trace_096-01-settled : settled trace_096_limits trace_096_rules 0 ((0, opened) ∷ [])
    ≡ trace_096_01
unfolding settled head_text digits date_at count_off is_name_byte trimmed front_length whole_head host_fits head_of verdict_of target_of framed is_utf8 chars encode
trace_096-01-settled = refl

trace_096-02-settled : settled trace_096_limits trace_096_rules 0 ((0, sent 0) ∷ trace_096_01)
    ≡ trace_096_02
unfolding settled head_text digits date_at count_off is_name_byte trimmed front_length whole_head host_fits head_of verdict_of target_of framed is_utf8 chars encode
trace_096-02-settled = refl

trace_096-03-settled : settled trace_096_limits trace_096_rules 0 ((0, came (codes "GET / HTTP/1.1\r\nHost: localhost:8080\r\nTransfer-Encoding: chunked\r\n\r\n")) ∷ trace_096_02)
    ≡ trace_096_03
unfolding settled head_text digits date_at count_off is_name_byte trimmed front_length whole_head host_fits head_of verdict_of target_of framed is_utf8 chars encode
trace_096-03-settled = refl

trace_096-04-settled : settled trace_096_limits trace_096_rules 0 ((0, came []) ∷ trace_096_03)
    ≡ trace_096_04
unfolding settled head_text digits date_at count_off is_name_byte trimmed front_length whole_head host_fits head_of verdict_of target_of framed is_utf8 chars encode
trace_096-04-settled = refl

trace_096-05-settled : settled trace_096_limits trace_096_rules 0 ((0, ended) ∷ trace_096_04)
    ≡ trace_096_05
unfolding settled head_text digits date_at count_off is_name_byte trimmed front_length whole_head host_fits head_of verdict_of target_of framed is_utf8 chars encode
trace_096-05-settled = refl

trace_096-06-next : next_job (trace_096_05)
    ≡ (Some (job.Service 4))
unfolding head_text digits date_at count_off is_name_byte
trace_096-06-next = refl

trace_096-07-reply : reply_to trace_096_limits trace_096_rules 0 trace_096_06 (on_act (act.Read 8192) [])
    ≡ plain reply.Closed
unfolding reply_to head_text digits date_at count_off is_name_byte
trace_096-07-reply = refl

trace_096-08-settled : settled trace_096_limits trace_096_rules 0 ((0, called call.Start None) ∷ trace_096_06)
    ≡ trace_096_08
unfolding settled head_text digits date_at count_off is_name_byte trimmed front_length whole_head host_fits head_of verdict_of target_of framed is_utf8 chars encode
trace_096-08-settled = refl

trace_096-11-settled : settled trace_096_limits trace_096_rules 0 ((0, called call.Return None) ∷ (0, back) ∷ trace_096_09)
    ≡ trace_096_11
unfolding settled head_text digits date_at count_off is_name_byte trimmed front_length whole_head host_fits head_of verdict_of target_of framed is_utf8 chars encode
trace_096-11-settled = refl

trace_096-12-settled : settled trace_096_limits trace_096_rules 0 ((0, sent 0) ∷ trace_096_11)
    ≡ trace_096_12
unfolding settled head_text digits date_at count_off is_name_byte trimmed front_length whole_head host_fits head_of verdict_of target_of framed is_utf8 chars encode
trace_096-12-settled = refl

trace_096-13-settled : settled trace_096_limits trace_096_rules 0 ((0, sent 0) ∷ trace_096_12)
    ≡ trace_096_13
unfolding settled head_text digits date_at count_off is_name_byte trimmed front_length whole_head host_fits head_of verdict_of target_of framed is_utf8 chars encode
trace_096-13-settled = refl

trace_096-14-settled : settled trace_096_limits trace_096_rules 0 ((0, sent 0) ∷ trace_096_13)
    ≡ trace_096_14
unfolding settled head_text digits date_at count_off is_name_byte trimmed front_length whole_head host_fits head_of verdict_of target_of framed is_utf8 chars encode
trace_096-14-settled = refl

trace_096-15-next : next_job (trace_096_14)
    ≡ (Some (job.Again 4))
unfolding head_text digits date_at count_off is_name_byte
trace_096-15-next = refl

trace_096-16-settled : settled trace_096_limits trace_096_rules 0 ((0, called call.Start None) ∷ trace_096_15)
    ≡ trace_096_16
unfolding settled head_text digits date_at count_off is_name_byte trimmed front_length whole_head host_fits head_of verdict_of target_of framed is_utf8 chars encode
trace_096-16-settled = refl

trace_096-17-settled : settled trace_096_limits trace_096_rules 0 ((0, called call.Return None) ∷ (0, back) ∷ trace_096_16)
    ≡ trace_096_17
unfolding settled head_text digits date_at count_off is_name_byte trimmed front_length whole_head host_fits head_of verdict_of target_of framed is_utf8 chars encode
trace_096-17-settled = refl

trace_096-21-settled : settled trace_096_limits trace_096_rules 0 ((0, sent 0) ∷ trace_096_17)
    ≡ trace_096_21
unfolding settled head_text digits date_at count_off is_name_byte trimmed front_length whole_head host_fits head_of verdict_of target_of framed is_utf8 chars encode
trace_096-21-settled = refl

trace_096-23-settled : settled trace_096_limits trace_096_rules 0 ((0, sent 0) ∷ trace_096_21)
    ≡ trace_096_23
unfolding settled head_text digits date_at count_off is_name_byte trimmed front_length whole_head host_fits head_of verdict_of target_of framed is_utf8 chars encode
trace_096-23-settled = refl

trace_096-26-settled : settled trace_096_limits trace_096_rules 0 ((0, sent 0) ∷ trace_096_23)
    ≡ trace_096_26
unfolding settled head_text digits date_at count_off is_name_byte trimmed front_length whole_head host_fits head_of verdict_of target_of framed is_utf8 chars encode
trace_096-26-settled = refl

trace_096-28-tick : tick_move trace_096_limits 30000 trace_096_26
    ≡ Some (called call.Timeout None ∷ [])
unfolding head_text digits date_at count_off is_name_byte
trace_096-28-tick = refl

trace_096-28-settled : settled trace_096_limits trace_096_rules 30000 ((30000, called call.Timeout None) ∷ trace_096_26)
    ≡ trace_096_28
unfolding settled head_text digits date_at count_off is_name_byte trimmed front_length whole_head host_fits head_of verdict_of target_of framed is_utf8 chars encode
trace_096-28-settled = refl

trace_096-30-settled : settled trace_096_limits trace_096_rules 30000 ((30000, sent 129) ∷ trace_096_28)
    ≡ trace_096_30
unfolding settled head_text digits date_at count_off is_name_byte trimmed front_length whole_head host_fits head_of verdict_of target_of framed is_utf8 chars encode
trace_096-30-settled = refl
