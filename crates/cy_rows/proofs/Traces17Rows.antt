-- Traces that another program made, with what it tells of them, computed from the definitions. Made by `cases/rows.py`.
use Rattle.std.proofs.Common.{◌≡◌, true, false, List, [], ◌∷◌, Some, None, codes, refl}
use Rattle.std.specs.Prelude.{pos}
use Rattle.std.specs.Fmt.{digits}
use Rattle.std.specs.Str.{is_utf8, chars}
use lib.Utf8.{encode}
use Rattle.cy_event.specs.declared.framing.Framing.TheVariants as framing
use Rattle.cy_event.specs.declared.limits.Limits.{Limits}
use Rattle.cy_event.specs.declared.steps.Act.TheVariants as act
use Rattle.cy_event.specs.declared.steps.Call.TheVariants as call
use Rattle.cy_event.specs.declared.steps.CloseCause.TheVariants as cause
use Rattle.cy_event.specs.declared.steps.Job.TheVariants as job
use Rattle.cy_event.specs.declared.steps.Reply.TheVariants as reply
use Rattle.cy_event.specs.declared.steps.State.TheVariants as state
use Rattle.cy_event.specs.Answers.{head_text}
use Rattle.cy_event.specs.Dates.{date_at, count_off}
use Rattle.cy_event.specs.Framings.{framed}
use Rattle.cy_event.specs.Heads.{is_name_byte, trimmed, front_length, whole_head, host_fits, head_of}
use Rattle.cy_event.specs.Targets.{target_of}
use Rattle.cy_map.specs.declared.rule.Rule.{Rule}
use Rattle.cy_model.specs.Entries.{on_act, reply_to}
use Rattle.cy_model.specs.Jobs.{next_job}
use Rattle.cy_model.specs.Marks.{Trace, opened, came, sent, began, called, started, back, listened, timeout_set, read_listener_set, write_listener_set, flushed, aborted, caused, broken}
use Rattle.cy_model.specs.Replies.{plain}
use Rattle.cy_model.specs.Settling.{settled}
use Rattle.cy_model.specs.Ticks.{tick_move}
use Rattle.cy_model.specs.Verdicts.{verdict_of}
use Rattle.cy_rows.specs.Told.{answer_told, connection_told, open_told, request_told}

abbrev trace_062_limits : Limits
trace_062_limits = record { max_connections = 256; max_head = 8192; max_fields = 100; max_keep_alive = pos 100; connection_timeout = 20000; async_timeout = 30000; max_swallow = 2097152; max_trailer = 8192; parts = 3 }

abbrev trace_062_rules : List Rule
trace_062_rules = record { pattern = (codes "/"); part = 0; can_async = true } ∷ record { pattern = (codes "/a"); part = 1; can_async = true } ∷ record { pattern = (codes "/x/*"); part = 2; can_async = false } ∷ []

abbrev trace_062_01 : Trace
trace_062_01 = (0, opened) ∷ []

abbrev trace_062_02 : Trace
trace_062_02 = (0, began (record { place = 0; size = 27; head = record { method = (codes "GET"); target = (codes "/"); minor = 1; fields = record { name = (codes "Host"); value = (codes "a") } ∷ [] }; framing = framing.None; max_trailer = 8192; async_timeout = 30000; part = 0; can_async = true; keep = true; go_on = false })) ∷ (0, came (codes "GET / HTTP/1.1\r\nHost: a\r\n\r\n")) ∷ trace_062_01

abbrev trace_062_03 : Trace
trace_062_03 = (0, called call.Run None) ∷ (0, started (job.Service 0)) ∷ trace_062_02

abbrev trace_062_04 : Trace
trace_062_04 = (0, flushed) ∷ trace_062_03

abbrev trace_062_05 : Trace
trace_062_05 = (0, called call.Start None) ∷ trace_062_04

abbrev trace_062_06 : Trace
trace_062_06 = (0, came (codes "GET / HTTP/1.1\r\nHost: a\r\n\r\n")) ∷ trace_062_05

abbrev trace_062_07 : Trace
trace_062_07 = (0, read_listener_set) ∷ trace_062_06

abbrev trace_062_09 : Trace
trace_062_09 = (0, write_listener_set) ∷ trace_062_07

abbrev trace_062_11 : Trace
trace_062_11 = (1, listened 32) ∷ trace_062_09

abbrev trace_062_12 : Trace
trace_062_12 = (1, timeout_set 1) ∷ trace_062_11

abbrev trace_062_13 : Trace
trace_062_13 = (1, listened 205) ∷ trace_062_12

abbrev trace_062_14 : Trace
trace_062_14 = (1, timeout_set 0) ∷ trace_062_13

abbrev trace_062_16 : Trace
trace_062_16 = (1, called call.Return None) ∷ (1, back) ∷ trace_062_14

abbrev trace_062_17 : Trace
trace_062_17 = (1, came (codes "\n\r\nPOST / HTTP/1.1\r\nHost: [::1]:80\r\nContent-Length")) ∷ trace_062_16

abbrev trace_062_18 : Trace
trace_062_18 = (1, sent 82) ∷ trace_062_17

abbrev trace_062_19 : Trace
trace_062_19 = (1, sent 0) ∷ trace_062_18

abbrev trace_062_21 : Trace
trace_062_21 = (1, came (codes ": 1\r\n\r\n")) ∷ trace_062_19

abbrev trace_062_22 : Trace
trace_062_22 = (1, called call.Fault None) ∷ (1, broken) ∷ (1, caused cause.Shut) ∷ trace_062_21

abbrev trace_062_23 : Trace
trace_062_23 = (1, started job.ReadError) ∷ trace_062_22

abbrev trace_062_26 : Trace
trace_062_26 = (1, back) ∷ trace_062_23

abbrev trace_062_29 : Trace
trace_062_29 = (2, started job.WriteError) ∷ trace_062_26

abbrev trace_062_30 : Trace
trace_062_30 = (2, back) ∷ trace_062_29

abbrev trace_062_35 : Trace
trace_062_35 = (2, started (job.OnError 0 32)) ∷ trace_062_30

abbrev trace_062_37 : Trace
trace_062_37 = (2, back) ∷ trace_062_35

abbrev trace_062_38 : Trace
trace_062_38 = (2, started (job.OnError 1 205)) ∷ trace_062_37

abbrev trace_062_40 : Trace
trace_062_40 = (7, aborted) ∷ (7, called call.Return None) ∷ (7, back) ∷ trace_062_38

abbrev trace_062_42 : Trace
trace_062_42 = (17, started (job.OnComplete 0 32)) ∷ trace_062_40

trace_062-connection : connection_told trace_062_42
    ≡ record {
      came = 111;
      consumed = 27;
      room = 16300;
      has_ended = false;
      cause = (Some cause.Shut);
      is_broken = true;
      is_gone = false;
      is_open = true;
      begun = 1;
      output = (codes "HTTP/1.1 200 \r\nTransfer-Encoding: chunked\r\nDate: Thu, 01 Jan 1970 00:00:00 GMT\r\n\r\n");
      took = 82;
      unsent = 0;
      idle_since = 1;
      next_job = None;
      charts = (call.Run ∷ call.Start ∷ call.Return ∷ call.Fault ∷ call.Return ∷ []) ∷ [];
    }
unfolding head_text digits date_at count_off is_name_byte
trace_062-connection = refl

trace_062-request : request_told trace_062_42
    ≡ record {
      part = 0;
      state = state.Completing;
      running = (Some (job.OnComplete 0 32));
      parked = None;
      given = 0;
      is_end_told = false;
      waiting = 0;
      used = 0;
      swallowed = 0;
      has_whole_body = true;
      has_bad_body = false;
      listeners = 32 ∷ 205 ∷ [];
      owed = (job.OnComplete 1 205) ∷ [];
      deadline = None;
      ready = record { read_set = true; read_armed = true; all_read_told = false; write_set = true; write_armed = true };
    }
unfolding is_name_byte
trace_062-request = refl

trace_062-answer : answer_told trace_062_42
    ≡ record {
      status = 200;
      fields = [];
      set_length = None;
      content = 0;
      is_aborted = true;
    }
unfolding digits
trace_062-answer = refl

trace_062-open : open_told trace_062_42
    ≡ record {
      is_committed = true;
      takes_one = true;
      has_to_cut = false;
    }
unfolding head_text digits date_at count_off is_name_byte
trace_062-open = refl

trace_062-01-settled : settled trace_062_limits trace_062_rules 0 ((0, opened) ∷ [])
    ≡ trace_062_01
unfolding settled head_text digits date_at count_off is_name_byte trimmed front_length whole_head host_fits head_of verdict_of target_of framed is_utf8 chars encode
trace_062-01-settled = refl

trace_062-02-settled : settled trace_062_limits trace_062_rules 0 ((0, came (codes "GET / HTTP/1.1\r\nHost: a\r\n\r\n")) ∷ trace_062_01)
    ≡ trace_062_02
unfolding settled head_text digits date_at count_off is_name_byte trimmed front_length whole_head host_fits head_of verdict_of target_of framed is_utf8 chars encode
trace_062-02-settled = refl

trace_062-03-next : next_job (trace_062_02)
    ≡ (Some (job.Service 0))
unfolding head_text digits date_at count_off is_name_byte
trace_062-03-next = refl

trace_062-04-settled : settled trace_062_limits trace_062_rules 0 ((0, flushed) ∷ trace_062_03)
    ≡ trace_062_04
unfolding settled head_text digits date_at count_off is_name_byte trimmed front_length whole_head host_fits head_of verdict_of target_of framed is_utf8 chars encode
trace_062-04-settled = refl

trace_062-05-settled : settled trace_062_limits trace_062_rules 0 ((0, called call.Start None) ∷ trace_062_04)
    ≡ trace_062_05
unfolding settled head_text digits date_at count_off is_name_byte trimmed front_length whole_head host_fits head_of verdict_of target_of framed is_utf8 chars encode
trace_062-05-settled = refl

trace_062-06-settled : settled trace_062_limits trace_062_rules 0 ((0, came (codes "GET / HTTP/1.1\r\nHost: a\r\n\r\n")) ∷ trace_062_05)
    ≡ trace_062_06
unfolding settled head_text digits date_at count_off is_name_byte trimmed front_length whole_head host_fits head_of verdict_of target_of framed is_utf8 chars encode
trace_062-06-settled = refl

trace_062-07-settled : settled trace_062_limits trace_062_rules 0 ((0, read_listener_set) ∷ trace_062_06)
    ≡ trace_062_07
unfolding settled head_text digits date_at count_off is_name_byte trimmed front_length whole_head host_fits head_of verdict_of target_of framed is_utf8 chars encode
trace_062-07-settled = refl

trace_062-09-settled : settled trace_062_limits trace_062_rules 0 ((0, write_listener_set) ∷ trace_062_07)
    ≡ trace_062_09
unfolding settled head_text digits date_at count_off is_name_byte trimmed front_length whole_head host_fits head_of verdict_of target_of framed is_utf8 chars encode
trace_062-09-settled = refl

trace_062-10-tick : tick_move trace_062_limits 1 trace_062_09
    ≡ None
unfolding head_text digits date_at count_off is_name_byte
trace_062-10-tick = refl

trace_062-11-settled : settled trace_062_limits trace_062_rules 1 ((1, listened 32) ∷ trace_062_09)
    ≡ trace_062_11
unfolding settled head_text digits date_at count_off is_name_byte trimmed front_length whole_head host_fits head_of verdict_of target_of framed is_utf8 chars encode
trace_062-11-settled = refl

trace_062-12-settled : settled trace_062_limits trace_062_rules 1 ((1, timeout_set 1) ∷ trace_062_11)
    ≡ trace_062_12
unfolding settled head_text digits date_at count_off is_name_byte trimmed front_length whole_head host_fits head_of verdict_of target_of framed is_utf8 chars encode
trace_062-12-settled = refl

trace_062-13-settled : settled trace_062_limits trace_062_rules 1 ((1, listened 205) ∷ trace_062_12)
    ≡ trace_062_13
unfolding settled head_text digits date_at count_off is_name_byte trimmed front_length whole_head host_fits head_of verdict_of target_of framed is_utf8 chars encode
trace_062-13-settled = refl

trace_062-14-settled : settled trace_062_limits trace_062_rules 1 ((1, timeout_set 0) ∷ trace_062_13)
    ≡ trace_062_14
unfolding settled head_text digits date_at count_off is_name_byte trimmed front_length whole_head host_fits head_of verdict_of target_of framed is_utf8 chars encode
trace_062-14-settled = refl

trace_062-16-settled : settled trace_062_limits trace_062_rules 1 ((1, called call.Return None) ∷ (1, back) ∷ trace_062_14)
    ≡ trace_062_16
unfolding settled head_text digits date_at count_off is_name_byte trimmed front_length whole_head host_fits head_of verdict_of target_of framed is_utf8 chars encode
trace_062-16-settled = refl

trace_062-17-settled : settled trace_062_limits trace_062_rules 1 ((1, came (codes "\n\r\nPOST / HTTP/1.1\r\nHost: [::1]:80\r\nContent-Length")) ∷ trace_062_16)
    ≡ trace_062_17
unfolding settled head_text digits date_at count_off is_name_byte trimmed front_length whole_head host_fits head_of verdict_of target_of framed is_utf8 chars encode
trace_062-17-settled = refl

trace_062-18-settled : settled trace_062_limits trace_062_rules 1 ((1, sent 82) ∷ trace_062_17)
    ≡ trace_062_18
unfolding settled head_text digits date_at count_off is_name_byte trimmed front_length whole_head host_fits head_of verdict_of target_of framed is_utf8 chars encode
trace_062-18-settled = refl

trace_062-19-settled : settled trace_062_limits trace_062_rules 1 ((1, sent 0) ∷ trace_062_18)
    ≡ trace_062_19
unfolding settled head_text digits date_at count_off is_name_byte trimmed front_length whole_head host_fits head_of verdict_of target_of framed is_utf8 chars encode
trace_062-19-settled = refl

trace_062-20-tick : tick_move trace_062_limits 1 trace_062_19
    ≡ None
unfolding head_text digits date_at count_off is_name_byte
trace_062-20-tick = refl

trace_062-21-settled : settled trace_062_limits trace_062_rules 1 ((1, came (codes ": 1\r\n\r\n")) ∷ trace_062_19)
    ≡ trace_062_21
unfolding settled head_text digits date_at count_off is_name_byte trimmed front_length whole_head host_fits head_of verdict_of target_of framed is_utf8 chars encode
trace_062-21-settled = refl

trace_062-22-settled : settled trace_062_limits trace_062_rules 1 ((1, called call.Fault None) ∷ (1, broken) ∷ (1, caused cause.Shut) ∷ trace_062_21)
    ≡ trace_062_22
unfolding settled head_text digits date_at count_off is_name_byte trimmed front_length whole_head host_fits head_of verdict_of target_of framed is_utf8 chars encode
trace_062-22-settled = refl

trace_062-23-next : next_job (trace_062_22)
    ≡ (Some job.ReadError)
unfolding head_text digits date_at count_off is_name_byte
trace_062-23-next = refl

trace_062-26-settled : settled trace_062_limits trace_062_rules 1 ((1, back) ∷ trace_062_23)
    ≡ trace_062_26
unfolding settled head_text digits date_at count_off is_name_byte trimmed front_length whole_head host_fits head_of verdict_of target_of framed is_utf8 chars encode
trace_062-26-settled = refl

trace_062-27-tick : tick_move trace_062_limits 1 trace_062_26
    ≡ None
unfolding head_text digits date_at count_off is_name_byte
trace_062-27-tick = refl

trace_062-28-tick : tick_move trace_062_limits 2 trace_062_26
    ≡ None
unfolding head_text digits date_at count_off is_name_byte
trace_062-28-tick = refl

trace_062-29-next : next_job (trace_062_26)
    ≡ (Some job.WriteError)
unfolding head_text digits date_at count_off is_name_byte
trace_062-29-next = refl

trace_062-30-settled : settled trace_062_limits trace_062_rules 2 ((2, back) ∷ trace_062_29)
    ≡ trace_062_30
unfolding settled head_text digits date_at count_off is_name_byte trimmed front_length whole_head host_fits head_of verdict_of target_of framed is_utf8 chars encode
trace_062-30-settled = refl

trace_062-32-tick : tick_move trace_062_limits 2 trace_062_30
    ≡ None
unfolding head_text digits date_at count_off is_name_byte
trace_062-32-tick = refl

trace_062-34-tick : tick_move trace_062_limits 2 trace_062_30
    ≡ None
unfolding head_text digits date_at count_off is_name_byte
trace_062-34-tick = refl

trace_062-35-next : next_job (trace_062_30)
    ≡ (Some (job.OnError 0 32))
unfolding head_text digits date_at count_off is_name_byte
trace_062-35-next = refl

trace_062-37-settled : settled trace_062_limits trace_062_rules 2 ((2, back) ∷ trace_062_35)
    ≡ trace_062_37
unfolding settled head_text digits date_at count_off is_name_byte trimmed front_length whole_head host_fits head_of verdict_of target_of framed is_utf8 chars encode
trace_062-37-settled = refl

trace_062-38-next : next_job (trace_062_37)
    ≡ (Some (job.OnError 1 205))
unfolding head_text digits date_at count_off is_name_byte
trace_062-38-next = refl

trace_062-39-tick : tick_move trace_062_limits 7 trace_062_38
    ≡ None
unfolding head_text digits date_at count_off is_name_byte
trace_062-39-tick = refl

trace_062-40-settled : settled trace_062_limits trace_062_rules 7 ((7, back) ∷ trace_062_38)
    ≡ trace_062_40
unfolding settled head_text digits date_at count_off is_name_byte trimmed front_length whole_head host_fits head_of verdict_of target_of framed is_utf8 chars encode
trace_062-40-settled = refl

trace_062-41-tick : tick_move trace_062_limits 17 trace_062_40
    ≡ None
unfolding head_text digits date_at count_off is_name_byte
trace_062-41-tick = refl

trace_062-42-next : next_job (trace_062_40)
    ≡ (Some (job.OnComplete 0 32))
unfolding head_text digits date_at count_off is_name_byte
trace_062-42-next = refl

trace_062-43-reply : reply_to trace_062_limits trace_062_rules 0 trace_062_42 (on_act (act.Read 100) [])
    ≡ plain reply.Closed
unfolding reply_to head_text digits date_at count_off is_name_byte
trace_062-43-reply = refl
