-- Traces that another program made, with what it tells of them, computed from the definitions. Made by `cases/rows.py`.
use Rattle.std.proofs.Common.{◌≡◌, true, false, List, [], ◌∷◌, Some, None, codes, refl}
use Rattle.std.specs.Prelude.{pos}
use Rattle.std.specs.Fmt.{digits}
use Rattle.std.specs.Str.{is_utf8, chars}
use lib.Utf8.{encode}
use Rattle.cy_event.specs.declared.framing.Framing.TheVariants as framing
use Rattle.cy_event.specs.declared.limits.Limits.{Limits}
use Rattle.cy_event.specs.declared.steps.Act.TheVariants as act
use Rattle.cy_event.specs.declared.steps.Call.TheVariants as call
use Rattle.cy_event.specs.declared.steps.CloseCause.TheVariants as cause
use Rattle.cy_event.specs.declared.steps.Job.TheVariants as job
use Rattle.cy_event.specs.declared.steps.Reply.TheVariants as reply
use Rattle.cy_event.specs.declared.steps.State.TheVariants as state
use Rattle.cy_event.specs.Answers.{head_text}
use Rattle.cy_event.specs.Dates.{date_at, count_off}
use Rattle.cy_event.specs.Framings.{framed}
use Rattle.cy_event.specs.Heads.{is_name_byte, trimmed, front_length, whole_head, host_fits, head_of}
use Rattle.cy_event.specs.Targets.{target_of}
use Rattle.cy_map.specs.declared.rule.Rule.{Rule}
use Rattle.cy_model.specs.Entries.{on_act, reply_to}
use Rattle.cy_model.specs.Jobs.{next_job}
use Rattle.cy_model.specs.Marks.{Trace, opened, came, sent, began, called, started, back, listened, timeout_set, read_listener_set, put, flushed, caused, broken}
use Rattle.cy_model.specs.Replies.{plain}
use Rattle.cy_model.specs.Settling.{settled}
use Rattle.cy_model.specs.Ticks.{tick_move}
use Rattle.cy_model.specs.Verdicts.{verdict_of}
use Rattle.cy_rows.specs.Told.{answer_told, connection_told, open_told, request_told}

abbrev trace_123_limits : Limits
trace_123_limits = record { max_connections = 256; max_head = 8192; max_fields = 100; max_keep_alive = pos 100; connection_timeout = 20000; async_timeout = 30000; max_swallow = 2097152; max_trailer = 8192; parts = 3 }

abbrev trace_123_rules : List Rule
trace_123_rules = record { pattern = (codes "/"); part = 0; can_async = true } ∷ record { pattern = (codes "/a"); part = 1; can_async = true } ∷ record { pattern = (codes "/x/*"); part = 2; can_async = false } ∷ []

abbrev trace_123_01 : Trace
trace_123_01 = (0, opened) ∷ []

abbrev trace_123_02 : Trace
trace_123_02 = (0, sent 0) ∷ trace_123_01

abbrev trace_123_04 : Trace
trace_123_04 = (0, sent 0) ∷ trace_123_02

abbrev trace_123_05 : Trace
trace_123_05 = (0, began (record { place = 0; size = 66; head = record { method = (codes "POST"); target = (codes "/b"); minor = 1; fields = record { name = (codes "Host"); value = (codes "[::1]:80") } ∷ record { name = (codes "Transfer-Encoding"); value = (codes ", chunked") } ∷ [] }; framing = framing.Chunked; max_trailer = 8192; async_timeout = 30000; part = 0; can_async = true; keep = true; go_on = false })) ∷ (0, came (codes "POST /b HTTP/1.1\r\nHost: [::1]:80\r\nTransfer-Encoding: , chunked\r\n\r\n")) ∷ trace_123_04

abbrev trace_123_06 : Trace
trace_123_06 = (0, called call.Run None) ∷ (0, started (job.Service 0)) ∷ trace_123_05

abbrev trace_123_08 : Trace
trace_123_08 = (0, called call.Start None) ∷ trace_123_06

abbrev trace_123_09 : Trace
trace_123_09 = (0, timeout_set 5) ∷ trace_123_08

abbrev trace_123_10 : Trace
trace_123_10 = (0, read_listener_set) ∷ trace_123_09

abbrev trace_123_11 : Trace
trace_123_11 = (0, listened 121) ∷ trace_123_10

abbrev trace_123_12 : Trace
trace_123_12 = (0, called call.Return None) ∷ (0, back) ∷ trace_123_11

abbrev trace_123_14 : Trace
trace_123_14 = (0, came (codes "0")) ∷ trace_123_12

abbrev trace_123_16 : Trace
trace_123_16 = (0, sent 0) ∷ trace_123_14

abbrev trace_123_17 : Trace
trace_123_17 = (0, flushed) ∷ trace_123_16

abbrev trace_123_18 : Trace
trace_123_18 = (0, put (codes "gggggggg")) ∷ trace_123_17

abbrev trace_123_20 : Trace
trace_123_20 = (4, sent 1) ∷ trace_123_18

abbrev trace_123_21 : Trace
trace_123_21 = (4, called call.Fault None) ∷ (4, broken) ∷ (4, caused cause.Shut) ∷ trace_123_20

abbrev trace_123_22 : Trace
trace_123_22 = (4, started job.ReadError) ∷ trace_123_21

abbrev trace_123_23 : Trace
trace_123_23 = (4, back) ∷ trace_123_22

abbrev trace_123_27 : Trace
trace_123_27 = (4, started (job.OnError 0 121)) ∷ trace_123_23

trace_123-connection : connection_told trace_123_27
    ≡ record {
      came = 67;
      consumed = 66;
      room = 16383;
      has_ended = false;
      cause = (Some cause.Shut);
      is_broken = true;
      is_gone = false;
      is_open = true;
      begun = 1;
      output = (codes "HTTP/1.1 200 \r\nTransfer-Encoding: chunked\r\nDate: Thu, 01 Jan 1970 00:00:00 GMT\r\n\r\n");
      took = 1;
      unsent = 0;
      idle_since = 0;
      next_job = None;
      charts = (call.Run ∷ call.Start ∷ call.Return ∷ call.Fault ∷ []) ∷ [];
    }
unfolding head_text digits date_at count_off is_name_byte
trace_123-connection = refl

trace_123-request : request_told trace_123_27
    ≡ record {
      part = 0;
      state = state.Error;
      running = (Some (job.OnError 0 121));
      parked = None;
      given = 0;
      is_end_told = false;
      waiting = 0;
      used = 0;
      swallowed = 0;
      has_whole_body = false;
      has_bad_body = false;
      listeners = 121 ∷ [];
      owed = [];
      deadline = (Some 5);
      ready = record { read_set = true; read_armed = true; all_read_told = false; write_set = false; write_armed = false };
    }
unfolding is_name_byte
trace_123-request = refl

trace_123-answer : answer_told trace_123_27
    ≡ record {
      status = 200;
      fields = [];
      set_length = None;
      content = 8;
      is_aborted = false;
    }
unfolding digits
trace_123-answer = refl

trace_123-open : open_told trace_123_27
    ≡ record {
      is_committed = true;
      takes_one = true;
      has_to_cut = true;
    }
unfolding head_text digits date_at count_off is_name_byte
trace_123-open = refl

trace_123-01-settled : settled trace_123_limits trace_123_rules 0 ((0, opened) ∷ [])
    ≡ trace_123_01
unfolding settled head_text digits date_at count_off is_name_byte trimmed front_length whole_head host_fits head_of verdict_of target_of framed is_utf8 chars encode
trace_123-01-settled = refl

trace_123-02-settled : settled trace_123_limits trace_123_rules 0 ((0, sent 0) ∷ trace_123_01)
    ≡ trace_123_02
unfolding settled head_text digits date_at count_off is_name_byte trimmed front_length whole_head host_fits head_of verdict_of target_of framed is_utf8 chars encode
trace_123-02-settled = refl

trace_123-03-tick : tick_move trace_123_limits 0 trace_123_02
    ≡ None
unfolding head_text digits date_at count_off is_name_byte
trace_123-03-tick = refl

trace_123-04-settled : settled trace_123_limits trace_123_rules 0 ((0, sent 0) ∷ trace_123_02)
    ≡ trace_123_04
unfolding settled head_text digits date_at count_off is_name_byte trimmed front_length whole_head host_fits head_of verdict_of target_of framed is_utf8 chars encode
trace_123-04-settled = refl

trace_123-05-settled : settled trace_123_limits trace_123_rules 0 ((0, came (codes "POST /b HTTP/1.1\r\nHost: [::1]:80\r\nTransfer-Encoding: , chunked\r\n\r\n")) ∷ trace_123_04)
    ≡ trace_123_05
unfolding settled head_text digits date_at count_off is_name_byte trimmed front_length whole_head host_fits head_of verdict_of target_of framed is_utf8 chars encode
trace_123-05-settled = refl

trace_123-06-next : next_job (trace_123_05)
    ≡ (Some (job.Service 0))
unfolding head_text digits date_at count_off is_name_byte
trace_123-06-next = refl

trace_123-07-reply : reply_to trace_123_limits trace_123_rules 0 trace_123_06 (on_act (act.Read 2) [])
    ≡ plain reply.Again
unfolding reply_to head_text digits date_at count_off is_name_byte
trace_123-07-reply = refl

trace_123-08-settled : settled trace_123_limits trace_123_rules 0 ((0, called call.Start None) ∷ trace_123_06)
    ≡ trace_123_08
unfolding settled head_text digits date_at count_off is_name_byte trimmed front_length whole_head host_fits head_of verdict_of target_of framed is_utf8 chars encode
trace_123-08-settled = refl

trace_123-09-settled : settled trace_123_limits trace_123_rules 0 ((0, timeout_set 5) ∷ trace_123_08)
    ≡ trace_123_09
unfolding settled head_text digits date_at count_off is_name_byte trimmed front_length whole_head host_fits head_of verdict_of target_of framed is_utf8 chars encode
trace_123-09-settled = refl

trace_123-10-settled : settled trace_123_limits trace_123_rules 0 ((0, read_listener_set) ∷ trace_123_09)
    ≡ trace_123_10
unfolding settled head_text digits date_at count_off is_name_byte trimmed front_length whole_head host_fits head_of verdict_of target_of framed is_utf8 chars encode
trace_123-10-settled = refl

trace_123-11-settled : settled trace_123_limits trace_123_rules 0 ((0, listened 121) ∷ trace_123_10)
    ≡ trace_123_11
unfolding settled head_text digits date_at count_off is_name_byte trimmed front_length whole_head host_fits head_of verdict_of target_of framed is_utf8 chars encode
trace_123-11-settled = refl

trace_123-12-settled : settled trace_123_limits trace_123_rules 0 ((0, called call.Return None) ∷ (0, back) ∷ trace_123_11)
    ≡ trace_123_12
unfolding settled head_text digits date_at count_off is_name_byte trimmed front_length whole_head host_fits head_of verdict_of target_of framed is_utf8 chars encode
trace_123-12-settled = refl

trace_123-14-settled : settled trace_123_limits trace_123_rules 0 ((0, came (codes "0")) ∷ trace_123_12)
    ≡ trace_123_14
unfolding settled head_text digits date_at count_off is_name_byte trimmed front_length whole_head host_fits head_of verdict_of target_of framed is_utf8 chars encode
trace_123-14-settled = refl

trace_123-16-settled : settled trace_123_limits trace_123_rules 0 ((0, sent 0) ∷ trace_123_14)
    ≡ trace_123_16
unfolding settled head_text digits date_at count_off is_name_byte trimmed front_length whole_head host_fits head_of verdict_of target_of framed is_utf8 chars encode
trace_123-16-settled = refl

trace_123-19-tick : tick_move trace_123_limits 4 trace_123_18
    ≡ None
unfolding head_text digits date_at count_off is_name_byte
trace_123-19-tick = refl

trace_123-20-settled : settled trace_123_limits trace_123_rules 4 ((4, sent 1) ∷ trace_123_18)
    ≡ trace_123_20
unfolding settled head_text digits date_at count_off is_name_byte trimmed front_length whole_head host_fits head_of verdict_of target_of framed is_utf8 chars encode
trace_123-20-settled = refl

trace_123-21-settled : settled trace_123_limits trace_123_rules 4 ((4, called call.Fault None) ∷ (4, broken) ∷ (4, caused cause.Shut) ∷ trace_123_20)
    ≡ trace_123_21
unfolding settled head_text digits date_at count_off is_name_byte trimmed front_length whole_head host_fits head_of verdict_of target_of framed is_utf8 chars encode
trace_123-21-settled = refl

trace_123-22-next : next_job (trace_123_21)
    ≡ (Some job.ReadError)
unfolding head_text digits date_at count_off is_name_byte
trace_123-22-next = refl

trace_123-23-settled : settled trace_123_limits trace_123_rules 4 ((4, back) ∷ trace_123_22)
    ≡ trace_123_23
unfolding settled head_text digits date_at count_off is_name_byte trimmed front_length whole_head host_fits head_of verdict_of target_of framed is_utf8 chars encode
trace_123-23-settled = refl

trace_123-27-next : next_job (trace_123_23)
    ≡ (Some (job.OnError 0 121))
unfolding head_text digits date_at count_off is_name_byte
trace_123-27-next = refl

trace_123-29-reply : reply_to trace_123_limits trace_123_rules 0 trace_123_27 (on_act (act.Read 8192) [])
    ≡ plain reply.Closed
unfolding reply_to head_text digits date_at count_off is_name_byte
trace_123-29-reply = refl
