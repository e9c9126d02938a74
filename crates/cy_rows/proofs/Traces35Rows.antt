-- Traces that another program made, with what it tells of them, computed from the definitions. Made by `cases/rows.py`.
use Rattle.std.proofs.Common.{◌≡◌, true, false, List, [], ◌∷◌, Some, None, codes, refl}
use Rattle.std.specs.Prelude.{pos}
use Rattle.std.specs.Fmt.{digits}
use Rattle.std.specs.Str.{is_utf8, chars}
use lib.Utf8.{encode}
use Rattle.cy_event.specs.declared.framing.Framing.TheVariants as framing
use Rattle.cy_event.specs.declared.limits.Limits.{Limits}
use Rattle.cy_event.specs.declared.steps.Act.TheVariants as act
use Rattle.cy_event.specs.declared.steps.Call.TheVariants as call
use Rattle.cy_event.specs.declared.steps.CloseCause.TheVariants as cause
use Rattle.cy_event.specs.declared.steps.Job.TheVariants as job
use Rattle.cy_event.specs.declared.steps.Reply.TheVariants as reply
use Rattle.cy_event.specs.declared.steps.State.TheVariants as state
use Rattle.cy_event.specs.Answers.{head_text}
use Rattle.cy_event.specs.Dates.{date_at, count_off}
use Rattle.cy_event.specs.Framings.{framed}
use Rattle.cy_event.specs.Heads.{is_name_byte, trimmed, front_length, whole_head, host_fits, head_of}
use Rattle.cy_event.specs.Targets.{target_of}
use Rattle.cy_map.specs.declared.rule.Rule.{Rule}
use Rattle.cy_model.specs.Entries.{on_act, reply_to}
use Rattle.cy_model.specs.Jobs.{next_job}
use Rattle.cy_model.specs.Marks.{Trace, opened, came, sent, began, called, started, back, end_given, write_listener_set, length_set, answer_reset, over, caused}
use Rattle.cy_model.specs.Replies.{plain}
use Rattle.cy_model.specs.Settling.{settled}
use Rattle.cy_model.specs.Verdicts.{verdict_of}
use Rattle.cy_rows.specs.Told.{answer_told, connection_told, request_told}

abbrev trace_132_limits : Limits
trace_132_limits = record { max_connections = 256; max_head = 8192; max_fields = 100; max_keep_alive = pos 100; connection_timeout = 20000; async_timeout = 30000; max_swallow = 2097152; max_trailer = 8192; parts = 3 }

abbrev trace_132_rules : List Rule
trace_132_rules = record { pattern = (codes "/"); part = 0; can_async = true } ∷ record { pattern = (codes "/a"); part = 1; can_async = true } ∷ record { pattern = (codes "/x/*"); part = 2; can_async = false } ∷ []

abbrev trace_132_01 : Trace
trace_132_01 = (0, opened) ∷ []

abbrev trace_132_03 : Trace
trace_132_03 = (0, began (record { place = 0; size = 27; head = record { method = (codes "GET"); target = (codes "/"); minor = 1; fields = record { name = (codes "Host"); value = (codes "a") } ∷ [] }; framing = framing.None; max_trailer = 8192; async_timeout = 30000; part = 0; can_async = true; keep = true; go_on = false })) ∷ (0, came (codes "GET / HTTP/1.1\r\nHost: a\r\n\r\n")) ∷ trace_132_01

abbrev trace_132_04 : Trace
trace_132_04 = (0, called call.Run None) ∷ (0, started (job.Service 0)) ∷ trace_132_03

abbrev trace_132_05 : Trace
trace_132_05 = (0, called call.Start None) ∷ trace_132_04

abbrev trace_132_06 : Trace
trace_132_06 = (0, length_set 100) ∷ trace_132_05

abbrev trace_132_07 : Trace
trace_132_07 = (0, came (codes "GET / HTTP/1.1\r\nHost: a\r\n\r\nGET / HTTP/1.1\r\nHost: a\r\n\r\nGET / HTTP/1.1\r\nHost: a\r\n\r\n")) ∷ trace_132_06

abbrev trace_132_08 : Trace
trace_132_08 = (0, end_given) ∷ trace_132_07

abbrev trace_132_09 : Trace
trace_132_09 = (0, answer_reset) ∷ trace_132_08

abbrev trace_132_11 : Trace
trace_132_11 = (0, length_set 100) ∷ trace_132_09

abbrev trace_132_12 : Trace
trace_132_12 = (0, write_listener_set) ∷ trace_132_11

abbrev trace_132_13 : Trace
trace_132_13 = (0, called call.Return None) ∷ (0, back) ∷ trace_132_12

abbrev trace_132_14 : Trace
trace_132_14 = (0, end_given) ∷ trace_132_13

abbrev trace_132_15 : Trace
trace_132_15 = (0, called call.Run None) ∷ (0, started job.Writable) ∷ trace_132_14

abbrev trace_132_16 : Trace
trace_132_16 = (0, end_given) ∷ trace_132_15

abbrev trace_132_17 : Trace
trace_132_17 = (0, called call.Return None) ∷ (0, back) ∷ trace_132_16

abbrev trace_132_18 : Trace
trace_132_18 = (0, called call.CompleteOther None) ∷ trace_132_17

abbrev trace_132_19 : Trace
trace_132_19 = (0, caused cause.ShortAnswer) ∷ (0, over) ∷ (0, called call.Return None) ∷ trace_132_18

abbrev trace_132_20 : Trace
trace_132_20 = (0, sent 10) ∷ trace_132_19

abbrev trace_132_21 : Trace
trace_132_21 = (0, sent 65) ∷ trace_132_20

trace_132-connection : connection_told trace_132_21
    ≡ record {
      came = 108;
      consumed = 27;
      room = 16303;
      has_ended = false;
      cause = (Some cause.ShortAnswer);
      is_broken = false;
      is_gone = true;
      is_open = false;
      begun = 1;
      output = (codes "HTTP/1.1 200 \r\nContent-Length: 100\r\nDate: Thu, 01 Jan 1970 00:00:00 GMT\r\n\r\n");
      took = 75;
      unsent = 0;
      idle_since = 0;
      next_job = None;
      charts = (call.Run ∷ call.Start ∷ call.Return ∷ call.Run ∷ call.Return ∷ call.CompleteOther ∷ call.Return ∷ []) ∷ [];
    }
unfolding head_text digits date_at count_off is_name_byte
trace_132-connection = refl

trace_132-request : request_told trace_132_21
    ≡ record {
      part = 0;
      state = state.Completing;
      running = None;
      parked = None;
      given = 0;
      is_end_told = true;
      waiting = 0;
      used = 0;
      swallowed = 0;
      has_whole_body = true;
      has_bad_body = false;
      listeners = [];
      owed = [];
      deadline = (Some 30000);
      ready = record { read_set = false; read_armed = false; all_read_told = false; write_set = true; write_armed = false };
    }
unfolding is_name_byte
trace_132-request = refl

trace_132-answer : answer_told trace_132_21
    ≡ record {
      status = 200;
      fields = [];
      set_length = (Some 100);
      content = 0;
      is_aborted = false;
    }
unfolding digits
trace_132-answer = refl

trace_132-01-settled : settled trace_132_limits trace_132_rules 0 ((0, opened) ∷ [])
    ≡ trace_132_01
unfolding settled head_text digits date_at count_off is_name_byte trimmed front_length whole_head host_fits head_of verdict_of target_of framed is_utf8 chars encode
trace_132-01-settled = refl

trace_132-03-settled : settled trace_132_limits trace_132_rules 0 ((0, came (codes "GET / HTTP/1.1\r\nHost: a\r\n\r\n")) ∷ trace_132_01)
    ≡ trace_132_03
unfolding settled head_text digits date_at count_off is_name_byte trimmed front_length whole_head host_fits head_of verdict_of target_of framed is_utf8 chars encode
trace_132-03-settled = refl

trace_132-04-next : next_job (trace_132_03)
    ≡ (Some (job.Service 0))
unfolding head_text digits date_at count_off is_name_byte
trace_132-04-next = refl

trace_132-05-settled : settled trace_132_limits trace_132_rules 0 ((0, called call.Start None) ∷ trace_132_04)
    ≡ trace_132_05
unfolding settled head_text digits date_at count_off is_name_byte trimmed front_length whole_head host_fits head_of verdict_of target_of framed is_utf8 chars encode
trace_132-05-settled = refl

trace_132-06-settled : settled trace_132_limits trace_132_rules 0 ((0, length_set 100) ∷ trace_132_05)
    ≡ trace_132_06
unfolding settled head_text digits date_at count_off is_name_byte trimmed front_length whole_head host_fits head_of verdict_of target_of framed is_utf8 chars encode
trace_132-06-settled = refl

trace_132-07-settled : settled trace_132_limits trace_132_rules 0 ((0, came (codes "GET / HTTP/1.1\r\nHost: a\r\n\r\nGET / HTTP/1.1\r\nHost: a\r\n\r\nGET / HTTP/1.1\r\nHost: a\r\n\r\n")) ∷ trace_132_06)
    ≡ trace_132_07
unfolding settled head_text digits date_at count_off is_name_byte trimmed front_length whole_head host_fits head_of verdict_of target_of framed is_utf8 chars encode
trace_132-07-settled = refl

trace_132-08-reply : reply_to trace_132_limits trace_132_rules 0 trace_132_07 (on_act (act.Read 8192) [])
    ≡ plain reply.GotEnd
unfolding reply_to head_text digits date_at count_off is_name_byte
trace_132-08-reply = refl

trace_132-08-settled : settled trace_132_limits trace_132_rules 0 ((0, end_given) ∷ trace_132_07)
    ≡ trace_132_08
unfolding settled head_text digits date_at count_off is_name_byte trimmed front_length whole_head host_fits head_of verdict_of target_of framed is_utf8 chars encode
trace_132-08-settled = refl

trace_132-09-settled : settled trace_132_limits trace_132_rules 0 ((0, answer_reset) ∷ trace_132_08)
    ≡ trace_132_09
unfolding settled head_text digits date_at count_off is_name_byte trimmed front_length whole_head host_fits head_of verdict_of target_of framed is_utf8 chars encode
trace_132-09-settled = refl

trace_132-11-settled : settled trace_132_limits trace_132_rules 0 ((0, length_set 100) ∷ trace_132_09)
    ≡ trace_132_11
unfolding settled head_text digits date_at count_off is_name_byte trimmed front_length whole_head host_fits head_of verdict_of target_of framed is_utf8 chars encode
trace_132-11-settled = refl

trace_132-12-settled : settled trace_132_limits trace_132_rules 0 ((0, write_listener_set) ∷ trace_132_11)
    ≡ trace_132_12
unfolding settled head_text digits date_at count_off is_name_byte trimmed front_length whole_head host_fits head_of verdict_of target_of framed is_utf8 chars encode
trace_132-12-settled = refl

trace_132-13-settled : settled trace_132_limits trace_132_rules 0 ((0, called call.Return None) ∷ (0, back) ∷ trace_132_12)
    ≡ trace_132_13
unfolding settled head_text digits date_at count_off is_name_byte trimmed front_length whole_head host_fits head_of verdict_of target_of framed is_utf8 chars encode
trace_132-13-settled = refl

trace_132-15-next : next_job (trace_132_14)
    ≡ (Some job.Writable)
unfolding head_text digits date_at count_off is_name_byte
trace_132-15-next = refl

trace_132-16-reply : reply_to trace_132_limits trace_132_rules 0 trace_132_15 (on_act (act.Read 100) [])
    ≡ plain reply.GotEnd
unfolding reply_to head_text digits date_at count_off is_name_byte
trace_132-16-reply = refl

trace_132-16-settled : settled trace_132_limits trace_132_rules 0 ((0, end_given) ∷ trace_132_15)
    ≡ trace_132_16
unfolding settled head_text digits date_at count_off is_name_byte trimmed front_length whole_head host_fits head_of verdict_of target_of framed is_utf8 chars encode
trace_132-16-settled = refl

trace_132-17-settled : settled trace_132_limits trace_132_rules 0 ((0, called call.Return None) ∷ (0, back) ∷ trace_132_16)
    ≡ trace_132_17
unfolding settled head_text digits date_at count_off is_name_byte trimmed front_length whole_head host_fits head_of verdict_of target_of framed is_utf8 chars encode
trace_132-17-settled = refl

trace_132-20-settled : settled trace_132_limits trace_132_rules 0 ((0, sent 10) ∷ trace_132_19)
    ≡ trace_132_20
unfolding settled head_text digits date_at count_off is_name_byte trimmed front_length whole_head host_fits head_of verdict_of target_of framed is_utf8 chars encode
trace_132-20-settled = refl

trace_132-21-settled : settled trace_132_limits trace_132_rules 0 ((0, sent 65) ∷ trace_132_20)
    ≡ trace_132_21
unfolding settled head_text digits date_at count_off is_name_byte trimmed front_length whole_head host_fits head_of verdict_of target_of framed is_utf8 chars encode
trace_132-21-settled = refl
