-- Traces that another program made, with what it tells of them, computed from the definitions. Made by `cases/rows.py`.
use Rattle.std.proofs.Common.{◌≡◌, true, false, List, [], ◌∷◌, Some, None, codes, refl}
use Rattle.std.specs.Prelude.{pos}
use Rattle.std.specs.Fmt.{digits}
use Rattle.std.specs.Str.{is_utf8, chars}
use lib.Utf8.{encode}
use Rattle.cy_event.specs.declared.framing.Framing.TheVariants as framing
use Rattle.cy_event.specs.declared.limits.Limits.{Limits}
use Rattle.cy_event.specs.declared.steps.Act.TheVariants as act
use Rattle.cy_event.specs.declared.steps.Call.TheVariants as call
use Rattle.cy_event.specs.declared.steps.Job.TheVariants as job
use Rattle.cy_event.specs.declared.steps.Reply.TheVariants as reply
use Rattle.cy_event.specs.declared.steps.State.TheVariants as state
use Rattle.cy_event.specs.Answers.{head_text}
use Rattle.cy_event.specs.Dates.{date_at, count_off}
use Rattle.cy_event.specs.Framings.{framed}
use Rattle.cy_event.specs.Heads.{is_name_byte, trimmed, front_length, whole_head, host_fits, head_of}
use Rattle.cy_event.specs.Targets.{target_of}
use Rattle.cy_map.specs.declared.rule.Rule.{Rule}
use Rattle.cy_model.specs.Entries.{on_act, reply_to}
use Rattle.cy_model.specs.Jobs.{next_job}
use Rattle.cy_model.specs.Marks.{Trace, input_side, opened, came, sent, began, called, started, parked, end_given, answer_reset, put, flushed}
use Rattle.cy_model.specs.Replies.{plain}
use Rattle.cy_model.specs.Settling.{settled}
use Rattle.cy_model.specs.Verdicts.{verdict_of}
use Rattle.cy_rows.specs.Told.{answer_told, connection_told, open_told, request_told}

abbrev trace_029_limits : Limits
trace_029_limits = record { max_connections = 256; max_head = 8192; max_fields = 100; max_keep_alive = pos 100; connection_timeout = 20000; async_timeout = 20; max_swallow = 2097152; max_trailer = 8192; parts = 5 }

abbrev trace_029_rules : List Rule
trace_029_rules = record { pattern = (codes "*.do"); part = 3; can_async = true } ∷ record { pattern = (codes "/*"); part = 4; can_async = true } ∷ record { pattern = (codes "/a/*"); part = 2; can_async = true } ∷ []

abbrev trace_029_01 : Trace
trace_029_01 = (0, opened) ∷ []

abbrev trace_029_02 : Trace
trace_029_02 = (0, began (record { place = 0; size = 27; head = record { method = (codes "GET"); target = (codes "/"); minor = 1; fields = record { name = (codes "Host"); value = (codes "a") } ∷ [] }; framing = framing.None; max_trailer = 8192; async_timeout = 20; part = 4; can_async = true; keep = true; go_on = false })) ∷ (0, came (codes "GET / HTTP/1.1\r\nHost: a\r\n\r\nGET / HTTP/1.1\r\nHost: a\r\n\r\n")) ∷ trace_029_01

abbrev trace_029_03 : Trace
trace_029_03 = (0, sent 0) ∷ trace_029_02

abbrev trace_029_04 : Trace
trace_029_04 = (0, called call.Run None) ∷ (0, started (job.Service 4)) ∷ trace_029_03

abbrev trace_029_05 : Trace
trace_029_05 = (0, put []) ∷ trace_029_04

abbrev trace_029_06 : Trace
trace_029_06 = (0, put (codes "dddddddddddddddddddddddddddddddddddddddddddddddddddddddddddddddddddddddddddddddddddddddddddddddddddd")) ∷ trace_029_05

abbrev trace_029_07 : Trace
trace_029_07 = (0, answer_reset) ∷ trace_029_06

abbrev trace_029_08 : Trace
trace_029_08 = (0, called call.Start None) ∷ trace_029_07

abbrev trace_029_09 : Trace
trace_029_09 = (0, parked input_side) ∷ trace_029_08

abbrev trace_029_10 : Trace
trace_029_10 = (0, put (codes "\"\"\"")) ∷ trace_029_09

abbrev trace_029_11 : Trace
trace_029_11 = (0, called call.CompleteOther None) ∷ trace_029_10

abbrev trace_029_12 : Trace
trace_029_12 = (0, started job.Resume) ∷ trace_029_11

abbrev trace_029_13 : Trace
trace_029_13 = (0, put (codes "\r\r\r\r\r\r\r\r")) ∷ trace_029_12

abbrev trace_029_18 : Trace
trace_029_18 = (0, flushed) ∷ trace_029_13

abbrev trace_029_20 : Trace
trace_029_20 = (0, end_given) ∷ trace_029_18

trace_029-connection : connection_told trace_029_20
    ≡ record {
      came = 54;
      consumed = 27;
      room = 16357;
      has_ended = false;
      cause = None;
      is_broken = false;
      is_gone = false;
      is_open = true;
      begun = 1;
      output = (codes "HTTP/1.1 200 \r\nTransfer-Encoding: chunked\r\nDate: Thu, 01 Jan 1970 00:00:00 GMT\r\n\r\nb\r\n\"\"\"\r\r\r\r\r\r\r\r\r\n");
      took = 0;
      unsent = 98;
      idle_since = 0;
      next_job = None;
      charts = (call.Run ∷ call.Start ∷ call.CompleteOther ∷ []) ∷ [];
    }
unfolding head_text digits date_at count_off is_name_byte
trace_029-connection = refl

trace_029-request : request_told trace_029_20
    ≡ record {
      part = 4;
      state = state.CompletePending;
      running = (Some (job.Service 4));
      parked = None;
      given = 0;
      is_end_told = true;
      waiting = 0;
      used = 0;
      swallowed = 0;
      has_whole_body = true;
      has_bad_body = false;
      listeners = [];
      owed = [];
      deadline = None;
      ready = record { read_set = false; read_armed = false; all_read_told = false; write_set = false; write_armed = false };
    }
unfolding is_name_byte
trace_029-request = refl

trace_029-answer : answer_told trace_029_20
    ≡ record {
      status = 200;
      fields = [];
      set_length = None;
      content = 11;
      is_aborted = false;
    }
unfolding digits
trace_029-answer = refl

trace_029-open : open_told trace_029_20
    ≡ record {
      is_committed = true;
      takes_one = true;
      has_to_cut = false;
    }
unfolding head_text digits date_at count_off is_name_byte
trace_029-open = refl

trace_029-01-settled : settled trace_029_limits trace_029_rules 0 ((0, opened) ∷ [])
    ≡ trace_029_01
unfolding settled head_text digits date_at count_off is_name_byte trimmed front_length whole_head host_fits head_of verdict_of target_of framed is_utf8 chars encode
trace_029-01-settled = refl

trace_029-02-settled : settled trace_029_limits trace_029_rules 0 ((0, came (codes "GET / HTTP/1.1\r\nHost: a\r\n\r\nGET / HTTP/1.1\r\nHost: a\r\n\r\n")) ∷ trace_029_01)
    ≡ trace_029_02
unfolding settled head_text digits date_at count_off is_name_byte trimmed front_length whole_head host_fits head_of verdict_of target_of framed is_utf8 chars encode
trace_029-02-settled = refl

trace_029-03-settled : settled trace_029_limits trace_029_rules 0 ((0, sent 0) ∷ trace_029_02)
    ≡ trace_029_03
unfolding settled head_text digits date_at count_off is_name_byte trimmed front_length whole_head host_fits head_of verdict_of target_of framed is_utf8 chars encode
trace_029-03-settled = refl

trace_029-04-next : next_job (trace_029_03)
    ≡ (Some (job.Service 4))
unfolding head_text digits date_at count_off is_name_byte
trace_029-04-next = refl

trace_029-05-settled : settled trace_029_limits trace_029_rules 0 ((0, put []) ∷ trace_029_04)
    ≡ trace_029_05
unfolding settled head_text digits date_at count_off is_name_byte trimmed front_length whole_head host_fits head_of verdict_of target_of framed is_utf8 chars encode
trace_029-05-settled = refl

trace_029-06-settled : settled trace_029_limits trace_029_rules 0 ((0, put (codes "dddddddddddddddddddddddddddddddddddddddddddddddddddddddddddddddddddddddddddddddddddddddddddddddddddd")) ∷ trace_029_05)
    ≡ trace_029_06
unfolding settled head_text digits date_at count_off is_name_byte trimmed front_length whole_head host_fits head_of verdict_of target_of framed is_utf8 chars encode
trace_029-06-settled = refl

trace_029-07-settled : settled trace_029_limits trace_029_rules 0 ((0, answer_reset) ∷ trace_029_06)
    ≡ trace_029_07
unfolding settled head_text digits date_at count_off is_name_byte trimmed front_length whole_head host_fits head_of verdict_of target_of framed is_utf8 chars encode
trace_029-07-settled = refl

trace_029-08-settled : settled trace_029_limits trace_029_rules 0 ((0, called call.Start None) ∷ trace_029_07)
    ≡ trace_029_08
unfolding settled head_text digits date_at count_off is_name_byte trimmed front_length whole_head host_fits head_of verdict_of target_of framed is_utf8 chars encode
trace_029-08-settled = refl

trace_029-09-settled : settled trace_029_limits trace_029_rules 0 ((0, parked input_side) ∷ trace_029_08)
    ≡ trace_029_09
unfolding settled head_text digits date_at count_off is_name_byte trimmed front_length whole_head host_fits head_of verdict_of target_of framed is_utf8 chars encode
trace_029-09-settled = refl

trace_029-12-next : next_job (trace_029_11)
    ≡ (Some job.Resume)
unfolding head_text digits date_at count_off is_name_byte
trace_029-12-next = refl

trace_029-13-settled : settled trace_029_limits trace_029_rules 0 ((0, put (codes "\r\r\r\r\r\r\r\r")) ∷ trace_029_12)
    ≡ trace_029_13
unfolding settled head_text digits date_at count_off is_name_byte trimmed front_length whole_head host_fits head_of verdict_of target_of framed is_utf8 chars encode
trace_029-13-settled = refl

trace_029-18-settled : settled trace_029_limits trace_029_rules 0 ((0, flushed) ∷ trace_029_13)
    ≡ trace_029_18
unfolding settled head_text digits date_at count_off is_name_byte trimmed front_length whole_head host_fits head_of verdict_of target_of framed is_utf8 chars encode
trace_029-18-settled = refl

trace_029-20-reply : reply_to trace_029_limits trace_029_rules 0 trace_029_18 (on_act (act.Read 10) [])
    ≡ plain reply.GotEnd
unfolding reply_to head_text digits date_at count_off is_name_byte
trace_029-20-reply = refl

trace_029-20-settled : settled trace_029_limits trace_029_rules 0 ((0, end_given) ∷ trace_029_18)
    ≡ trace_029_20
unfolding settled head_text digits date_at count_off is_name_byte trimmed front_length whole_head host_fits head_of verdict_of target_of framed is_utf8 chars encode
trace_029-20-settled = refl
