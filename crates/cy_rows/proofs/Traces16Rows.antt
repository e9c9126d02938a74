-- Traces that another program made, with what it tells of them, computed from the definitions. Made by `cases/rows.py`.
use Rattle.std.proofs.Common.{◌≡◌, true, false, List, [], ◌∷◌, Some, None, codes, refl}
use Rattle.std.specs.Prelude.{pos}
use Rattle.std.specs.Fmt.{digits}
use Rattle.std.specs.Str.{is_utf8, chars}
use lib.Utf8.{encode}
use Rattle.cy_event.specs.declared.framing.Framing.TheVariants as framing
use Rattle.cy_event.specs.declared.limits.Limits.{Limits}
use Rattle.cy_event.specs.declared.steps.Act.TheVariants as act
use Rattle.cy_event.specs.declared.steps.Call.TheVariants as call
use Rattle.cy_event.specs.declared.steps.CloseCause.TheVariants as cause
use Rattle.cy_event.specs.declared.steps.Job.TheVariants as job
use Rattle.cy_event.specs.declared.steps.Reply.TheVariants as reply
use Rattle.cy_event.specs.declared.steps.State.TheVariants as state
use Rattle.cy_event.specs.Answers.{head_text}
use Rattle.cy_event.specs.Dates.{date_at, count_off}
use Rattle.cy_event.specs.Framings.{framed}
use Rattle.cy_event.specs.Heads.{is_name_byte, trimmed, front_length, whole_head, host_fits, head_of}
use Rattle.cy_event.specs.Targets.{target_of}
use Rattle.cy_map.specs.declared.rule.Rule.{Rule}
use Rattle.cy_model.specs.Entries.{on_act, reply_to}
use Rattle.cy_model.specs.Jobs.{next_job}
use Rattle.cy_model.specs.Marks.{Trace, input_side, opened, came, sent, began, called, started, parked, back, read_listener_set, length_set, error_answer, over, caused, broken}
use Rattle.cy_model.specs.Replies.{plain}
use Rattle.cy_model.specs.Settling.{settled}
use Rattle.cy_model.specs.Ticks.{tick_move}
use Rattle.cy_model.specs.Verdicts.{verdict_of}
use Rattle.cy_rows.specs.Told.{answer_told, connection_told, open_told, request_told}

abbrev trace_058_limits : Limits
trace_058_limits = record { max_connections = 256; max_head = 8192; max_fields = 100; max_keep_alive = pos 100; connection_timeout = 20000; async_timeout = 30000; max_swallow = 2097152; max_trailer = 6; parts = 3 }

abbrev trace_058_rules : List Rule
trace_058_rules = record { pattern = (codes "/a/*"); part = 2; can_async = true } ∷ []

abbrev trace_058_01 : Trace
trace_058_01 = (0, opened) ∷ []

abbrev trace_058_02 : Trace
trace_058_02 = (0, began (record { place = 30; size = 83; head = record { method = (codes "PUT"); target = (codes "/a/./b/../c?q=1"); minor = 1; fields = record { name = (codes "Host"); value = (codes "[::1]:80") } ∷ record { name = (codes "transfer-encoding"); value = (codes "chunked") } ∷ record { name = (codes "X"); value = (codes "l") } ∷ [] }; framing = framing.Chunked; max_trailer = 6; async_timeout = 30000; part = 2; can_async = true; keep = true; go_on = false })) ∷ (0, over) ∷ (0, error_answer 404) ∷ (0, began (record { place = 0; size = 30; head = record { method = (codes "POST"); target = (codes "/b"); minor = 1; fields = record { name = (codes "Host"); value = [] } ∷ record { name = (codes "X"); value = (codes "l") } ∷ [] }; framing = framing.None; max_trailer = 6; async_timeout = 30000; part = 0; can_async = false; keep = true; go_on = false })) ∷ (0, came (codes "POST /b HTTP/1.1\nHost: \nX: l\n\n\r\nPUT /a/./b/../c?q=1 HTTP/1.1\r\nHost: [::1]:80\r\ntransfer-encoding:chunked\r\nX: l\r\n\r\n")) ∷ trace_058_01

abbrev trace_058_03 : Trace
trace_058_03 = (0, called call.Run None) ∷ (0, started (job.Service 2)) ∷ trace_058_02

abbrev trace_058_05 : Trace
trace_058_05 = (0, parked input_side) ∷ trace_058_03

abbrev trace_058_06 : Trace
trace_058_06 = (0, sent 110) ∷ trace_058_05

abbrev trace_058_07 : Trace
trace_058_07 = (0, sent 0) ∷ trace_058_06

abbrev trace_058_08 : Trace
trace_058_08 = (20000, broken) ∷ (20000, caused cause.AwaitTimeout) ∷ trace_058_07

abbrev trace_058_13 : Trace
trace_058_13 = (20001, started job.Resume) ∷ trace_058_08

abbrev trace_058_15 : Trace
trace_058_15 = (20001, length_set 1) ∷ trace_058_13

abbrev trace_058_16 : Trace
trace_058_16 = (20001, called call.Start None) ∷ trace_058_15

abbrev trace_058_17 : Trace
trace_058_17 = (20001, read_listener_set) ∷ trace_058_16

abbrev trace_058_18 : Trace
trace_058_18 = (20001, parked input_side) ∷ trace_058_17

abbrev trace_058_20 : Trace
trace_058_20 = (20001, started job.Resume) ∷ trace_058_18

abbrev trace_058_21 : Trace
trace_058_21 = (20001, called call.Return None) ∷ (20001, back) ∷ trace_058_20

trace_058-connection : connection_told trace_058_21
    ≡ record {
      came = 113;
      consumed = 113;
      room = 16384;
      has_ended = false;
      cause = (Some cause.AwaitTimeout);
      is_broken = true;
      is_gone = false;
      is_open = true;
      begun = 2;
      output = (codes "HTTP/1.1 404 \r\nContent-Type: text/plain\r\nContent-Length: 10\r\nDate: Thu, 01 Jan 1970 00:00:00 GMT\r\n\r\nError 404\n");
      took = 110;
      unsent = 0;
      idle_since = 0;
      next_job = None;
      charts = ([]) ∷ (call.Run ∷ call.Start ∷ call.Return ∷ []) ∷ [];
    }
unfolding head_text digits date_at count_off is_name_byte
trace_058-connection = refl

trace_058-request : request_told trace_058_21
    ≡ record {
      part = 2;
      state = state.Started;
      running = None;
      parked = None;
      given = 0;
      is_end_told = false;
      waiting = 0;
      used = 0;
      swallowed = 0;
      has_whole_body = false;
      has_bad_body = false;
      listeners = [];
      owed = [];
      deadline = (Some 50001);
      ready = record { read_set = true; read_armed = true; all_read_told = false; write_set = false; write_armed = false };
    }
unfolding is_name_byte
trace_058-request = refl

trace_058-answer : answer_told trace_058_21
    ≡ record {
      status = 200;
      fields = [];
      set_length = (Some 1);
      content = 0;
      is_aborted = false;
    }
unfolding digits
trace_058-answer = refl

trace_058-open : open_told trace_058_21
    ≡ record {
      is_committed = false;
      takes_one = true;
      has_to_cut = true;
    }
unfolding head_text digits date_at count_off is_name_byte
trace_058-open = refl

trace_058-01-settled : settled trace_058_limits trace_058_rules 0 ((0, opened) ∷ [])
    ≡ trace_058_01
unfolding settled head_text digits date_at count_off is_name_byte trimmed front_length whole_head host_fits head_of verdict_of target_of framed is_utf8 chars encode
trace_058-01-settled = refl

trace_058-02-settled : settled trace_058_limits trace_058_rules 0 ((0, came (codes "POST /b HTTP/1.1\nHost: \nX: l\n\n\r\nPUT /a/./b/../c?q=1 HTTP/1.1\r\nHost: [::1]:80\r\ntransfer-encoding:chunked\r\nX: l\r\n\r\n")) ∷ trace_058_01)
    ≡ trace_058_02
unfolding settled head_text digits date_at count_off is_name_byte trimmed front_length whole_head host_fits head_of verdict_of target_of framed is_utf8 chars encode
trace_058-02-settled = refl

trace_058-03-next : next_job (trace_058_02)
    ≡ (Some (job.Service 2))
unfolding head_text digits date_at count_off is_name_byte
trace_058-03-next = refl

trace_058-05-settled : settled trace_058_limits trace_058_rules 0 ((0, parked input_side) ∷ trace_058_03)
    ≡ trace_058_05
unfolding settled head_text digits date_at count_off is_name_byte trimmed front_length whole_head host_fits head_of verdict_of target_of framed is_utf8 chars encode
trace_058-05-settled = refl

trace_058-06-settled : settled trace_058_limits trace_058_rules 0 ((0, sent 110) ∷ trace_058_05)
    ≡ trace_058_06
unfolding settled head_text digits date_at count_off is_name_byte trimmed front_length whole_head host_fits head_of verdict_of target_of framed is_utf8 chars encode
trace_058-06-settled = refl

trace_058-07-settled : settled trace_058_limits trace_058_rules 0 ((0, sent 0) ∷ trace_058_06)
    ≡ trace_058_07
unfolding settled head_text digits date_at count_off is_name_byte trimmed front_length whole_head host_fits head_of verdict_of target_of framed is_utf8 chars encode
trace_058-07-settled = refl

trace_058-08-tick : tick_move trace_058_limits 20000 trace_058_07
    ≡ Some (caused cause.AwaitTimeout ∷ broken ∷ [])
unfolding head_text digits date_at count_off is_name_byte
trace_058-08-tick = refl

trace_058-08-settled : settled trace_058_limits trace_058_rules 20000 ((20000, broken) ∷ (20000, caused cause.AwaitTimeout) ∷ trace_058_07)
    ≡ trace_058_08
unfolding settled head_text digits date_at count_off is_name_byte trimmed front_length whole_head host_fits head_of verdict_of target_of framed is_utf8 chars encode
trace_058-08-settled = refl

trace_058-10-tick : tick_move trace_058_limits 20001 trace_058_08
    ≡ None
unfolding head_text digits date_at count_off is_name_byte
trace_058-10-tick = refl

trace_058-11-tick : tick_move trace_058_limits 20001 trace_058_08
    ≡ None
unfolding head_text digits date_at count_off is_name_byte
trace_058-11-tick = refl

trace_058-13-next : next_job (trace_058_08)
    ≡ (Some job.Resume)
unfolding head_text digits date_at count_off is_name_byte
trace_058-13-next = refl

trace_058-15-settled : settled trace_058_limits trace_058_rules 20001 ((20001, length_set 1) ∷ trace_058_13)
    ≡ trace_058_15
unfolding settled head_text digits date_at count_off is_name_byte trimmed front_length whole_head host_fits head_of verdict_of target_of framed is_utf8 chars encode
trace_058-15-settled = refl

trace_058-16-settled : settled trace_058_limits trace_058_rules 20001 ((20001, called call.Start None) ∷ trace_058_15)
    ≡ trace_058_16
unfolding settled head_text digits date_at count_off is_name_byte trimmed front_length whole_head host_fits head_of verdict_of target_of framed is_utf8 chars encode
trace_058-16-settled = refl

trace_058-17-settled : settled trace_058_limits trace_058_rules 20001 ((20001, read_listener_set) ∷ trace_058_16)
    ≡ trace_058_17
unfolding settled head_text digits date_at count_off is_name_byte trimmed front_length whole_head host_fits head_of verdict_of target_of framed is_utf8 chars encode
trace_058-17-settled = refl

trace_058-18-settled : settled trace_058_limits trace_058_rules 20001 ((20001, parked input_side) ∷ trace_058_17)
    ≡ trace_058_18
unfolding settled head_text digits date_at count_off is_name_byte trimmed front_length whole_head host_fits head_of verdict_of target_of framed is_utf8 chars encode
trace_058-18-settled = refl

trace_058-20-next : next_job (trace_058_18)
    ≡ (Some job.Resume)
unfolding head_text digits date_at count_off is_name_byte
trace_058-20-next = refl

trace_058-21-settled : settled trace_058_limits trace_058_rules 20001 ((20001, called call.Return None) ∷ (20001, back) ∷ trace_058_20)
    ≡ trace_058_21
unfolding settled head_text digits date_at count_off is_name_byte trimmed front_length whole_head host_fits head_of verdict_of target_of framed is_utf8 chars encode
trace_058-21-settled = refl

trace_058-23-reply : reply_to trace_058_limits trace_058_rules 0 trace_058_21 (on_act (act.Read 1) [])
    ≡ plain reply.NotActive
unfolding reply_to head_text digits date_at count_off is_name_byte
trace_058-23-reply = refl

trace_058-25-tick : tick_move trace_058_limits 20002 trace_058_21
    ≡ None
unfolding head_text digits date_at count_off is_name_byte
trace_058-25-tick = refl
