-- Traces that another program made, with what it tells of them, computed from the definitions. Made by `cases/rows.py`.
use Rattle.std.proofs.Common.{◌≡◌, true, false, List, [], ◌∷◌, Some, None, codes, refl}
use Rattle.std.specs.Prelude.{pos}
use Rattle.std.specs.Fmt.{digits}
use Rattle.std.specs.Str.{is_utf8, chars}
use lib.Utf8.{encode}
use Rattle.cy_event.specs.declared.framing.Framing.TheVariants as framing
use Rattle.cy_event.specs.declared.limits.Limits.{Limits}
use Rattle.cy_event.specs.declared.steps.Call.TheVariants as call
use Rattle.cy_event.specs.declared.steps.CloseCause.TheVariants as cause
use Rattle.cy_event.specs.declared.steps.Job.TheVariants as job
use Rattle.cy_event.specs.declared.steps.State.TheVariants as state
use Rattle.cy_event.specs.Answers.{head_text}
use Rattle.cy_event.specs.Dates.{date_at, count_off}
use Rattle.cy_event.specs.Framings.{framed}
use Rattle.cy_event.specs.Heads.{is_name_byte, trimmed, front_length, whole_head, host_fits, head_of}
use Rattle.cy_event.specs.Targets.{target_of}
use Rattle.cy_map.specs.declared.rule.Rule.{Rule}
use Rattle.cy_model.specs.Jobs.{next_job}
use Rattle.cy_model.specs.Marks.{Trace, opened, came, sent, began, called, started, back, put, flushed, nothing_to_flush, aborted, over, caused, broken}
use Rattle.cy_model.specs.Settling.{settled}
use Rattle.cy_model.specs.Ticks.{tick_move}
use Rattle.cy_model.specs.Verdicts.{verdict_of}
use Rattle.cy_rows.specs.Told.{answer_told, connection_told, request_told}

abbrev trace_147_limits : Limits
trace_147_limits = record { max_connections = 256; max_head = 8192; max_fields = 100; max_keep_alive = pos 100; connection_timeout = 20000; async_timeout = 30000; max_swallow = 2097152; max_trailer = 8192; parts = 3 }

abbrev trace_147_rules : List Rule
trace_147_rules = record { pattern = (codes "/"); part = 0; can_async = true } ∷ record { pattern = (codes "/a"); part = 1; can_async = true } ∷ record { pattern = (codes "/x/*"); part = 2; can_async = false } ∷ []

abbrev trace_147_01 : Trace
trace_147_01 = (0, opened) ∷ []

abbrev trace_147_02 : Trace
trace_147_02 = (0, began (record { place = 0; size = 46; head = record { method = (codes "POST"); target = (codes "/a%20b;p=1/c"); minor = 1; fields = record { name = (codes "Host"); value = (codes "[::1]:80") } ∷ [] }; framing = framing.None; max_trailer = 8192; async_timeout = 30000; part = 0; can_async = true; keep = true; go_on = false })) ∷ (0, came (codes "POST /a%20b;p=1/c HTTP/1.1\r\nHost: [::1]:80\r\n\r\n")) ∷ trace_147_01

abbrev trace_147_03 : Trace
trace_147_03 = (0, sent 0) ∷ trace_147_02

abbrev trace_147_05 : Trace
trace_147_05 = (0, called call.Run None) ∷ (0, started (job.Service 0)) ∷ trace_147_03

abbrev trace_147_07 : Trace
trace_147_07 = (0, called call.Start None) ∷ trace_147_05

abbrev trace_147_08 : Trace
trace_147_08 = (0, called call.Return None) ∷ (0, back) ∷ trace_147_07

abbrev trace_147_09 : Trace
trace_147_09 = (0, flushed) ∷ trace_147_08

abbrev trace_147_10 : Trace
trace_147_10 = (0, nothing_to_flush) ∷ trace_147_09

abbrev trace_147_11 : Trace
trace_147_11 = (0, came (71 ∷ 69 ∷ 84 ∷ 32 ∷ 47 ∷ 32 ∷ 72 ∷ 84 ∷ 84 ∷ 80 ∷ 47 ∷ 49 ∷ 46 ∷ 49 ∷ 13 ∷ 10 ∷ 72 ∷ 111 ∷ 115 ∷ 116 ∷ 58 ∷ 32 ∷ 13 ∷ 10 ∷ 69 ∷ 120 ∷ 112 ∷ 101 ∷ 99 ∷ 116 ∷ 58 ∷ 32 ∷ 13 ∷ 10 ∷ 85 ∷ 116 ∷ 102 ∷ 58 ∷ 32 ∷ 195 ∷ 169 ∷ 13 ∷ 10 ∷ 65 ∷ 58 ∷ 32 ∷ 98 ∷ 13 ∷ 10 ∷ 13 ∷ 10 ∷ [])) ∷ trace_147_10

abbrev trace_147_12 : Trace
trace_147_12 = (0, came (codes "GET / HTTP/1.1\r\nHost: a\r\n\r\n")) ∷ trace_147_11

abbrev trace_147_13 : Trace
trace_147_13 = (0, put (codes " ")) ∷ trace_147_12

abbrev trace_147_14 : Trace
trace_147_14 = (30000, caused cause.FailedAnswer) ∷ (30000, over) ∷ (30000, called call.Return None) ∷ (30000, aborted) ∷ (30000, called call.Return None) ∷ (30000, called call.Return None) ∷ (30000, called call.Timeout None) ∷ trace_147_13

abbrev trace_147_16 : Trace
trace_147_16 = (50000, broken) ∷ trace_147_14

trace_147-connection : connection_told trace_147_16
    ≡ record {
      came = 124;
      consumed = 46;
      room = 16306;
      has_ended = false;
      cause = (Some cause.FailedAnswer);
      is_broken = true;
      is_gone = true;
      is_open = false;
      begun = 1;
      output = (codes "HTTP/1.1 200 \r\nTransfer-Encoding: chunked\r\nDate: Thu, 01 Jan 1970 00:00:00 GMT\r\n\r\n");
      took = 0;
      unsent = 0;
      idle_since = 30000;
      next_job = None;
      charts = (call.Run ∷ call.Start ∷ call.Return ∷ call.Timeout ∷ call.Return ∷ call.Return ∷ call.Return ∷ []) ∷ [];
    }
unfolding head_text digits date_at count_off is_name_byte
trace_147-connection = refl

trace_147-request : request_told trace_147_16
    ≡ record {
      part = 0;
      state = state.Completing;
      running = None;
      parked = None;
      given = 0;
      is_end_told = false;
      waiting = 0;
      used = 0;
      swallowed = 0;
      has_whole_body = true;
      has_bad_body = false;
      listeners = [];
      owed = [];
      deadline = (Some 30000);
      ready = record { read_set = false; read_armed = false; all_read_told = false; write_set = false; write_armed = false };
    }
unfolding is_name_byte
trace_147-request = refl

trace_147-answer : answer_told trace_147_16
    ≡ record {
      status = 200;
      fields = [];
      set_length = None;
      content = 1;
      is_aborted = true;
    }
unfolding digits
trace_147-answer = refl

trace_147-01-settled : settled trace_147_limits trace_147_rules 0 ((0, opened) ∷ [])
    ≡ trace_147_01
unfolding settled head_text digits date_at count_off is_name_byte trimmed front_length whole_head host_fits head_of verdict_of target_of framed is_utf8 chars encode
trace_147-01-settled = refl

trace_147-02-settled : settled trace_147_limits trace_147_rules 0 ((0, came (codes "POST /a%20b;p=1/c HTTP/1.1\r\nHost: [::1]:80\r\n\r\n")) ∷ trace_147_01)
    ≡ trace_147_02
unfolding settled head_text digits date_at count_off is_name_byte trimmed front_length whole_head host_fits head_of verdict_of target_of framed is_utf8 chars encode
trace_147-02-settled = refl

trace_147-03-settled : settled trace_147_limits trace_147_rules 0 ((0, sent 0) ∷ trace_147_02)
    ≡ trace_147_03
unfolding settled head_text digits date_at count_off is_name_byte trimmed front_length whole_head host_fits head_of verdict_of target_of framed is_utf8 chars encode
trace_147-03-settled = refl

trace_147-04-tick : tick_move trace_147_limits 0 trace_147_03
    ≡ None
unfolding head_text digits date_at count_off is_name_byte
trace_147-04-tick = refl

trace_147-05-next : next_job (trace_147_03)
    ≡ (Some (job.Service 0))
unfolding head_text digits date_at count_off is_name_byte
trace_147-05-next = refl

trace_147-06-tick : tick_move trace_147_limits 0 trace_147_05
    ≡ None
unfolding head_text digits date_at count_off is_name_byte
trace_147-06-tick = refl

trace_147-07-settled : settled trace_147_limits trace_147_rules 0 ((0, called call.Start None) ∷ trace_147_05)
    ≡ trace_147_07
unfolding settled head_text digits date_at count_off is_name_byte trimmed front_length whole_head host_fits head_of verdict_of target_of framed is_utf8 chars encode
trace_147-07-settled = refl

trace_147-08-settled : settled trace_147_limits trace_147_rules 0 ((0, called call.Return None) ∷ (0, back) ∷ trace_147_07)
    ≡ trace_147_08
unfolding settled head_text digits date_at count_off is_name_byte trimmed front_length whole_head host_fits head_of verdict_of target_of framed is_utf8 chars encode
trace_147-08-settled = refl

trace_147-11-settled : settled trace_147_limits trace_147_rules 0 ((0, came (71 ∷ 69 ∷ 84 ∷ 32 ∷ 47 ∷ 32 ∷ 72 ∷ 84 ∷ 84 ∷ 80 ∷ 47 ∷ 49 ∷ 46 ∷ 49 ∷ 13 ∷ 10 ∷ 72 ∷ 111 ∷ 115 ∷ 116 ∷ 58 ∷ 32 ∷ 13 ∷ 10 ∷ 69 ∷ 120 ∷ 112 ∷ 101 ∷ 99 ∷ 116 ∷ 58 ∷ 32 ∷ 13 ∷ 10 ∷ 85 ∷ 116 ∷ 102 ∷ 58 ∷ 32 ∷ 195 ∷ 169 ∷ 13 ∷ 10 ∷ 65 ∷ 58 ∷ 32 ∷ 98 ∷ 13 ∷ 10 ∷ 13 ∷ 10 ∷ [])) ∷ trace_147_10)
    ≡ trace_147_11
unfolding settled head_text digits date_at count_off is_name_byte trimmed front_length whole_head host_fits head_of verdict_of target_of framed is_utf8 chars encode
trace_147-11-settled = refl

trace_147-12-settled : settled trace_147_limits trace_147_rules 0 ((0, came (codes "GET / HTTP/1.1\r\nHost: a\r\n\r\n")) ∷ trace_147_11)
    ≡ trace_147_12
unfolding settled head_text digits date_at count_off is_name_byte trimmed front_length whole_head host_fits head_of verdict_of target_of framed is_utf8 chars encode
trace_147-12-settled = refl

trace_147-14-tick : tick_move trace_147_limits 30000 trace_147_13
    ≡ Some (called call.Timeout None ∷ [])
unfolding head_text digits date_at count_off is_name_byte
trace_147-14-tick = refl

trace_147-14-settled : settled trace_147_limits trace_147_rules 30000 ((30000, called call.Timeout None) ∷ trace_147_13)
    ≡ trace_147_14
unfolding settled head_text digits date_at count_off is_name_byte trimmed front_length whole_head host_fits head_of verdict_of target_of framed is_utf8 chars encode
trace_147-14-settled = refl

trace_147-15-tick : tick_move trace_147_limits 49999 trace_147_14
    ≡ None
unfolding head_text digits date_at count_off is_name_byte
trace_147-15-tick = refl

trace_147-16-tick : tick_move trace_147_limits 50000 trace_147_14
    ≡ Some (broken ∷ [])
unfolding head_text digits date_at count_off is_name_byte
trace_147-16-tick = refl

trace_147-16-settled : settled trace_147_limits trace_147_rules 50000 ((50000, broken) ∷ trace_147_14)
    ≡ trace_147_16
unfolding settled head_text digits date_at count_off is_name_byte trimmed front_length whole_head host_fits head_of verdict_of target_of framed is_utf8 chars encode
trace_147-16-settled = refl

trace_147-17-tick : tick_move trace_147_limits 50000 trace_147_16
    ≡ None
unfolding head_text digits date_at count_off is_name_byte
trace_147-17-tick = refl
