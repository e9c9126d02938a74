-- Traces that another program made, with what it tells of them, computed from the definitions. Made by `cases/rows.py`.
use Rattle.std.proofs.Common.{◌≡◌, true, false, List, [], ◌∷◌, Some, None, codes, refl}
use Rattle.std.specs.Prelude.{pos}
use Rattle.std.specs.Fmt.{digits}
use Rattle.std.specs.Str.{is_utf8, chars}
use lib.Utf8.{encode}
use Rattle.cy_event.specs.declared.framing.Framing.TheVariants as framing
use Rattle.cy_event.specs.declared.limits.Limits.{Limits}
use Rattle.cy_event.specs.declared.steps.Call.TheVariants as call
use Rattle.cy_event.specs.declared.steps.CloseCause.TheVariants as cause
use Rattle.cy_event.specs.declared.steps.Job.TheVariants as job
use Rattle.cy_event.specs.declared.steps.State.TheVariants as state
use Rattle.cy_event.specs.Answers.{head_text}
use Rattle.cy_event.specs.Dates.{date_at, count_off}
use Rattle.cy_event.specs.Framings.{framed}
use Rattle.cy_event.specs.Heads.{is_name_byte, trimmed, front_length, whole_head, host_fits, head_of}
use Rattle.cy_event.specs.Targets.{target_of}
use Rattle.cy_map.specs.declared.rule.Rule.{Rule}
use Rattle.cy_model.specs.Jobs.{next_job}
use Rattle.cy_model.specs.Marks.{Trace, opened, came, sent, began, called, started, back, listened, timeout_set, error_answer, over, caused}
use Rattle.cy_model.specs.Replies.{plain}
use Rattle.cy_model.specs.Settling.{settled}
use Rattle.cy_model.specs.Ticks.{tick_move}
use Rattle.cy_model.specs.Verdicts.{verdict_of}
use Rattle.cy_rows.specs.Told.{answer_told, connection_told, request_told}

abbrev trace_005_limits : Limits
trace_005_limits = record { max_connections = 256; max_head = 1000; max_fields = 100; max_keep_alive = pos 2; connection_timeout = 100; async_timeout = 100; max_swallow = 2097152; max_trailer = 12; parts = 4 }

abbrev trace_005_rules : List Rule
trace_005_rules = record { pattern = (codes "*.do"); part = 3; can_async = true } ∷ []

abbrev trace_005_01 : Trace
trace_005_01 = (0, opened) ∷ []

abbrev trace_005_02 : Trace
trace_005_02 = (0, caused cause.BadBody) ∷ (0, began (record { place = 0; size = 58; head = record { method = (codes "GET"); target = (codes "/q.do"); minor = 1; fields = record { name = (codes "Host"); value = [] } ∷ record { name = (codes "Transfer-Encoding"); value = (codes "chunked") } ∷ [] }; framing = framing.Chunked; max_trailer = 12; async_timeout = 100; part = 3; can_async = true; keep = true; go_on = false })) ∷ (0, came (71 ∷ 69 ∷ 84 ∷ 32 ∷ 47 ∷ 113 ∷ 46 ∷ 100 ∷ 111 ∷ 32 ∷ 72 ∷ 84 ∷ 84 ∷ 80 ∷ 47 ∷ 49 ∷ 46 ∷ 49 ∷ 13 ∷ 10 ∷ 72 ∷ 111 ∷ 115 ∷ 116 ∷ 58 ∷ 32 ∷ 13 ∷ 10 ∷ 84 ∷ 114 ∷ 97 ∷ 110 ∷ 115 ∷ 102 ∷ 101 ∷ 114 ∷ 45 ∷ 69 ∷ 110 ∷ 99 ∷ 111 ∷ 100 ∷ 105 ∷ 110 ∷ 103 ∷ 58 ∷ 32 ∷ 99 ∷ 104 ∷ 117 ∷ 110 ∷ 107 ∷ 101 ∷ 100 ∷ 13 ∷ 10 ∷ 13 ∷ 10 ∷ 48 ∷ 59 ∷ 108 ∷ 97 ∷ 115 ∷ 116 ∷ 13 ∷ 10 ∷ 88 ∷ 45 ∷ 83 ∷ 117 ∷ 109 ∷ 58 ∷ 9 ∷ 32 ∷ 55 ∷ 32 ∷ 13 ∷ 10 ∷ 84 ∷ 58 ∷ 32 ∷ 119 ∷ 13 ∷ 10 ∷ 84 ∷ 58 ∷ 32 ∷ 118 ∷ 13 ∷ 10 ∷ 13 ∷ 10 ∷ 80 ∷ 79 ∷ 83 ∷ 84 ∷ 32 ∷ 47 ∷ 32 ∷ 72 ∷ 84 ∷ 84 ∷ 80 ∷ 47 ∷ 49 ∷ 46 ∷ 49 ∷ 13 ∷ 10 ∷ 67 ∷ 111 ∷ 110 ∷ 110 ∷ 101 ∷ 99 ∷ 116 ∷ 105 ∷ 111 ∷ 110 ∷ 58 ∷ 32 ∷ 107 ∷ 101 ∷ 101 ∷ 112 ∷ 45 ∷ 97 ∷ 108 ∷ 105 ∷ 118 ∷ 101 ∷ 13 ∷ 10 ∷ 72 ∷ 111 ∷ 115 ∷ 116 ∷ 58 ∷ 32 ∷ 97 ∷ 13 ∷ 10 ∷ 116 ∷ 114 ∷ 97 ∷ 110 ∷ 115 ∷ 102 ∷ 101 ∷ 114 ∷ 45 ∷ 101 ∷ 110 ∷ 99 ∷ 111 ∷ 100 ∷ 105 ∷ 110 ∷ 103 ∷ 58 ∷ 44 ∷ 32 ∷ 99 ∷ 104 ∷ 117 ∷ 110 ∷ 107 ∷ 101 ∷ 100 ∷ 13 ∷ 10 ∷ 13 ∷ 10 ∷ 50 ∷ 56 ∷ 13 ∷ 10 ∷ 112 ∷ 111 ∷ 110 ∷ 109 ∷ 110 ∷ 108 ∷ 107 ∷ 109 ∷ 108 ∷ 111 ∷ 111 ∷ 107 ∷ 111 ∷ 107 ∷ 109 ∷ 111 ∷ 109 ∷ 109 ∷ 110 ∷ 107 ∷ 111 ∷ 108 ∷ 107 ∷ 108 ∷ 107 ∷ 107 ∷ 110 ∷ 112 ∷ 110 ∷ 111 ∷ 110 ∷ 110 ∷ 112 ∷ 107 ∷ 109 ∷ 108 ∷ 112 ∷ 110 ∷ 111 ∷ 109 ∷ 13 ∷ 10 ∷ 48 ∷ 13 ∷ 10 ∷ 97 ∷ 58 ∷ 13 ∷ 10 ∷ 88 ∷ 45 ∷ 83 ∷ 117 ∷ 109 ∷ 58 ∷ 9 ∷ 32 ∷ 55 ∷ 32 ∷ 13 ∷ 10 ∷ 88 ∷ 45 ∷ 83 ∷ 117 ∷ 109 ∷ 58 ∷ 9 ∷ 32 ∷ 55 ∷ 32 ∷ 13 ∷ 10 ∷ 13 ∷ 10 ∷ [])) ∷ trace_005_01

abbrev trace_005_03 : Trace
trace_005_03 = (0, called call.Run None) ∷ (0, started (job.Service 3)) ∷ trace_005_02

abbrev trace_005_04 : Trace
trace_005_04 = (0, called call.Start None) ∷ trace_005_03

abbrev trace_005_05 : Trace
trace_005_05 = (0, timeout_set 86400000) ∷ trace_005_04

abbrev trace_005_06 : Trace
trace_005_06 = (0, listened 2) ∷ trace_005_05

abbrev trace_005_07 : Trace
trace_005_07 = (0, called call.Return None) ∷ (0, back) ∷ trace_005_06

abbrev trace_005_10 : Trace
trace_005_10 = (0, sent 0) ∷ trace_005_07

abbrev trace_005_11 : Trace
trace_005_11 = (86400000, called call.Timeout None) ∷ trace_005_10

abbrev trace_005_12 : Trace
trace_005_12 = (86400000, started (job.OnTimeout 0 2)) ∷ trace_005_11

abbrev trace_005_13 : Trace
trace_005_13 = (86400000, error_answer 500) ∷ (86400000, called call.Return None) ∷ (86400000, called call.Return None) ∷ (86400000, back) ∷ trace_005_12

abbrev trace_005_14 : Trace
trace_005_14 = (86400000, started (job.OnComplete 0 2)) ∷ trace_005_13

abbrev trace_005_15 : Trace
trace_005_15 = (86400000, over) ∷ (86400000, error_answer 400) ∷ (86400000, called call.Return None) ∷ (86400000, back) ∷ trace_005_14

abbrev trace_005_18 : Trace
trace_005_18 = (86400000, sent 1) ∷ trace_005_15

abbrev trace_005_20 : Trace
trace_005_20 = (86400001, sent 128) ∷ trace_005_18

trace_005-connection : connection_told trace_005_20
    ≡ record {
      came = 252;
      consumed = 74;
      room = 16206;
      has_ended = false;
      cause = (Some cause.BadBody);
      is_broken = false;
      is_gone = true;
      is_open = false;
      begun = 1;
      output = (codes "HTTP/1.1 400 \r\nContent-Type: text/plain\r\nContent-Length: 10\r\nDate: Fri, 02 Jan 1970 00:00:00 GMT\r\nConnection: close\r\n\r\nError 400\n");
      took = 129;
      unsent = 0;
      idle_since = 86400000;
      next_job = None;
      charts = (call.Run ∷ call.Start ∷ call.Return ∷ call.Timeout ∷ call.Return ∷ call.Return ∷ call.Return ∷ []) ∷ [];
    }
unfolding head_text digits date_at count_off is_name_byte
trace_005-connection = refl

trace_005-request : request_told trace_005_20
    ≡ record {
      part = 3;
      state = state.Completing;
      running = None;
      parked = None;
      given = 0;
      is_end_told = false;
      waiting = 0;
      used = 16;
      swallowed = 16;
      has_whole_body = false;
      has_bad_body = true;
      listeners = 2 ∷ [];
      owed = [];
      deadline = (Some 86400000);
      ready = record { read_set = false; read_armed = false; all_read_told = false; write_set = false; write_armed = false };
    }
unfolding is_name_byte
trace_005-request = refl

trace_005-answer : answer_told trace_005_20
    ≡ record {
      status = 400;
      fields = record { name = (codes "Content-Type"); value = (codes "text/plain") } ∷ [];
      set_length = None;
      content = 10;
      is_aborted = false;
    }
unfolding digits
trace_005-answer = refl

trace_005-01-settled : settled trace_005_limits trace_005_rules 0 ((0, opened) ∷ [])
    ≡ trace_005_01
unfolding settled head_text digits date_at count_off is_name_byte trimmed front_length whole_head host_fits head_of verdict_of target_of framed is_utf8 chars encode
trace_005-01-settled = refl

trace_005-02-settled : settled trace_005_limits trace_005_rules 0 ((0, came (71 ∷ 69 ∷ 84 ∷ 32 ∷ 47 ∷ 113 ∷ 46 ∷ 100 ∷ 111 ∷ 32 ∷ 72 ∷ 84 ∷ 84 ∷ 80 ∷ 47 ∷ 49 ∷ 46 ∷ 49 ∷ 13 ∷ 10 ∷ 72 ∷ 111 ∷ 115 ∷ 116 ∷ 58 ∷ 32 ∷ 13 ∷ 10 ∷ 84 ∷ 114 ∷ 97 ∷ 110 ∷ 115 ∷ 102 ∷ 101 ∷ 114 ∷ 45 ∷ 69 ∷ 110 ∷ 99 ∷ 111 ∷ 100 ∷ 105 ∷ 110 ∷ 103 ∷ 58 ∷ 32 ∷ 99 ∷ 104 ∷ 117 ∷ 110 ∷ 107 ∷ 101 ∷ 100 ∷ 13 ∷ 10 ∷ 13 ∷ 10 ∷ 48 ∷ 59 ∷ 108 ∷ 97 ∷ 115 ∷ 116 ∷ 13 ∷ 10 ∷ 88 ∷ 45 ∷ 83 ∷ 117 ∷ 109 ∷ 58 ∷ 9 ∷ 32 ∷ 55 ∷ 32 ∷ 13 ∷ 10 ∷ 84 ∷ 58 ∷ 32 ∷ 119 ∷ 13 ∷ 10 ∷ 84 ∷ 58 ∷ 32 ∷ 118 ∷ 13 ∷ 10 ∷ 13 ∷ 10 ∷ 80 ∷ 79 ∷ 83 ∷ 84 ∷ 32 ∷ 47 ∷ 32 ∷ 72 ∷ 84 ∷ 84 ∷ 80 ∷ 47 ∷ 49 ∷ 46 ∷ 49 ∷ 13 ∷ 10 ∷ 67 ∷ 111 ∷ 110 ∷ 110 ∷ 101 ∷ 99 ∷ 116 ∷ 105 ∷ 111 ∷ 110 ∷ 58 ∷ 32 ∷ 107 ∷ 101 ∷ 101 ∷ 112 ∷ 45 ∷ 97 ∷ 108 ∷ 105 ∷ 118 ∷ 101 ∷ 13 ∷ 10 ∷ 72 ∷ 111 ∷ 115 ∷ 116 ∷ 58 ∷ 32 ∷ 97 ∷ 13 ∷ 10 ∷ 116 ∷ 114 ∷ 97 ∷ 110 ∷ 115 ∷ 102 ∷ 101 ∷ 114 ∷ 45 ∷ 101 ∷ 110 ∷ 99 ∷ 111 ∷ 100 ∷ 105 ∷ 110 ∷ 103 ∷ 58 ∷ 44 ∷ 32 ∷ 99 ∷ 104 ∷ 117 ∷ 110 ∷ 107 ∷ 101 ∷ 100 ∷ 13 ∷ 10 ∷ 13 ∷ 10 ∷ 50 ∷ 56 ∷ 13 ∷ 10 ∷ 112 ∷ 111 ∷ 110 ∷ 109 ∷ 110 ∷ 108 ∷ 107 ∷ 109 ∷ 108 ∷ 111 ∷ 111 ∷ 107 ∷ 111 ∷ 107 ∷ 109 ∷ 111 ∷ 109 ∷ 109 ∷ 110 ∷ 107 ∷ 111 ∷ 108 ∷ 107 ∷ 108 ∷ 107 ∷ 107 ∷ 110 ∷ 112 ∷ 110 ∷ 111 ∷ 110 ∷ 110 ∷ 112 ∷ 107 ∷ 109 ∷ 108 ∷ 112 ∷ 110 ∷ 111 ∷ 109 ∷ 13 ∷ 10 ∷ 48 ∷ 13 ∷ 10 ∷ 97 ∷ 58 ∷ 13 ∷ 10 ∷ 88 ∷ 45 ∷ 83 ∷ 117 ∷ 109 ∷ 58 ∷ 9 ∷ 32 ∷ 55 ∷ 32 ∷ 13 ∷ 10 ∷ 88 ∷ 45 ∷ 83 ∷ 117 ∷ 109 ∷ 58 ∷ 9 ∷ 32 ∷ 55 ∷ 32 ∷ 13 ∷ 10 ∷ 13 ∷ 10 ∷ [])) ∷ trace_005_01)
    ≡ trace_005_02
unfolding settled head_text digits date_at count_off is_name_byte trimmed front_length whole_head host_fits head_of verdict_of target_of framed is_utf8 chars encode
trace_005-02-settled = refl

trace_005-03-next : next_job (trace_005_02)
    ≡ (Some (job.Service 3))
unfolding head_text digits date_at count_off is_name_byte
trace_005-03-next = refl

trace_005-04-settled : settled trace_005_limits trace_005_rules 0 ((0, called call.Start None) ∷ trace_005_03)
    ≡ trace_005_04
unfolding settled head_text digits date_at count_off is_name_byte trimmed front_length whole_head host_fits head_of verdict_of target_of framed is_utf8 chars encode
trace_005-04-settled = refl

trace_005-05-settled : settled trace_005_limits trace_005_rules 0 ((0, timeout_set 86400000) ∷ trace_005_04)
    ≡ trace_005_05
unfolding settled head_text digits date_at count_off is_name_byte trimmed front_length whole_head host_fits head_of verdict_of target_of framed is_utf8 chars encode
trace_005-05-settled = refl

trace_005-06-settled : settled trace_005_limits trace_005_rules 0 ((0, listened 2) ∷ trace_005_05)
    ≡ trace_005_06
unfolding settled head_text digits date_at count_off is_name_byte trimmed front_length whole_head host_fits head_of verdict_of target_of framed is_utf8 chars encode
trace_005-06-settled = refl

trace_005-07-settled : settled trace_005_limits trace_005_rules 0 ((0, called call.Return None) ∷ (0, back) ∷ trace_005_06)
    ≡ trace_005_07
unfolding settled head_text digits date_at count_off is_name_byte trimmed front_length whole_head host_fits head_of verdict_of target_of framed is_utf8 chars encode
trace_005-07-settled = refl

trace_005-10-settled : settled trace_005_limits trace_005_rules 0 ((0, sent 0) ∷ trace_005_07)
    ≡ trace_005_10
unfolding settled head_text digits date_at count_off is_name_byte trimmed front_length whole_head host_fits head_of verdict_of target_of framed is_utf8 chars encode
trace_005-10-settled = refl

trace_005-11-tick : tick_move trace_005_limits 86400000 trace_005_10
    ≡ Some (called call.Timeout None ∷ [])
unfolding head_text digits date_at count_off is_name_byte
trace_005-11-tick = refl

trace_005-11-settled : settled trace_005_limits trace_005_rules 86400000 ((86400000, called call.Timeout None) ∷ trace_005_10)
    ≡ trace_005_11
unfolding settled head_text digits date_at count_off is_name_byte trimmed front_length whole_head host_fits head_of verdict_of target_of framed is_utf8 chars encode
trace_005-11-settled = refl

trace_005-12-next : next_job (trace_005_11)
    ≡ (Some (job.OnTimeout 0 2))
unfolding head_text digits date_at count_off is_name_byte
trace_005-12-next = refl

trace_005-13-settled : settled trace_005_limits trace_005_rules 86400000 ((86400000, back) ∷ trace_005_12)
    ≡ trace_005_13
unfolding settled head_text digits date_at count_off is_name_byte trimmed front_length whole_head host_fits head_of verdict_of target_of framed is_utf8 chars encode
trace_005-13-settled = refl

trace_005-14-next : next_job (trace_005_13)
    ≡ (Some (job.OnComplete 0 2))
unfolding head_text digits date_at count_off is_name_byte
trace_005-14-next = refl

trace_005-15-settled : settled trace_005_limits trace_005_rules 86400000 ((86400000, back) ∷ trace_005_14)
    ≡ trace_005_15
unfolding settled head_text digits date_at count_off is_name_byte trimmed front_length whole_head host_fits head_of verdict_of target_of framed is_utf8 chars encode
trace_005-15-settled = refl

trace_005-18-settled : settled trace_005_limits trace_005_rules 86400000 ((86400000, sent 1) ∷ trace_005_15)
    ≡ trace_005_18
unfolding settled head_text digits date_at count_off is_name_byte trimmed front_length whole_head host_fits head_of verdict_of target_of framed is_utf8 chars encode
trace_005-18-settled = refl

trace_005-19-tick : tick_move trace_005_limits 86400001 trace_005_18
    ≡ None
unfolding head_text digits date_at count_off is_name_byte
trace_005-19-tick = refl

trace_005-20-settled : settled trace_005_limits trace_005_rules 86400001 ((86400001, sent 128) ∷ trace_005_18)
    ≡ trace_005_20
unfolding settled head_text digits date_at count_off is_name_byte trimmed front_length whole_head host_fits head_of verdict_of target_of framed is_utf8 chars encode
trace_005-20-settled = refl
