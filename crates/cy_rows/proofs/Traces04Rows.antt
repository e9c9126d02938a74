-- Traces that another program made, with what it tells of them, computed from the definitions. Made by `cases/rows.py`.
use Rattle.std.proofs.Common.{◌≡◌, true, false, List, [], ◌∷◌, Some, None, codes, refl}
use Rattle.std.specs.Prelude.{pos}
use Rattle.std.specs.Fmt.{digits}
use Rattle.std.specs.Str.{is_utf8, chars}
use lib.Utf8.{encode}
use Rattle.cy_event.specs.declared.framing.Framing.TheVariants as framing
use Rattle.cy_event.specs.declared.limits.Limits.{Limits}
use Rattle.cy_event.specs.declared.steps.Act.TheVariants as act
use Rattle.cy_event.specs.declared.steps.Call.TheVariants as call
use Rattle.cy_event.specs.declared.steps.CloseCause.TheVariants as cause
use Rattle.cy_event.specs.declared.steps.Job.TheVariants as job
use Rattle.cy_event.specs.declared.steps.Reply.TheVariants as reply
use Rattle.cy_event.specs.declared.steps.State.TheVariants as state
use Rattle.cy_event.specs.Answers.{head_text}
use Rattle.cy_event.specs.Dates.{date_at, count_off}
use Rattle.cy_event.specs.Framings.{framed}
use Rattle.cy_event.specs.Heads.{is_name_byte, trimmed, front_length, whole_head, host_fits, head_of}
use Rattle.cy_event.specs.Targets.{target_of}
use Rattle.cy_map.specs.declared.rule.Rule.{Rule}
use Rattle.cy_model.specs.Entries.{on_act, reply_to}
use Rattle.cy_model.specs.Jobs.{next_job}
use Rattle.cy_model.specs.Marks.{Trace, opened, came, sent, began, refused, called, started, back, end_given, listened, error_answer, over, caused, broken}
use Rattle.cy_model.specs.Replies.{plain}
use Rattle.cy_model.specs.Settling.{settled}
use Rattle.cy_model.specs.Ticks.{tick_move}
use Rattle.cy_model.specs.Verdicts.{verdict_of}
use Rattle.cy_rows.specs.Told.{answer_told, connection_told, open_told, request_told}

abbrev trace_012_limits : Limits
trace_012_limits = record { max_connections = 256; max_head = 8192; max_fields = 100; max_keep_alive = pos 100; connection_timeout = 20000; async_timeout = 100; max_swallow = 2097152; max_trailer = 8192; parts = 3 }

abbrev trace_012_rules : List Rule
trace_012_rules = record { pattern = (codes "/"); part = 0; can_async = true } ∷ record { pattern = (codes "/a"); part = 1; can_async = true } ∷ record { pattern = (codes "/x/*"); part = 2; can_async = false } ∷ []

abbrev trace_012_01 : Trace
trace_012_01 = (0, opened) ∷ []

abbrev trace_012_02 : Trace
trace_012_02 = (0, sent 0) ∷ trace_012_01

abbrev trace_012_03 : Trace
trace_012_03 = (0, came []) ∷ trace_012_02

abbrev trace_012_04 : Trace
trace_012_04 = (0, began (record { place = 0; size = 58; head = record { method = (codes "GET"); target = (codes "//a//b/"); minor = 1; fields = record { name = (codes "A"); value = (codes "b") } ∷ record { name = (codes "Host"); value = (codes "localhost:8080") } ∷ record { name = (codes "A"); value = (codes "b") } ∷ [] }; framing = framing.None; max_trailer = 8192; async_timeout = 100; part = 0; can_async = true; keep = true; go_on = false })) ∷ (0, came (71 ∷ 69 ∷ 84 ∷ 32 ∷ 47 ∷ 47 ∷ 97 ∷ 47 ∷ 47 ∷ 98 ∷ 47 ∷ 32 ∷ 72 ∷ 84 ∷ 84 ∷ 80 ∷ 47 ∷ 49 ∷ 46 ∷ 49 ∷ 13 ∷ 10 ∷ 65 ∷ 58 ∷ 32 ∷ 98 ∷ 13 ∷ 10 ∷ 72 ∷ 111 ∷ 115 ∷ 116 ∷ 58 ∷ 32 ∷ 108 ∷ 111 ∷ 99 ∷ 97 ∷ 108 ∷ 104 ∷ 111 ∷ 115 ∷ 116 ∷ 58 ∷ 56 ∷ 48 ∷ 56 ∷ 48 ∷ 13 ∷ 10 ∷ 65 ∷ 58 ∷ 32 ∷ 98 ∷ 13 ∷ 10 ∷ 13 ∷ 10 ∷ 80 ∷ 79 ∷ 83 ∷ 84 ∷ 32 ∷ 47 ∷ 47 ∷ 97 ∷ 47 ∷ 47 ∷ 98 ∷ 47 ∷ 32 ∷ 72 ∷ 84 ∷ 84 ∷ 80 ∷ 47 ∷ 49 ∷ 46 ∷ 49 ∷ 13 ∷ 10 ∷ 72 ∷ 111 ∷ 115 ∷ 116 ∷ 58 ∷ 32 ∷ 108 ∷ 111 ∷ 99 ∷ 97 ∷ 108 ∷ 104 ∷ 111 ∷ 115 ∷ 116 ∷ 58 ∷ 56 ∷ 48 ∷ 56 ∷ 48 ∷ 13 ∷ 10 ∷ 84 ∷ 114 ∷ 97 ∷ 110 ∷ 115 ∷ 102 ∷ 101 ∷ 114 ∷ 45 ∷ 69 ∷ 110 ∷ 99 ∷ 111 ∷ 100 ∷ 105 ∷ 110 ∷ 103 ∷ 58 ∷ 32 ∷ 44 ∷ 32 ∷ 99 ∷ 104 ∷ 117 ∷ 110 ∷ 107 ∷ 101 ∷ 100 ∷ 13 ∷ 10 ∷ 13 ∷ 10 ∷ 49 ∷ 49 ∷ 9 ∷ 32 ∷ 59 ∷ 32 ∷ 122 ∷ 61 ∷ 34 ∷ 113 ∷ 34 ∷ 13 ∷ 10 ∷ 110 ∷ 111 ∷ 112 ∷ 112 ∷ 110 ∷ 111 ∷ 108 ∷ 109 ∷ 108 ∷ 107 ∷ 112 ∷ 112 ∷ 108 ∷ 107 ∷ 108 ∷ 108 ∷ 110 ∷ 13 ∷ 10 ∷ 48 ∷ 59 ∷ 108 ∷ 97 ∷ 115 ∷ 116 ∷ 13 ∷ 10 ∷ 81 ∷ 58 ∷ 128 ∷ 255 ∷ 13 ∷ 10 ∷ 13 ∷ 10 ∷ 72 ∷ 69 ∷ 65 ∷ 68 ∷ 32 ∷ 47 ∷ 97 ∷ 47 ∷ 46 ∷ 47 ∷ 98 ∷ 47 ∷ 46 ∷ 46 ∷ 47 ∷ 99 ∷ 63 ∷ 113 ∷ 61 ∷ 49 ∷ 32 ∷ 72 ∷ 84 ∷ 84 ∷ 80 ∷ 47 ∷ 49 ∷ 46 ∷ 49 ∷ 13 ∷ 10 ∷ 72 ∷ 111 ∷ 115 ∷ 116 ∷ 58 ∷ 32 ∷ 108 ∷ 111 ∷ 99 ∷ 97 ∷ 108 ∷ 104 ∷ 111 ∷ 115 ∷ 116 ∷ 58 ∷ 56 ∷ 48 ∷ 56 ∷ 48 ∷ 13 ∷ 10 ∷ 67 ∷ 111 ∷ 110 ∷ 116 ∷ 101 ∷ 110 ∷ 116 ∷ 45 ∷ 76 ∷ 101 ∷ 110 ∷ 103 ∷ 116 ∷ 104 ∷ 58 ∷ 32 ∷ 48 ∷ 49 ∷ 13 ∷ 10 ∷ 13 ∷ 10 ∷ 98 ∷ [])) ∷ trace_012_03

abbrev trace_012_05 : Trace
trace_012_05 = (0, called call.Run None) ∷ (0, started (job.Service 0)) ∷ trace_012_04

abbrev trace_012_06 : Trace
trace_012_06 = (0, called call.Start None) ∷ trace_012_05

abbrev trace_012_07 : Trace
trace_012_07 = (0, end_given) ∷ trace_012_06

abbrev trace_012_08 : Trace
trace_012_08 = (0, end_given) ∷ trace_012_07

abbrev trace_012_09 : Trace
trace_012_09 = (0, listened 63) ∷ trace_012_08

abbrev trace_012_10 : Trace
trace_012_10 = (0, end_given) ∷ trace_012_09

abbrev trace_012_12 : Trace
trace_012_12 = (2, end_given) ∷ trace_012_10

abbrev trace_012_13 : Trace
trace_012_13 = (2, called call.Fault None) ∷ (2, broken) ∷ (2, caused cause.Shut) ∷ trace_012_12

abbrev trace_012_14 : Trace
trace_012_14 = (2, called call.Return None) ∷ (2, back) ∷ trace_012_13

abbrev trace_012_15 : Trace
trace_012_15 = (2, called call.CompleteOther None) ∷ trace_012_14

abbrev trace_012_16 : Trace
trace_012_16 = (2, started (job.OnError 0 63)) ∷ trace_012_15

abbrev trace_012_17 : Trace
trace_012_17 = (2, back) ∷ trace_012_16

trace_012-connection : connection_told trace_012_17
    ≡ record {
      came = 259;
      consumed = 58;
      room = 16183;
      has_ended = false;
      cause = (Some cause.Shut);
      is_broken = true;
      is_gone = false;
      is_open = true;
      begun = 1;
      output = [];
      took = 0;
      unsent = 0;
      idle_since = 0;
      next_job = (Some (job.OnComplete 0 63));
      charts = (call.Run ∷ call.Start ∷ call.Fault ∷ call.Return ∷ call.CompleteOther ∷ []) ∷ [];
    }
unfolding head_text digits date_at count_off is_name_byte
trace_012-connection = refl

trace_012-request : request_told trace_012_17
    ≡ record {
      part = 0;
      state = state.Completing;
      running = None;
      parked = None;
      given = 0;
      is_end_told = true;
      waiting = 0;
      used = 0;
      swallowed = 0;
      has_whole_body = true;
      has_bad_body = false;
      listeners = 63 ∷ [];
      owed = (job.OnComplete 0 63) ∷ [];
      deadline = None;
      ready = record { read_set = false; read_armed = false; all_read_told = false; write_set = false; write_armed = false };
    }
unfolding is_name_byte
trace_012-request = refl

trace_012-answer : answer_told trace_012_17
    ≡ record {
      status = 200;
      fields = [];
      set_length = None;
      content = 0;
      is_aborted = false;
    }
unfolding digits
trace_012-answer = refl

trace_012-open : open_told trace_012_17
    ≡ record {
      is_committed = false;
      takes_one = true;
      has_to_cut = true;
    }
unfolding head_text digits date_at count_off is_name_byte
trace_012-open = refl

trace_012-01-settled : settled trace_012_limits trace_012_rules 0 ((0, opened) ∷ [])
    ≡ trace_012_01
unfolding settled head_text digits date_at count_off is_name_byte trimmed front_length whole_head host_fits head_of verdict_of target_of framed is_utf8 chars encode
trace_012-01-settled = refl

trace_012-02-settled : settled trace_012_limits trace_012_rules 0 ((0, sent 0) ∷ trace_012_01)
    ≡ trace_012_02
unfolding settled head_text digits date_at count_off is_name_byte trimmed front_length whole_head host_fits head_of verdict_of target_of framed is_utf8 chars encode
trace_012-02-settled = refl

trace_012-03-settled : settled trace_012_limits trace_012_rules 0 ((0, came []) ∷ trace_012_02)
    ≡ trace_012_03
unfolding settled head_text digits date_at count_off is_name_byte trimmed front_length whole_head host_fits head_of verdict_of target_of framed is_utf8 chars encode
trace_012-03-settled = refl

trace_012-04-settled : settled trace_012_limits trace_012_rules 0 ((0, came (71 ∷ 69 ∷ 84 ∷ 32 ∷ 47 ∷ 47 ∷ 97 ∷ 47 ∷ 47 ∷ 98 ∷ 47 ∷ 32 ∷ 72 ∷ 84 ∷ 84 ∷ 80 ∷ 47 ∷ 49 ∷ 46 ∷ 49 ∷ 13 ∷ 10 ∷ 65 ∷ 58 ∷ 32 ∷ 98 ∷ 13 ∷ 10 ∷ 72 ∷ 111 ∷ 115 ∷ 116 ∷ 58 ∷ 32 ∷ 108 ∷ 111 ∷ 99 ∷ 97 ∷ 108 ∷ 104 ∷ 111 ∷ 115 ∷ 116 ∷ 58 ∷ 56 ∷ 48 ∷ 56 ∷ 48 ∷ 13 ∷ 10 ∷ 65 ∷ 58 ∷ 32 ∷ 98 ∷ 13 ∷ 10 ∷ 13 ∷ 10 ∷ 80 ∷ 79 ∷ 83 ∷ 84 ∷ 32 ∷ 47 ∷ 47 ∷ 97 ∷ 47 ∷ 47 ∷ 98 ∷ 47 ∷ 32 ∷ 72 ∷ 84 ∷ 84 ∷ 80 ∷ 47 ∷ 49 ∷ 46 ∷ 49 ∷ 13 ∷ 10 ∷ 72 ∷ 111 ∷ 115 ∷ 116 ∷ 58 ∷ 32 ∷ 108 ∷ 111 ∷ 99 ∷ 97 ∷ 108 ∷ 104 ∷ 111 ∷ 115 ∷ 116 ∷ 58 ∷ 56 ∷ 48 ∷ 56 ∷ 48 ∷ 13 ∷ 10 ∷ 84 ∷ 114 ∷ 97 ∷ 110 ∷ 115 ∷ 102 ∷ 101 ∷ 114 ∷ 45 ∷ 69 ∷ 110 ∷ 99 ∷ 111 ∷ 100 ∷ 105 ∷ 110 ∷ 103 ∷ 58 ∷ 32 ∷ 44 ∷ 32 ∷ 99 ∷ 104 ∷ 117 ∷ 110 ∷ 107 ∷ 101 ∷ 100 ∷ 13 ∷ 10 ∷ 13 ∷ 10 ∷ 49 ∷ 49 ∷ 9 ∷ 32 ∷ 59 ∷ 32 ∷ 122 ∷ 61 ∷ 34 ∷ 113 ∷ 34 ∷ 13 ∷ 10 ∷ 110 ∷ 111 ∷ 112 ∷ 112 ∷ 110 ∷ 111 ∷ 108 ∷ 109 ∷ 108 ∷ 107 ∷ 112 ∷ 112 ∷ 108 ∷ 107 ∷ 108 ∷ 108 ∷ 110 ∷ 13 ∷ 10 ∷ 48 ∷ 59 ∷ 108 ∷ 97 ∷ 115 ∷ 116 ∷ 13 ∷ 10 ∷ 81 ∷ 58 ∷ 128 ∷ 255 ∷ 13 ∷ 10 ∷ 13 ∷ 10 ∷ 72 ∷ 69 ∷ 65 ∷ 68 ∷ 32 ∷ 47 ∷ 97 ∷ 47 ∷ 46 ∷ 47 ∷ 98 ∷ 47 ∷ 46 ∷ 46 ∷ 47 ∷ 99 ∷ 63 ∷ 113 ∷ 61 ∷ 49 ∷ 32 ∷ 72 ∷ 84 ∷ 84 ∷ 80 ∷ 47 ∷ 49 ∷ 46 ∷ 49 ∷ 13 ∷ 10 ∷ 72 ∷ 111 ∷ 115 ∷ 116 ∷ 58 ∷ 32 ∷ 108 ∷ 111 ∷ 99 ∷ 97 ∷ 108 ∷ 104 ∷ 111 ∷ 115 ∷ 116 ∷ 58 ∷ 56 ∷ 48 ∷ 56 ∷ 48 ∷ 13 ∷ 10 ∷ 67 ∷ 111 ∷ 110 ∷ 116 ∷ 101 ∷ 110 ∷ 116 ∷ 45 ∷ 76 ∷ 101 ∷ 110 ∷ 103 ∷ 116 ∷ 104 ∷ 58 ∷ 32 ∷ 48 ∷ 49 ∷ 13 ∷ 10 ∷ 13 ∷ 10 ∷ 98 ∷ [])) ∷ trace_012_03)
    ≡ trace_012_04
unfolding settled head_text digits date_at count_off is_name_byte trimmed front_length whole_head host_fits head_of verdict_of target_of framed is_utf8 chars encode
trace_012-04-settled = refl

trace_012-05-next : next_job (trace_012_04)
    ≡ (Some (job.Service 0))
unfolding head_text digits date_at count_off is_name_byte
trace_012-05-next = refl

trace_012-06-settled : settled trace_012_limits trace_012_rules 0 ((0, called call.Start None) ∷ trace_012_05)
    ≡ trace_012_06
unfolding settled head_text digits date_at count_off is_name_byte trimmed front_length whole_head host_fits head_of verdict_of target_of framed is_utf8 chars encode
trace_012-06-settled = refl

trace_012-07-reply : reply_to trace_012_limits trace_012_rules 0 trace_012_06 (on_act (act.Read 0) [])
    ≡ plain reply.GotEnd
unfolding reply_to head_text digits date_at count_off is_name_byte
trace_012-07-reply = refl

trace_012-07-settled : settled trace_012_limits trace_012_rules 0 ((0, end_given) ∷ trace_012_06)
    ≡ trace_012_07
unfolding settled head_text digits date_at count_off is_name_byte trimmed front_length whole_head host_fits head_of verdict_of target_of framed is_utf8 chars encode
trace_012-07-settled = refl

trace_012-08-reply : reply_to trace_012_limits trace_012_rules 0 trace_012_07 (on_act (act.Read 100) [])
    ≡ plain reply.GotEnd
unfolding reply_to head_text digits date_at count_off is_name_byte
trace_012-08-reply = refl

trace_012-08-settled : settled trace_012_limits trace_012_rules 0 ((0, end_given) ∷ trace_012_07)
    ≡ trace_012_08
unfolding settled head_text digits date_at count_off is_name_byte trimmed front_length whole_head host_fits head_of verdict_of target_of framed is_utf8 chars encode
trace_012-08-settled = refl

trace_012-09-settled : settled trace_012_limits trace_012_rules 0 ((0, listened 63) ∷ trace_012_08)
    ≡ trace_012_09
unfolding settled head_text digits date_at count_off is_name_byte trimmed front_length whole_head host_fits head_of verdict_of target_of framed is_utf8 chars encode
trace_012-09-settled = refl

trace_012-10-reply : reply_to trace_012_limits trace_012_rules 0 trace_012_09 (on_act (act.Read 1) [])
    ≡ plain reply.GotEnd
unfolding reply_to head_text digits date_at count_off is_name_byte
trace_012-10-reply = refl

trace_012-10-settled : settled trace_012_limits trace_012_rules 0 ((0, end_given) ∷ trace_012_09)
    ≡ trace_012_10
unfolding settled head_text digits date_at count_off is_name_byte trimmed front_length whole_head host_fits head_of verdict_of target_of framed is_utf8 chars encode
trace_012-10-settled = refl

trace_012-11-tick : tick_move trace_012_limits 2 trace_012_10
    ≡ None
unfolding head_text digits date_at count_off is_name_byte
trace_012-11-tick = refl

trace_012-12-reply : reply_to trace_012_limits trace_012_rules 0 trace_012_10 (on_act (act.Read 65536) [])
    ≡ plain reply.GotEnd
unfolding reply_to head_text digits date_at count_off is_name_byte
trace_012-12-reply = refl

trace_012-12-settled : settled trace_012_limits trace_012_rules 2 ((2, end_given) ∷ trace_012_10)
    ≡ trace_012_12
unfolding settled head_text digits date_at count_off is_name_byte trimmed front_length whole_head host_fits head_of verdict_of target_of framed is_utf8 chars encode
trace_012-12-settled = refl

trace_012-13-settled : settled trace_012_limits trace_012_rules 2 ((2, called call.Fault None) ∷ (2, broken) ∷ (2, caused cause.Shut) ∷ trace_012_12)
    ≡ trace_012_13
unfolding settled head_text digits date_at count_off is_name_byte trimmed front_length whole_head host_fits head_of verdict_of target_of framed is_utf8 chars encode
trace_012-13-settled = refl

trace_012-14-settled : settled trace_012_limits trace_012_rules 2 ((2, called call.Return None) ∷ (2, back) ∷ trace_012_13)
    ≡ trace_012_14
unfolding settled head_text digits date_at count_off is_name_byte trimmed front_length whole_head host_fits head_of verdict_of target_of framed is_utf8 chars encode
trace_012-14-settled = refl

trace_012-16-next : next_job (trace_012_15)
    ≡ (Some (job.OnError 0 63))
unfolding head_text digits date_at count_off is_name_byte
trace_012-16-next = refl

trace_012-17-settled : settled trace_012_limits trace_012_rules 2 ((2, back) ∷ trace_012_16)
    ≡ trace_012_17
unfolding settled head_text digits date_at count_off is_name_byte trimmed front_length whole_head host_fits head_of verdict_of target_of framed is_utf8 chars encode
trace_012-17-settled = refl

trace_012-18-tick : tick_move trace_012_limits 2 trace_012_17
    ≡ None
unfolding head_text digits date_at count_off is_name_byte
trace_012-18-tick = refl

trace_012-19-tick : tick_move trace_012_limits 4 trace_012_17
    ≡ None
unfolding head_text digits date_at count_off is_name_byte
trace_012-19-tick = refl

trace_012-20-tick : tick_move trace_012_limits 4 trace_012_17
    ≡ None
unfolding head_text digits date_at count_off is_name_byte
trace_012-20-tick = refl

abbrev trace_014_limits : Limits
trace_014_limits = record { max_connections = 256; max_head = 8192; max_fields = 100; max_keep_alive = pos 100; connection_timeout = 20000; async_timeout = 30000; max_swallow = 2097152; max_trailer = 8192; parts = 0 }

abbrev trace_014_rules : List Rule
trace_014_rules = []

abbrev trace_014_01 : Trace
trace_014_01 = (0, opened) ∷ []

abbrev trace_014_03 : Trace
trace_014_03 = (0, over) ∷ (0, error_answer 404) ∷ (0, began (record { place = 0; size = 46; head = record { method = (codes "PUT"); target = (codes "/"); minor = 1; fields = record { name = (codes "Host"); value = [] } ∷ record { name = (codes "Content-Length"); value = (codes "50") } ∷ [] }; framing = (framing.Length 50); max_trailer = 8192; async_timeout = 30000; part = 0; can_async = false; keep = true; go_on = false })) ∷ (0, came (codes "PUT / HTTP/1.1\r\nHost: \r\nContent-Length: 50\r\n\r\nxzydxaadaxbdaccayxdacyxxadyaxddczzzddxyyccbzdbxazd")) ∷ trace_014_01

abbrev trace_014_04 : Trace
trace_014_04 = (0, sent 100) ∷ trace_014_03

abbrev trace_014_05 : Trace
trace_014_05 = (0, caused cause.Refused) ∷ (0, refused 501 true) ∷ (0, came (codes "HEAD /a HTTP/1.1\r\nX: llllllllllllllllllllllllllllllllllllllll\r\nCookie: x=1; y=2\r\nTransfer-Encoding: chunked\r\nConnection: x, Close\r\nHost: a.b%41\r\n\r\n0;last\r\n\r\n")) ∷ trace_014_04

abbrev trace_014_06 : Trace
trace_014_06 = (0, sent 129) ∷ trace_014_05

trace_014-connection : connection_told trace_014_06
    ≡ record {
      came = 253;
      consumed = 96;
      room = 16227;
      has_ended = false;
      cause = (Some cause.Refused);
      is_broken = false;
      is_gone = true;
      is_open = false;
      begun = 1;
      output = (codes "HTTP/1.1 404 \r\nContent-Type: text/plain\r\nContent-Length: 10\r\nDate: Thu, 01 Jan 1970 00:00:00 GMT\r\n\r\nError 404\nHTTP/1.1 501 \r\nContent-Type: text/plain\r\nContent-Length: 10\r\nDate: Thu, 01 Jan 1970 00:00:00 GMT\r\nConnection: close\r\n\r\n");
      took = 229;
      unsent = 0;
      idle_since = 0;
      next_job = None;
      charts = ([]) ∷ [];
    }
unfolding head_text digits date_at count_off is_name_byte
trace_014-connection = refl

trace_014-01-settled : settled trace_014_limits trace_014_rules 0 ((0, opened) ∷ [])
    ≡ trace_014_01
unfolding settled head_text digits date_at count_off is_name_byte trimmed front_length whole_head host_fits head_of verdict_of target_of framed is_utf8 chars encode
trace_014-01-settled = refl

trace_014-03-settled : settled trace_014_limits trace_014_rules 0 ((0, came (codes "PUT / HTTP/1.1\r\nHost: \r\nContent-Length: 50\r\n\r\nxzydxaadaxbdaccayxdacyxxadyaxddczzzddxyyccbzdbxazd")) ∷ trace_014_01)
    ≡ trace_014_03
unfolding settled head_text digits date_at count_off is_name_byte trimmed front_length whole_head host_fits head_of verdict_of target_of framed is_utf8 chars encode
trace_014-03-settled = refl

trace_014-04-settled : settled trace_014_limits trace_014_rules 0 ((0, sent 100) ∷ trace_014_03)
    ≡ trace_014_04
unfolding settled head_text digits date_at count_off is_name_byte trimmed front_length whole_head host_fits head_of verdict_of target_of framed is_utf8 chars encode
trace_014-04-settled = refl

trace_014-05-settled : settled trace_014_limits trace_014_rules 0 ((0, came (codes "HEAD /a HTTP/1.1\r\nX: llllllllllllllllllllllllllllllllllllllll\r\nCookie: x=1; y=2\r\nTransfer-Encoding: chunked\r\nConnection: x, Close\r\nHost: a.b%41\r\n\r\n0;last\r\n\r\n")) ∷ trace_014_04)
    ≡ trace_014_05
unfolding settled head_text digits date_at count_off is_name_byte trimmed front_length whole_head host_fits head_of verdict_of target_of framed is_utf8 chars encode
trace_014-05-settled = refl

trace_014-06-settled : settled trace_014_limits trace_014_rules 0 ((0, sent 129) ∷ trace_014_05)
    ≡ trace_014_06
unfolding settled head_text digits date_at count_off is_name_byte trimmed front_length whole_head host_fits head_of verdict_of target_of framed is_utf8 chars encode
trace_014-06-settled = refl
