-- Traces that another program made, with what it tells of them, computed from the definitions. Made by `cases/rows.py`.
use Rattle.std.proofs.Common.{◌≡◌, true, false, List, [], ◌∷◌, Some, None, codes, refl}
use Rattle.std.specs.Prelude.{pos}
use Rattle.std.specs.Fmt.{digits}
use Rattle.std.specs.Str.{is_utf8, chars}
use lib.Utf8.{encode}
use Rattle.cy_event.specs.declared.framing.Framing.TheVariants as framing
use Rattle.cy_event.specs.declared.limits.Limits.{Limits}
use Rattle.cy_event.specs.declared.steps.Act.TheVariants as act
use Rattle.cy_event.specs.declared.steps.Call.TheVariants as call
use Rattle.cy_event.specs.declared.steps.CloseCause.TheVariants as cause
use Rattle.cy_event.specs.declared.steps.Job.TheVariants as job
use Rattle.cy_event.specs.declared.steps.Reply.TheVariants as reply
use Rattle.cy_event.specs.declared.steps.State.TheVariants as state
use Rattle.cy_event.specs.Answers.{head_text}
use Rattle.cy_event.specs.Dates.{date_at, count_off}
use Rattle.cy_event.specs.Framings.{framed}
use Rattle.cy_event.specs.Heads.{is_name_byte, trimmed, front_length, whole_head, host_fits, head_of}
use Rattle.cy_event.specs.Targets.{target_of}
use Rattle.cy_map.specs.declared.rule.Rule.{Rule}
use Rattle.cy_model.specs.Entries.{on_act, reply_to}
use Rattle.cy_model.specs.Jobs.{next_job}
use Rattle.cy_model.specs.Marks.{Trace, opened, came, sent, began, called, started, back, listened, status_set, field_added, error_answer, over, caused, broken}
use Rattle.cy_model.specs.Replies.{plain}
use Rattle.cy_model.specs.Settling.{settled}
use Rattle.cy_model.specs.Ticks.{tick_move}
use Rattle.cy_model.specs.Verdicts.{verdict_of}
use Rattle.cy_rows.specs.Told.{answer_told, connection_told, request_told}

abbrev trace_055_limits : Limits
trace_055_limits = record { max_connections = 256; max_head = 8192; max_fields = 100; max_keep_alive = pos 100; connection_timeout = 20000; async_timeout = 30000; max_swallow = 2097152; max_trailer = 6; parts = 5 }

abbrev trace_055_rules : List Rule
trace_055_rules = record { pattern = (codes "/*"); part = 4; can_async = true } ∷ record { pattern = (codes "/a"); part = 1; can_async = false } ∷ []

abbrev trace_055_01 : Trace
trace_055_01 = (0, opened) ∷ []

abbrev trace_055_02 : Trace
trace_055_02 = (0, caused cause.BadBody) ∷ (0, began (record { place = 0; size = 145; head = record { method = (codes "GET"); target = (codes "/a%20b;p=1/c"); minor = 1; fields = record { name = (codes "X"); value = (codes "llllllllllllllllllllllllllllllllllllllll") } ∷ record { name = (codes "Host"); value = (codes "localhost:8080") } ∷ record { name = (codes "Expect"); value = (codes "100-continue") } ∷ record { name = (codes "transfer-encoding"); value = (codes "chunked") } ∷ [] }; framing = framing.Chunked; max_trailer = 6; async_timeout = 30000; part = 4; can_async = true; keep = true; go_on = true })) ∷ (0, came (codes "GET /a%20b;p=1/c HTTP/1.1\r\nX: llllllllllllllllllllllllllllllllllllllll\r\nHost: localhost:8080\r\nExpect: 100-continue\r\ntransfer-encoding:chunked\r\n\r\n2\r\nln\r\n0001\r\np\r\n10;x\n1\r\noomppolpmomkoopm\r\n00\r\nT: v\r\n\r\n")) ∷ trace_055_01

abbrev trace_055_03 : Trace
trace_055_03 = (0, called call.Run None) ∷ (0, started (job.Service 4)) ∷ trace_055_02

abbrev trace_055_04 : Trace
trace_055_04 = (0, called call.Start None) ∷ trace_055_03

abbrev trace_055_05 : Trace
trace_055_05 = (0, listened 130) ∷ trace_055_04

abbrev trace_055_06 : Trace
trace_055_06 = (0, called call.Return None) ∷ (0, back) ∷ trace_055_05

abbrev trace_055_08 : Trace
trace_055_08 = (0, sent 17) ∷ trace_055_06

abbrev trace_055_09 : Trace
trace_055_09 = (0, called call.Fault None) ∷ (0, broken) ∷ trace_055_08

abbrev trace_055_10 : Trace
trace_055_10 = (0, started (job.OnError 0 130)) ∷ trace_055_09

abbrev trace_055_15 : Trace
trace_055_15 = (0, status_set 599) ∷ trace_055_10

abbrev trace_055_17 : Trace
trace_055_17 = (0, error_answer 500) ∷ (0, called call.Return None) ∷ (0, back) ∷ trace_055_15

abbrev trace_055_18 : Trace
trace_055_18 = (0, started (job.OnComplete 0 130)) ∷ trace_055_17

abbrev trace_055_19 : Trace
trace_055_19 = (0, field_added (record { name = (codes "X-Sum"); value = [] })) ∷ trace_055_18

abbrev trace_055_20 : Trace
trace_055_20 = (0, over) ∷ (0, error_answer 400) ∷ (0, called call.Return None) ∷ (0, back) ∷ trace_055_19

trace_055-connection : connection_told trace_055_20
    ≡ record {
      came = 199;
      consumed = 165;
      room = 16350;
      has_ended = false;
      cause = (Some cause.BadBody);
      is_broken = true;
      is_gone = true;
      is_open = false;
      begun = 1;
      output = (codes "HTTP/1.1 100 \r\n\r\n");
      took = 17;
      unsent = 0;
      idle_since = 0;
      next_job = None;
      charts = (call.Run ∷ call.Start ∷ call.Return ∷ call.Fault ∷ call.Return ∷ call.Return ∷ []) ∷ [];
    }
unfolding head_text digits date_at count_off is_name_byte
trace_055-connection = refl

trace_055-request : request_told trace_055_20
    ≡ record {
      part = 4;
      state = state.Completing;
      running = None;
      parked = None;
      given = 0;
      is_end_told = false;
      waiting = 0;
      used = 20;
      swallowed = 20;
      has_whole_body = false;
      has_bad_body = true;
      listeners = 130 ∷ [];
      owed = [];
      deadline = (Some 30000);
      ready = record { read_set = false; read_armed = false; all_read_told = false; write_set = false; write_armed = false };
    }
unfolding is_name_byte
trace_055-request = refl

trace_055-answer : answer_told trace_055_20
    ≡ record {
      status = 400;
      fields = record { name = (codes "Content-Type"); value = (codes "text/plain") } ∷ [];
      set_length = None;
      content = 10;
      is_aborted = false;
    }
unfolding digits
trace_055-answer = refl

trace_055-01-settled : settled trace_055_limits trace_055_rules 0 ((0, opened) ∷ [])
    ≡ trace_055_01
unfolding settled head_text digits date_at count_off is_name_byte trimmed front_length whole_head host_fits head_of verdict_of target_of framed is_utf8 chars encode
trace_055-01-settled = refl

trace_055-02-settled : settled trace_055_limits trace_055_rules 0 ((0, came (codes "GET /a%20b;p=1/c HTTP/1.1\r\nX: llllllllllllllllllllllllllllllllllllllll\r\nHost: localhost:8080\r\nExpect: 100-continue\r\ntransfer-encoding:chunked\r\n\r\n2\r\nln\r\n0001\r\np\r\n10;x\n1\r\noomppolpmomkoopm\r\n00\r\nT: v\r\n\r\n")) ∷ trace_055_01)
    ≡ trace_055_02
unfolding settled head_text digits date_at count_off is_name_byte trimmed front_length whole_head host_fits head_of verdict_of target_of framed is_utf8 chars encode
trace_055-02-settled = refl

trace_055-03-next : next_job (trace_055_02)
    ≡ (Some (job.Service 4))
unfolding head_text digits date_at count_off is_name_byte
trace_055-03-next = refl

trace_055-04-settled : settled trace_055_limits trace_055_rules 0 ((0, called call.Start None) ∷ trace_055_03)
    ≡ trace_055_04
unfolding settled head_text digits date_at count_off is_name_byte trimmed front_length whole_head host_fits head_of verdict_of target_of framed is_utf8 chars encode
trace_055-04-settled = refl

trace_055-05-settled : settled trace_055_limits trace_055_rules 0 ((0, listened 130) ∷ trace_055_04)
    ≡ trace_055_05
unfolding settled head_text digits date_at count_off is_name_byte trimmed front_length whole_head host_fits head_of verdict_of target_of framed is_utf8 chars encode
trace_055-05-settled = refl

trace_055-06-settled : settled trace_055_limits trace_055_rules 0 ((0, called call.Return None) ∷ (0, back) ∷ trace_055_05)
    ≡ trace_055_06
unfolding settled head_text digits date_at count_off is_name_byte trimmed front_length whole_head host_fits head_of verdict_of target_of framed is_utf8 chars encode
trace_055-06-settled = refl

trace_055-08-settled : settled trace_055_limits trace_055_rules 0 ((0, sent 17) ∷ trace_055_06)
    ≡ trace_055_08
unfolding settled head_text digits date_at count_off is_name_byte trimmed front_length whole_head host_fits head_of verdict_of target_of framed is_utf8 chars encode
trace_055-08-settled = refl

trace_055-09-settled : settled trace_055_limits trace_055_rules 0 ((0, called call.Fault None) ∷ (0, broken) ∷ trace_055_08)
    ≡ trace_055_09
unfolding settled head_text digits date_at count_off is_name_byte trimmed front_length whole_head host_fits head_of verdict_of target_of framed is_utf8 chars encode
trace_055-09-settled = refl

trace_055-10-next : next_job (trace_055_09)
    ≡ (Some (job.OnError 0 130))
unfolding head_text digits date_at count_off is_name_byte
trace_055-10-next = refl

trace_055-12-tick : tick_move trace_055_limits 0 trace_055_10
    ≡ None
unfolding head_text digits date_at count_off is_name_byte
trace_055-12-tick = refl

trace_055-14-reply : reply_to trace_055_limits trace_055_rules 0 trace_055_10 (on_act (act.Read 8192) [])
    ≡ plain reply.Closed
unfolding reply_to head_text digits date_at count_off is_name_byte
trace_055-14-reply = refl

trace_055-15-settled : settled trace_055_limits trace_055_rules 0 ((0, status_set 599) ∷ trace_055_10)
    ≡ trace_055_15
unfolding settled head_text digits date_at count_off is_name_byte trimmed front_length whole_head host_fits head_of verdict_of target_of framed is_utf8 chars encode
trace_055-15-settled = refl

trace_055-17-settled : settled trace_055_limits trace_055_rules 0 ((0, back) ∷ trace_055_15)
    ≡ trace_055_17
unfolding settled head_text digits date_at count_off is_name_byte trimmed front_length whole_head host_fits head_of verdict_of target_of framed is_utf8 chars encode
trace_055-17-settled = refl

trace_055-18-next : next_job (trace_055_17)
    ≡ (Some (job.OnComplete 0 130))
unfolding head_text digits date_at count_off is_name_byte
trace_055-18-next = refl

trace_055-19-settled : settled trace_055_limits trace_055_rules 0 ((0, field_added (record { name = (codes "X-Sum"); value = [] })) ∷ trace_055_18)
    ≡ trace_055_19
unfolding settled head_text digits date_at count_off is_name_byte trimmed front_length whole_head host_fits head_of verdict_of target_of framed is_utf8 chars encode
trace_055-19-settled = refl

trace_055-20-settled : settled trace_055_limits trace_055_rules 0 ((0, back) ∷ trace_055_19)
    ≡ trace_055_20
unfolding settled head_text digits date_at count_off is_name_byte trimmed front_length whole_head host_fits head_of verdict_of target_of framed is_utf8 chars encode
trace_055-20-settled = refl
