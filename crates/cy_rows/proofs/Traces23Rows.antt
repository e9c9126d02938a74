-- Traces that another program made, with what it tells of them, computed from the definitions. Made by `cases/rows.py`.
use Rattle.std.proofs.Common.{◌≡◌, true, false, List, [], ◌∷◌, Some, None, codes, refl}
use Rattle.std.specs.Prelude.{pos}
use Rattle.std.specs.Fmt.{digits}
use Rattle.std.specs.Str.{is_utf8, chars}
use lib.Utf8.{encode}
use Rattle.cy_event.specs.declared.framing.Framing.TheVariants as framing
use Rattle.cy_event.specs.declared.limits.Limits.{Limits}
use Rattle.cy_event.specs.declared.steps.Act.TheVariants as act
use Rattle.cy_event.specs.declared.steps.Call.TheVariants as call
use Rattle.cy_event.specs.declared.steps.Job.TheVariants as job
use Rattle.cy_event.specs.declared.steps.Reply.TheVariants as reply
use Rattle.cy_event.specs.declared.steps.State.TheVariants as state
use Rattle.cy_event.specs.Answers.{head_text}
use Rattle.cy_event.specs.Dates.{date_at, count_off}
use Rattle.cy_event.specs.Framings.{framed}
use Rattle.cy_event.specs.Heads.{is_name_byte, trimmed, front_length, whole_head, host_fits, head_of}
use Rattle.cy_event.specs.Targets.{target_of}
use Rattle.cy_map.specs.declared.rule.Rule.{Rule}
use Rattle.cy_model.specs.Entries.{on_act, reply_to}
use Rattle.cy_model.specs.Jobs.{next_job}
use Rattle.cy_model.specs.Marks.{Trace, opened, came, sent, began, called, started, back, end_given, listened, timeout_set, read_listener_set, write_listener_set, field_added, put, flushed, aborted}
use Rattle.cy_model.specs.Replies.{plain}
use Rattle.cy_model.specs.Settling.{settled}
use Rattle.cy_model.specs.Verdicts.{verdict_of}
use Rattle.cy_rows.specs.Told.{answer_told, connection_told, open_told, request_told}

abbrev trace_098_limits : Limits
trace_098_limits = record { max_connections = 3; max_head = 8192; max_fields = 100; max_keep_alive = pos 100; connection_timeout = 20000; async_timeout = 30000; max_swallow = 2097152; max_trailer = 8192; parts = 3 }

abbrev trace_098_rules : List Rule
trace_098_rules = record { pattern = (codes "/a"); part = 1; can_async = true } ∷ record { pattern = (codes "/x/*"); part = 2; can_async = false } ∷ record { pattern = (codes "/"); part = 0; can_async = true } ∷ []

abbrev trace_098_01 : Trace
trace_098_01 = (0, opened) ∷ []

abbrev trace_098_02 : Trace
trace_098_02 = (0, began (record { place = 0; size = 27; head = record { method = (codes "GET"); target = (codes "/"); minor = 1; fields = record { name = (codes "Host"); value = (codes "a") } ∷ [] }; framing = framing.None; max_trailer = 8192; async_timeout = 30000; part = 0; can_async = true; keep = true; go_on = false })) ∷ (0, came (codes "GET / HTTP/1.1\r\nHost: a\r\n\r\n")) ∷ trace_098_01

abbrev trace_098_03 : Trace
trace_098_03 = (0, called call.Run None) ∷ (0, started (job.Service 0)) ∷ trace_098_02

abbrev trace_098_05 : Trace
trace_098_05 = (0, called call.Start None) ∷ trace_098_03

abbrev trace_098_06 : Trace
trace_098_06 = (0, write_listener_set) ∷ trace_098_05

abbrev trace_098_07 : Trace
trace_098_07 = (0, read_listener_set) ∷ trace_098_06

abbrev trace_098_08 : Trace
trace_098_08 = (0, timeout_set 100) ∷ trace_098_07

abbrev trace_098_09 : Trace
trace_098_09 = (0, listened 240) ∷ trace_098_08

abbrev trace_098_10 : Trace
trace_098_10 = (0, called call.Return None) ∷ (0, back) ∷ trace_098_09

abbrev trace_098_11 : Trace
trace_098_11 = (0, called call.Run None) ∷ (0, started job.AllRead) ∷ trace_098_10

abbrev trace_098_12 : Trace
trace_098_12 = (0, field_added (record { name = (codes "A"); value = (codes "xxxxxxxxxxxxxxxxxxxxxxxxxxxxxxxxxxxxxxxxxxxxxxxxxxxxxxxxxxxx") })) ∷ trace_098_11

abbrev trace_098_13 : Trace
trace_098_13 = (0, called call.Return None) ∷ (0, back) ∷ trace_098_12

abbrev trace_098_14 : Trace
trace_098_14 = (0, flushed) ∷ trace_098_13

abbrev trace_098_15 : Trace
trace_098_15 = (0, put (codes "\n\n\n\n\n")) ∷ trace_098_14

abbrev trace_098_16 : Trace
trace_098_16 = (0, called call.Run None) ∷ (0, started job.Writable) ∷ trace_098_15

abbrev trace_098_18 : Trace
trace_098_18 = (0, end_given) ∷ trace_098_16

abbrev trace_098_20 : Trace
trace_098_20 = (0, end_given) ∷ trace_098_18

abbrev trace_098_23 : Trace
trace_098_23 = (0, put (255 ∷ [])) ∷ trace_098_20

abbrev trace_098_25 : Trace
trace_098_25 = (0, aborted) ∷ (0, called call.Fail None) ∷ (0, back) ∷ trace_098_23

abbrev trace_098_26 : Trace
trace_098_26 = (0, came (codes "GET / HTTP/1.1\r\nHost: a\r\n\r\nGET / HTTP/1.1\r\nHost: a\r\n\r\n")) ∷ trace_098_25

abbrev trace_098_27 : Trace
trace_098_27 = (0, sent 147) ∷ trace_098_26

abbrev trace_098_28 : Trace
trace_098_28 = (0, started job.ReadError) ∷ trace_098_27

abbrev trace_098_30 : Trace
trace_098_30 = (0, put (codes "             ")) ∷ trace_098_28

trace_098-connection : connection_told trace_098_30
    ≡ record {
      came = 81;
      consumed = 27;
      room = 16330;
      has_ended = false;
      cause = None;
      is_broken = false;
      is_gone = false;
      is_open = true;
      begun = 1;
      output = (codes "HTTP/1.1 200 \r\nA: xxxxxxxxxxxxxxxxxxxxxxxxxxxxxxxxxxxxxxxxxxxxxxxxxxxxxxxxxxxx\r\nTransfer-Encoding: chunked\r\nDate: Thu, 01 Jan 1970 00:00:00 GMT\r\n\r\n");
      took = 147;
      unsent = 0;
      idle_since = 0;
      next_job = None;
      charts = (call.Run ∷ call.Start ∷ call.Return ∷ call.Run ∷ call.Return ∷ call.Run ∷ call.Fail ∷ []) ∷ [];
    }
unfolding head_text digits date_at count_off is_name_byte
trace_098-connection = refl

trace_098-request : request_told trace_098_30
    ≡ record {
      part = 0;
      state = state.Error;
      running = (Some job.ReadError);
      parked = None;
      given = 0;
      is_end_told = true;
      waiting = 0;
      used = 0;
      swallowed = 0;
      has_whole_body = true;
      has_bad_body = false;
      listeners = 240 ∷ [];
      owed = job.WriteError ∷ (job.OnError 0 240) ∷ [];
      deadline = (Some 100);
      ready = record { read_set = true; read_armed = true; all_read_told = true; write_set = true; write_armed = false };
    }
unfolding is_name_byte
trace_098-request = refl

trace_098-answer : answer_told trace_098_30
    ≡ record {
      status = 200;
      fields = record { name = (codes "A"); value = (codes "xxxxxxxxxxxxxxxxxxxxxxxxxxxxxxxxxxxxxxxxxxxxxxxxxxxxxxxxxxxx") } ∷ [];
      set_length = None;
      content = 19;
      is_aborted = true;
    }
unfolding digits
trace_098-answer = refl

trace_098-open : open_told trace_098_30
    ≡ record {
      is_committed = true;
      takes_one = true;
      has_to_cut = true;
    }
unfolding head_text digits date_at count_off is_name_byte
trace_098-open = refl

trace_098-01-settled : settled trace_098_limits trace_098_rules 0 ((0, opened) ∷ [])
    ≡ trace_098_01
unfolding settled head_text digits date_at count_off is_name_byte trimmed front_length whole_head host_fits head_of verdict_of target_of framed is_utf8 chars encode
trace_098-01-settled = refl

trace_098-02-settled : settled trace_098_limits trace_098_rules 0 ((0, came (codes "GET / HTTP/1.1\r\nHost: a\r\n\r\n")) ∷ trace_098_01)
    ≡ trace_098_02
unfolding settled head_text digits date_at count_off is_name_byte trimmed front_length whole_head host_fits head_of verdict_of target_of framed is_utf8 chars encode
trace_098-02-settled = refl

trace_098-03-next : next_job (trace_098_02)
    ≡ (Some (job.Service 0))
unfolding head_text digits date_at count_off is_name_byte
trace_098-03-next = refl

trace_098-05-settled : settled trace_098_limits trace_098_rules 0 ((0, called call.Start None) ∷ trace_098_03)
    ≡ trace_098_05
unfolding settled head_text digits date_at count_off is_name_byte trimmed front_length whole_head host_fits head_of verdict_of target_of framed is_utf8 chars encode
trace_098-05-settled = refl

trace_098-06-settled : settled trace_098_limits trace_098_rules 0 ((0, write_listener_set) ∷ trace_098_05)
    ≡ trace_098_06
unfolding settled head_text digits date_at count_off is_name_byte trimmed front_length whole_head host_fits head_of verdict_of target_of framed is_utf8 chars encode
trace_098-06-settled = refl

trace_098-07-settled : settled trace_098_limits trace_098_rules 0 ((0, read_listener_set) ∷ trace_098_06)
    ≡ trace_098_07
unfolding settled head_text digits date_at count_off is_name_byte trimmed front_length whole_head host_fits head_of verdict_of target_of framed is_utf8 chars encode
trace_098-07-settled = refl

trace_098-08-settled : settled trace_098_limits trace_098_rules 0 ((0, timeout_set 100) ∷ trace_098_07)
    ≡ trace_098_08
unfolding settled head_text digits date_at count_off is_name_byte trimmed front_length whole_head host_fits head_of verdict_of target_of framed is_utf8 chars encode
trace_098-08-settled = refl

trace_098-09-settled : settled trace_098_limits trace_098_rules 0 ((0, listened 240) ∷ trace_098_08)
    ≡ trace_098_09
unfolding settled head_text digits date_at count_off is_name_byte trimmed front_length whole_head host_fits head_of verdict_of target_of framed is_utf8 chars encode
trace_098-09-settled = refl

trace_098-10-settled : settled trace_098_limits trace_098_rules 0 ((0, called call.Return None) ∷ (0, back) ∷ trace_098_09)
    ≡ trace_098_10
unfolding settled head_text digits date_at count_off is_name_byte trimmed front_length whole_head host_fits head_of verdict_of target_of framed is_utf8 chars encode
trace_098-10-settled = refl

trace_098-11-next : next_job (trace_098_10)
    ≡ (Some job.AllRead)
unfolding head_text digits date_at count_off is_name_byte
trace_098-11-next = refl

trace_098-12-settled : settled trace_098_limits trace_098_rules 0 ((0, field_added (record { name = (codes "A"); value = (codes "xxxxxxxxxxxxxxxxxxxxxxxxxxxxxxxxxxxxxxxxxxxxxxxxxxxxxxxxxxxx") })) ∷ trace_098_11)
    ≡ trace_098_12
unfolding settled head_text digits date_at count_off is_name_byte trimmed front_length whole_head host_fits head_of verdict_of target_of framed is_utf8 chars encode
trace_098-12-settled = refl

trace_098-13-settled : settled trace_098_limits trace_098_rules 0 ((0, called call.Return None) ∷ (0, back) ∷ trace_098_12)
    ≡ trace_098_13
unfolding settled head_text digits date_at count_off is_name_byte trimmed front_length whole_head host_fits head_of verdict_of target_of framed is_utf8 chars encode
trace_098-13-settled = refl

trace_098-16-next : next_job (trace_098_15)
    ≡ (Some job.Writable)
unfolding head_text digits date_at count_off is_name_byte
trace_098-16-next = refl

trace_098-18-reply : reply_to trace_098_limits trace_098_rules 0 trace_098_16 (on_act (act.Read 8192) [])
    ≡ plain reply.GotEnd
unfolding reply_to head_text digits date_at count_off is_name_byte
trace_098-18-reply = refl

trace_098-18-settled : settled trace_098_limits trace_098_rules 0 ((0, end_given) ∷ trace_098_16)
    ≡ trace_098_18
unfolding settled head_text digits date_at count_off is_name_byte trimmed front_length whole_head host_fits head_of verdict_of target_of framed is_utf8 chars encode
trace_098-18-settled = refl

trace_098-23-settled : settled trace_098_limits trace_098_rules 0 ((0, put (255 ∷ [])) ∷ trace_098_20)
    ≡ trace_098_23
unfolding settled head_text digits date_at count_off is_name_byte trimmed front_length whole_head host_fits head_of verdict_of target_of framed is_utf8 chars encode
trace_098-23-settled = refl

trace_098-25-settled : settled trace_098_limits trace_098_rules 0 ((0, aborted) ∷ (0, called call.Fail None) ∷ (0, back) ∷ trace_098_23)
    ≡ trace_098_25
unfolding settled head_text digits date_at count_off is_name_byte trimmed front_length whole_head host_fits head_of verdict_of target_of framed is_utf8 chars encode
trace_098-25-settled = refl

trace_098-26-settled : settled trace_098_limits trace_098_rules 0 ((0, came (codes "GET / HTTP/1.1\r\nHost: a\r\n\r\nGET / HTTP/1.1\r\nHost: a\r\n\r\n")) ∷ trace_098_25)
    ≡ trace_098_26
unfolding settled head_text digits date_at count_off is_name_byte trimmed front_length whole_head host_fits head_of verdict_of target_of framed is_utf8 chars encode
trace_098-26-settled = refl

trace_098-27-settled : settled trace_098_limits trace_098_rules 0 ((0, sent 147) ∷ trace_098_26)
    ≡ trace_098_27
unfolding settled head_text digits date_at count_off is_name_byte trimmed front_length whole_head host_fits head_of verdict_of target_of framed is_utf8 chars encode
trace_098-27-settled = refl

trace_098-28-next : next_job (trace_098_27)
    ≡ (Some job.ReadError)
unfolding head_text digits date_at count_off is_name_byte
trace_098-28-next = refl

trace_098-30-settled : settled trace_098_limits trace_098_rules 0 ((0, put (codes "             ")) ∷ trace_098_28)
    ≡ trace_098_30
unfolding settled head_text digits date_at count_off is_name_byte trimmed front_length whole_head host_fits head_of verdict_of target_of framed is_utf8 chars encode
trace_098-30-settled = refl
