-- Traces that another program made, with what it tells of them, computed from the definitions. Made by `cases/rows.py`.
use Rattle.std.proofs.Common.{◌≡◌, true, false, List, [], ◌∷◌, Some, None, codes, refl}
use Rattle.std.specs.Prelude.{pos}
use Rattle.std.specs.Fmt.{digits}
use Rattle.std.specs.Str.{is_utf8, chars}
use lib.Utf8.{encode}
use Rattle.cy_event.specs.declared.framing.Framing.TheVariants as framing
use Rattle.cy_event.specs.declared.limits.Limits.{Limits}
use Rattle.cy_event.specs.declared.steps.Act.TheVariants as act
use Rattle.cy_event.specs.declared.steps.Call.TheVariants as call
use Rattle.cy_event.specs.declared.steps.Job.TheVariants as job
use Rattle.cy_event.specs.declared.steps.Reply.TheVariants as reply
use Rattle.cy_event.specs.declared.steps.State.TheVariants as state
use Rattle.cy_event.specs.Answers.{head_text}
use Rattle.cy_event.specs.Dates.{date_at, count_off}
use Rattle.cy_event.specs.Framings.{framed}
use Rattle.cy_event.specs.Heads.{is_name_byte, trimmed, front_length, whole_head, host_fits, head_of}
use Rattle.cy_event.specs.Targets.{target_of}
use Rattle.cy_map.specs.declared.rule.Rule.{Rule}
use Rattle.cy_model.specs.Entries.{on_act, reply_to}
use Rattle.cy_model.specs.Jobs.{next_job}
use Rattle.cy_model.specs.Marks.{Trace, opened, ended, came, sent, began, called, started, back, end_given, timeout_set, read_listener_set, status_set, length_set, put}
use Rattle.cy_model.specs.Replies.{plain}
use Rattle.cy_model.specs.Settling.{settled}
use Rattle.cy_model.specs.Verdicts.{verdict_of}
use Rattle.cy_rows.specs.Told.{answer_told, connection_told, open_told, request_told}

abbrev trace_035_limits : Limits
trace_035_limits = record { max_connections = 256; max_head = 8192; max_fields = 100; max_keep_alive = pos 100; connection_timeout = 20000; async_timeout = 30000; max_swallow = 2097152; max_trailer = 8192; parts = 3 }

abbrev trace_035_rules : List Rule
trace_035_rules = record { pattern = (codes "/"); part = 0; can_async = true } ∷ record { pattern = (codes "/a"); part = 1; can_async = true } ∷ record { pattern = (codes "/x/*"); part = 2; can_async = false } ∷ []

abbrev trace_035_01 : Trace
trace_035_01 = (0, opened) ∷ []

abbrev trace_035_02 : Trace
trace_035_02 = (0, sent 0) ∷ trace_035_01

abbrev trace_035_04 : Trace
trace_035_04 = (0, began (record { place = 0; size = 27; head = record { method = (codes "GET"); target = (codes "/"); minor = 1; fields = record { name = (codes "Host"); value = (codes "a") } ∷ [] }; framing = framing.None; max_trailer = 8192; async_timeout = 30000; part = 0; can_async = true; keep = true; go_on = false })) ∷ (0, came (codes "GET / HTTP/1.1\r\nHost: a\r\n\r\n")) ∷ trace_035_02

abbrev trace_035_05 : Trace
trace_035_05 = (0, came (codes "GET / HTTP/1.1\r\nHost: a\r\n\r\n")) ∷ trace_035_04

abbrev trace_035_06 : Trace
trace_035_06 = (0, came (codes "POST / HTTP/1.1\r\nTransfer-Encoding: Chunked\r\nHost: a\r\n\r\n")) ∷ trace_035_05

abbrev trace_035_07 : Trace
trace_035_07 = (0, called call.Run None) ∷ (0, started (job.Service 0)) ∷ trace_035_06

abbrev trace_035_09 : Trace
trace_035_09 = (0, put []) ∷ trace_035_07

abbrev trace_035_10 : Trace
trace_035_10 = (0, called call.Start None) ∷ trace_035_09

abbrev trace_035_11 : Trace
trace_035_11 = (0, timeout_set 5) ∷ trace_035_10

abbrev trace_035_12 : Trace
trace_035_12 = (0, end_given) ∷ trace_035_11

abbrev trace_035_13 : Trace
trace_035_13 = (0, read_listener_set) ∷ trace_035_12

abbrev trace_035_15 : Trace
trace_035_15 = (0, put (codes "ccccc")) ∷ trace_035_13

abbrev trace_035_16 : Trace
trace_035_16 = (0, called call.Return None) ∷ (0, back) ∷ trace_035_15

abbrev trace_035_17 : Trace
trace_035_17 = (0, called call.Fault None) ∷ trace_035_16

abbrev trace_035_18 : Trace
trace_035_18 = (0, started job.ReadError) ∷ trace_035_17

abbrev trace_035_19 : Trace
trace_035_19 = (0, put (codes "\r")) ∷ trace_035_18

abbrev trace_035_20 : Trace
trace_035_20 = (0, end_given) ∷ trace_035_19

abbrev trace_035_21 : Trace
trace_035_21 = (0, ended) ∷ trace_035_20

abbrev trace_035_22 : Trace
trace_035_22 = (0, status_set 204) ∷ trace_035_21

abbrev trace_035_23 : Trace
trace_035_23 = (0, length_set 12) ∷ trace_035_22

abbrev trace_035_24 : Trace
trace_035_24 = (0, length_set 9) ∷ trace_035_23

abbrev trace_035_26 : Trace
trace_035_26 = (0, called call.DispatchOwn (Some 1)) ∷ trace_035_24

abbrev trace_035_27 : Trace
trace_035_27 = (0, end_given) ∷ trace_035_26

abbrev trace_035_28 : Trace
trace_035_28 = (0, back) ∷ trace_035_27

trace_035-connection : connection_told trace_035_28
    ≡ record {
      came = 110;
      consumed = 27;
      room = 16301;
      has_ended = true;
      cause = None;
      is_broken = false;
      is_gone = false;
      is_open = true;
      begun = 1;
      output = [];
      took = 0;
      unsent = 0;
      idle_since = 0;
      next_job = (Some (job.Again 1));
      charts = (call.Run ∷ call.Start ∷ call.Return ∷ call.Fault ∷ call.DispatchOwn ∷ []) ∷ [];
    }
unfolding head_text digits date_at count_off is_name_byte
trace_035-connection = refl

trace_035-request : request_told trace_035_28
    ≡ record {
      part = 1;
      state = state.Dispatching;
      running = None;
      parked = None;
      given = 0;
      is_end_told = true;
      waiting = 0;
      used = 0;
      swallowed = 0;
      has_whole_body = true;
      has_bad_body = false;
      listeners = [];
      owed = [];
      deadline = (Some 5);
      ready = record { read_set = true; read_armed = true; all_read_told = false; write_set = false; write_armed = false };
    }
unfolding is_name_byte
trace_035-request = refl

trace_035-answer : answer_told trace_035_28
    ≡ record {
      status = 204;
      fields = [];
      set_length = (Some 9);
      content = 6;
      is_aborted = false;
    }
unfolding digits
trace_035-answer = refl

trace_035-open : open_told trace_035_28
    ≡ record {
      is_committed = false;
      takes_one = true;
      has_to_cut = true;
    }
unfolding head_text digits date_at count_off is_name_byte
trace_035-open = refl

trace_035-01-settled : settled trace_035_limits trace_035_rules 0 ((0, opened) ∷ [])
    ≡ trace_035_01
unfolding settled head_text digits date_at count_off is_name_byte trimmed front_length whole_head host_fits head_of verdict_of target_of framed is_utf8 chars encode
trace_035-01-settled = refl

trace_035-02-settled : settled trace_035_limits trace_035_rules 0 ((0, sent 0) ∷ trace_035_01)
    ≡ trace_035_02
unfolding settled head_text digits date_at count_off is_name_byte trimmed front_length whole_head host_fits head_of verdict_of target_of framed is_utf8 chars encode
trace_035-02-settled = refl

trace_035-04-settled : settled trace_035_limits trace_035_rules 0 ((0, came (codes "GET / HTTP/1.1\r\nHost: a\r\n\r\n")) ∷ trace_035_02)
    ≡ trace_035_04
unfolding settled head_text digits date_at count_off is_name_byte trimmed front_length whole_head host_fits head_of verdict_of target_of framed is_utf8 chars encode
trace_035-04-settled = refl

trace_035-05-settled : settled trace_035_limits trace_035_rules 0 ((0, came (codes "GET / HTTP/1.1\r\nHost: a\r\n\r\n")) ∷ trace_035_04)
    ≡ trace_035_05
unfolding settled head_text digits date_at count_off is_name_byte trimmed front_length whole_head host_fits head_of verdict_of target_of framed is_utf8 chars encode
trace_035-05-settled = refl

trace_035-06-settled : settled trace_035_limits trace_035_rules 0 ((0, came (codes "POST / HTTP/1.1\r\nTransfer-Encoding: Chunked\r\nHost: a\r\n\r\n")) ∷ trace_035_05)
    ≡ trace_035_06
unfolding settled head_text digits date_at count_off is_name_byte trimmed front_length whole_head host_fits head_of verdict_of target_of framed is_utf8 chars encode
trace_035-06-settled = refl

trace_035-07-next : next_job (trace_035_06)
    ≡ (Some (job.Service 0))
unfolding head_text digits date_at count_off is_name_byte
trace_035-07-next = refl

trace_035-09-settled : settled trace_035_limits trace_035_rules 0 ((0, put []) ∷ trace_035_07)
    ≡ trace_035_09
unfolding settled head_text digits date_at count_off is_name_byte trimmed front_length whole_head host_fits head_of verdict_of target_of framed is_utf8 chars encode
trace_035-09-settled = refl

trace_035-10-settled : settled trace_035_limits trace_035_rules 0 ((0, called call.Start None) ∷ trace_035_09)
    ≡ trace_035_10
unfolding settled head_text digits date_at count_off is_name_byte trimmed front_length whole_head host_fits head_of verdict_of target_of framed is_utf8 chars encode
trace_035-10-settled = refl

trace_035-11-settled : settled trace_035_limits trace_035_rules 0 ((0, timeout_set 5) ∷ trace_035_10)
    ≡ trace_035_11
unfolding settled head_text digits date_at count_off is_name_byte trimmed front_length whole_head host_fits head_of verdict_of target_of framed is_utf8 chars encode
trace_035-11-settled = refl

trace_035-12-reply : reply_to trace_035_limits trace_035_rules 0 trace_035_11 (on_act (act.Read 100) [])
    ≡ plain reply.GotEnd
unfolding reply_to head_text digits date_at count_off is_name_byte
trace_035-12-reply = refl

trace_035-12-settled : settled trace_035_limits trace_035_rules 0 ((0, end_given) ∷ trace_035_11)
    ≡ trace_035_12
unfolding settled head_text digits date_at count_off is_name_byte trimmed front_length whole_head host_fits head_of verdict_of target_of framed is_utf8 chars encode
trace_035-12-settled = refl

trace_035-13-settled : settled trace_035_limits trace_035_rules 0 ((0, read_listener_set) ∷ trace_035_12)
    ≡ trace_035_13
unfolding settled head_text digits date_at count_off is_name_byte trimmed front_length whole_head host_fits head_of verdict_of target_of framed is_utf8 chars encode
trace_035-13-settled = refl

trace_035-15-settled : settled trace_035_limits trace_035_rules 0 ((0, put (codes "ccccc")) ∷ trace_035_13)
    ≡ trace_035_15
unfolding settled head_text digits date_at count_off is_name_byte trimmed front_length whole_head host_fits head_of verdict_of target_of framed is_utf8 chars encode
trace_035-15-settled = refl

trace_035-16-settled : settled trace_035_limits trace_035_rules 0 ((0, called call.Return None) ∷ (0, back) ∷ trace_035_15)
    ≡ trace_035_16
unfolding settled head_text digits date_at count_off is_name_byte trimmed front_length whole_head host_fits head_of verdict_of target_of framed is_utf8 chars encode
trace_035-16-settled = refl

trace_035-18-next : next_job (trace_035_17)
    ≡ (Some job.ReadError)
unfolding head_text digits date_at count_off is_name_byte
trace_035-18-next = refl

trace_035-19-settled : settled trace_035_limits trace_035_rules 0 ((0, put (codes "\r")) ∷ trace_035_18)
    ≡ trace_035_19
unfolding settled head_text digits date_at count_off is_name_byte trimmed front_length whole_head host_fits head_of verdict_of target_of framed is_utf8 chars encode
trace_035-19-settled = refl

trace_035-20-reply : reply_to trace_035_limits trace_035_rules 0 trace_035_19 (on_act (act.Read 100) [])
    ≡ plain reply.GotEnd
unfolding reply_to head_text digits date_at count_off is_name_byte
trace_035-20-reply = refl

trace_035-20-settled : settled trace_035_limits trace_035_rules 0 ((0, end_given) ∷ trace_035_19)
    ≡ trace_035_20
unfolding settled head_text digits date_at count_off is_name_byte trimmed front_length whole_head host_fits head_of verdict_of target_of framed is_utf8 chars encode
trace_035-20-settled = refl

trace_035-21-settled : settled trace_035_limits trace_035_rules 0 ((0, ended) ∷ trace_035_20)
    ≡ trace_035_21
unfolding settled head_text digits date_at count_off is_name_byte trimmed front_length whole_head host_fits head_of verdict_of target_of framed is_utf8 chars encode
trace_035-21-settled = refl

trace_035-22-settled : settled trace_035_limits trace_035_rules 0 ((0, status_set 204) ∷ trace_035_21)
    ≡ trace_035_22
unfolding settled head_text digits date_at count_off is_name_byte trimmed front_length whole_head host_fits head_of verdict_of target_of framed is_utf8 chars encode
trace_035-22-settled = refl

trace_035-23-settled : settled trace_035_limits trace_035_rules 0 ((0, length_set 12) ∷ trace_035_22)
    ≡ trace_035_23
unfolding settled head_text digits date_at count_off is_name_byte trimmed front_length whole_head host_fits head_of verdict_of target_of framed is_utf8 chars encode
trace_035-23-settled = refl

trace_035-24-settled : settled trace_035_limits trace_035_rules 0 ((0, length_set 9) ∷ trace_035_23)
    ≡ trace_035_24
unfolding settled head_text digits date_at count_off is_name_byte trimmed front_length whole_head host_fits head_of verdict_of target_of framed is_utf8 chars encode
trace_035-24-settled = refl

trace_035-26-settled : settled trace_035_limits trace_035_rules 0 ((0, called call.DispatchOwn (Some 1)) ∷ trace_035_24)
    ≡ trace_035_26
unfolding settled head_text digits date_at count_off is_name_byte trimmed front_length whole_head host_fits head_of verdict_of target_of framed is_utf8 chars encode
trace_035-26-settled = refl

trace_035-27-reply : reply_to trace_035_limits trace_035_rules 0 trace_035_26 (on_act (act.Read 1) [])
    ≡ plain reply.GotEnd
unfolding reply_to head_text digits date_at count_off is_name_byte
trace_035-27-reply = refl

trace_035-27-settled : settled trace_035_limits trace_035_rules 0 ((0, end_given) ∷ trace_035_26)
    ≡ trace_035_27
unfolding settled head_text digits date_at count_off is_name_byte trimmed front_length whole_head host_fits head_of verdict_of target_of framed is_utf8 chars encode
trace_035-27-settled = refl

trace_035-28-settled : settled trace_035_limits trace_035_rules 0 ((0, back) ∷ trace_035_27)
    ≡ trace_035_28
unfolding settled head_text digits date_at count_off is_name_byte trimmed front_length whole_head host_fits head_of verdict_of target_of framed is_utf8 chars encode
trace_035-28-settled = refl
