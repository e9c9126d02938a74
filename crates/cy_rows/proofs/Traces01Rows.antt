-- Traces that another program made, with what it tells of them, computed from the definitions. Made by `cases/rows.py`.
use Rattle.std.proofs.Common.{◌≡◌, true, false, List, [], ◌∷◌, Some, None, codes, refl}
use Rattle.std.specs.Prelude.{pos}
use Rattle.std.specs.Fmt.{digits}
use Rattle.std.specs.Str.{is_utf8, chars}
use lib.Utf8.{encode}
use Rattle.cy_event.specs.declared.framing.Framing.TheVariants as framing
use Rattle.cy_event.specs.declared.limits.Limits.{Limits}
use Rattle.cy_event.specs.declared.steps.Act.TheVariants as act
use Rattle.cy_event.specs.declared.steps.Call.TheVariants as call
use Rattle.cy_event.specs.declared.steps.CloseCause.TheVariants as cause
use Rattle.cy_event.specs.declared.steps.Job.TheVariants as job
use Rattle.cy_event.specs.declared.steps.Reply.TheVariants as reply
use Rattle.cy_event.specs.declared.steps.State.TheVariants as state
use Rattle.cy_event.specs.Answers.{head_text}
use Rattle.cy_event.specs.Dates.{date_at, count_off}
use Rattle.cy_event.specs.Framings.{framed}
use Rattle.cy_event.specs.Heads.{is_name_byte, trimmed, front_length, whole_head, host_fits, head_of}
use Rattle.cy_event.specs.Targets.{target_of}
use Rattle.cy_map.specs.declared.rule.Rule.{Rule}
use Rattle.cy_model.specs.Entries.{on_act, reply_to}
use Rattle.cy_model.specs.Jobs.{next_job}
use Rattle.cy_model.specs.Marks.{Trace, input_side, opened, ended, came, sent, began, called, started, parked, back, given, read_listener_set, write_listener_set, answer_reset, caused}
use Rattle.cy_model.specs.Settling.{settled}
use Rattle.cy_model.specs.Ticks.{tick_move}
use Rattle.cy_model.specs.Verdicts.{verdict_of}
use Rattle.cy_rows.specs.Told.{answer_told, connection_told, open_told, request_told}

abbrev trace_004_limits : Limits
trace_004_limits = record { max_connections = 256; max_head = 257; max_fields = 100; max_keep_alive = pos 1; connection_timeout = 1000; async_timeout = 30000; max_swallow = 2097152; max_trailer = 8192; parts = 3 }

abbrev trace_004_rules : List Rule
trace_004_rules = record { pattern = (codes "/"); part = 0; can_async = true } ∷ record { pattern = (codes "/a"); part = 1; can_async = true } ∷ record { pattern = (codes "/x/*"); part = 2; can_async = false } ∷ []

abbrev trace_004_01 : Trace
trace_004_01 = (0, opened) ∷ []

abbrev trace_004_02 : Trace
trace_004_02 = (0, began (record { place = 0; size = 76; head = record { method = (codes "POST"); target = (codes "/b"); minor = 0; fields = record { name = (codes "Host"); value = (codes "a") } ∷ record { name = (codes "Connection"); value = (codes "keep-alive") } ∷ record { name = (codes "Content-Length"); value = (codes "20000") } ∷ [] }; framing = (framing.Length 20000); max_trailer = 8192; async_timeout = 30000; part = 0; can_async = true; keep = false; go_on = false })) ∷ (0, came (codes "POST /b HTTP/1.0\r\nHost: a\r\nConnection: keep-alive\r\nContent-Length: 20000\r\n\r\n")) ∷ trace_004_01

abbrev trace_004_03 : Trace
trace_004_03 = (0, called call.Run None) ∷ (0, started (job.Service 0)) ∷ trace_004_02

abbrev trace_004_04 : Trace
trace_004_04 = (0, called call.Start None) ∷ trace_004_03

abbrev trace_004_05 : Trace
trace_004_05 = (0, read_listener_set) ∷ trace_004_04

abbrev trace_004_06 : Trace
trace_004_06 = (0, write_listener_set) ∷ trace_004_05

abbrev trace_004_07 : Trace
trace_004_07 = (0, called call.Return None) ∷ (0, back) ∷ trace_004_06

abbrev trace_004_08 : Trace
trace_004_08 = (0, came (codes "zazzddxazcxyzxbbcyxx")) ∷ trace_004_07

abbrev trace_004_09 : Trace
trace_004_09 = (0, called call.Run None) ∷ (0, started job.Readable) ∷ trace_004_08

abbrev trace_004_10 : Trace
trace_004_10 = (0, given 5) ∷ trace_004_09

abbrev trace_004_12 : Trace
trace_004_12 = (0, called call.Return None) ∷ (0, back) ∷ trace_004_10

abbrev trace_004_13 : Trace
trace_004_13 = (0, called call.Run None) ∷ (0, started job.Writable) ∷ trace_004_12

abbrev trace_004_14 : Trace
trace_004_14 = (0, given 1) ∷ trace_004_13

abbrev trace_004_15 : Trace
trace_004_15 = (0, answer_reset) ∷ trace_004_14

abbrev trace_004_17 : Trace
trace_004_17 = (0, called call.Return None) ∷ (0, back) ∷ trace_004_15

abbrev trace_004_18 : Trace
trace_004_18 = (0, called call.Fault None) ∷ (0, caused cause.InputEnd) ∷ (0, ended) ∷ trace_004_17

abbrev trace_004_19 : Trace
trace_004_19 = (0, called call.DispatchOther (Some 1)) ∷ trace_004_18

abbrev trace_004_20 : Trace
trace_004_20 = (0, started job.ReadError) ∷ trace_004_19

abbrev trace_004_21 : Trace
trace_004_21 = (0, back) ∷ trace_004_20

abbrev trace_004_22 : Trace
trace_004_22 = (0, sent 0) ∷ trace_004_21

abbrev trace_004_24 : Trace
trace_004_24 = (0, started job.WriteError) ∷ trace_004_22

abbrev trace_004_26 : Trace
trace_004_26 = (0, back) ∷ trace_004_24

abbrev trace_004_27 : Trace
trace_004_27 = (0, sent 0) ∷ trace_004_26

abbrev trace_004_28 : Trace
trace_004_28 = (0, called call.Run None) ∷ (0, started (job.Again 1)) ∷ trace_004_27

abbrev trace_004_29 : Trace
trace_004_29 = (0, parked input_side) ∷ trace_004_28

trace_004-connection : connection_told trace_004_29
    ≡ record {
      came = 96;
      consumed = 82;
      room = 16370;
      has_ended = true;
      cause = (Some cause.InputEnd);
      is_broken = false;
      is_gone = false;
      is_open = true;
      begun = 1;
      output = [];
      took = 0;
      unsent = 0;
      idle_since = 0;
      next_job = (Some job.Resume);
      charts = (call.Run ∷ call.Start ∷ call.Return ∷ call.Run ∷ call.Return ∷ call.Run ∷ call.Return ∷ call.Fault ∷ call.DispatchOther ∷ call.Run ∷ []) ∷ [];
    }
unfolding head_text digits date_at count_off is_name_byte
trace_004-connection = refl

trace_004-request : request_told trace_004_29
    ≡ record {
      part = 1;
      state = state.Dispatched;
      running = None;
      parked = (Some (record { side = input_side; since = 0 }));
      given = 6;
      is_end_told = false;
      waiting = 14;
      used = 6;
      swallowed = 0;
      has_whole_body = false;
      has_bad_body = false;
      listeners = [];
      owed = [];
      deadline = (Some 30000);
      ready = record { read_set = false; read_armed = false; all_read_told = false; write_set = false; write_armed = false };
    }
unfolding is_name_byte
trace_004-request = refl

trace_004-answer : answer_told trace_004_29
    ≡ record {
      status = 200;
      fields = [];
      set_length = None;
      content = 0;
      is_aborted = false;
    }
unfolding digits
trace_004-answer = refl

trace_004-open : open_told trace_004_29
    ≡ record {
      is_committed = false;
      takes_one = true;
      has_to_cut = true;
    }
unfolding head_text digits date_at count_off is_name_byte
trace_004-open = refl

trace_004-01-settled : settled trace_004_limits trace_004_rules 0 ((0, opened) ∷ [])
    ≡ trace_004_01
unfolding settled head_text digits date_at count_off is_name_byte trimmed front_length whole_head host_fits head_of verdict_of target_of framed is_utf8 chars encode
trace_004-01-settled = refl

trace_004-02-settled : settled trace_004_limits trace_004_rules 0 ((0, came (codes "POST /b HTTP/1.0\r\nHost: a\r\nConnection: keep-alive\r\nContent-Length: 20000\r\n\r\n")) ∷ trace_004_01)
    ≡ trace_004_02
unfolding settled head_text digits date_at count_off is_name_byte trimmed front_length whole_head host_fits head_of verdict_of target_of framed is_utf8 chars encode
trace_004-02-settled = refl

trace_004-03-next : next_job (trace_004_02)
    ≡ (Some (job.Service 0))
unfolding head_text digits date_at count_off is_name_byte
trace_004-03-next = refl

trace_004-04-settled : settled trace_004_limits trace_004_rules 0 ((0, called call.Start None) ∷ trace_004_03)
    ≡ trace_004_04
unfolding settled head_text digits date_at count_off is_name_byte trimmed front_length whole_head host_fits head_of verdict_of target_of framed is_utf8 chars encode
trace_004-04-settled = refl

trace_004-05-settled : settled trace_004_limits trace_004_rules 0 ((0, read_listener_set) ∷ trace_004_04)
    ≡ trace_004_05
unfolding settled head_text digits date_at count_off is_name_byte trimmed front_length whole_head host_fits head_of verdict_of target_of framed is_utf8 chars encode
trace_004-05-settled = refl

trace_004-06-settled : settled trace_004_limits trace_004_rules 0 ((0, write_listener_set) ∷ trace_004_05)
    ≡ trace_004_06
unfolding settled head_text digits date_at count_off is_name_byte trimmed front_length whole_head host_fits head_of verdict_of target_of framed is_utf8 chars encode
trace_004-06-settled = refl

trace_004-07-settled : settled trace_004_limits trace_004_rules 0 ((0, called call.Return None) ∷ (0, back) ∷ trace_004_06)
    ≡ trace_004_07
unfolding settled head_text digits date_at count_off is_name_byte trimmed front_length whole_head host_fits head_of verdict_of target_of framed is_utf8 chars encode
trace_004-07-settled = refl

trace_004-08-settled : settled trace_004_limits trace_004_rules 0 ((0, came (codes "zazzddxazcxyzxbbcyxx")) ∷ trace_004_07)
    ≡ trace_004_08
unfolding settled head_text digits date_at count_off is_name_byte trimmed front_length whole_head host_fits head_of verdict_of target_of framed is_utf8 chars encode
trace_004-08-settled = refl

trace_004-09-next : next_job (trace_004_08)
    ≡ (Some job.Readable)
unfolding head_text digits date_at count_off is_name_byte
trace_004-09-next = refl

trace_004-10-reply : reply_to trace_004_limits trace_004_rules 0 trace_004_09 (on_act (act.Read 5) [])
    ≡ record { reply = reply.Got 5; got = (codes "zazzd") }
unfolding reply_to head_text digits date_at count_off is_name_byte
trace_004-10-reply = refl

trace_004-10-settled : settled trace_004_limits trace_004_rules 0 ((0, given 5) ∷ trace_004_09)
    ≡ trace_004_10
unfolding settled head_text digits date_at count_off is_name_byte trimmed front_length whole_head host_fits head_of verdict_of target_of framed is_utf8 chars encode
trace_004-10-settled = refl

trace_004-12-settled : settled trace_004_limits trace_004_rules 0 ((0, called call.Return None) ∷ (0, back) ∷ trace_004_10)
    ≡ trace_004_12
unfolding settled head_text digits date_at count_off is_name_byte trimmed front_length whole_head host_fits head_of verdict_of target_of framed is_utf8 chars encode
trace_004-12-settled = refl

trace_004-13-next : next_job (trace_004_12)
    ≡ (Some job.Writable)
unfolding head_text digits date_at count_off is_name_byte
trace_004-13-next = refl

trace_004-14-reply : reply_to trace_004_limits trace_004_rules 0 trace_004_13 (on_act (act.Read 1) [])
    ≡ record { reply = reply.Got 1; got = (codes "d") }
unfolding reply_to head_text digits date_at count_off is_name_byte
trace_004-14-reply = refl

trace_004-14-settled : settled trace_004_limits trace_004_rules 0 ((0, given 1) ∷ trace_004_13)
    ≡ trace_004_14
unfolding settled head_text digits date_at count_off is_name_byte trimmed front_length whole_head host_fits head_of verdict_of target_of framed is_utf8 chars encode
trace_004-14-settled = refl

trace_004-15-settled : settled trace_004_limits trace_004_rules 0 ((0, answer_reset) ∷ trace_004_14)
    ≡ trace_004_15
unfolding settled head_text digits date_at count_off is_name_byte trimmed front_length whole_head host_fits head_of verdict_of target_of framed is_utf8 chars encode
trace_004-15-settled = refl

trace_004-17-settled : settled trace_004_limits trace_004_rules 0 ((0, called call.Return None) ∷ (0, back) ∷ trace_004_15)
    ≡ trace_004_17
unfolding settled head_text digits date_at count_off is_name_byte trimmed front_length whole_head host_fits head_of verdict_of target_of framed is_utf8 chars encode
trace_004-17-settled = refl

trace_004-18-settled : settled trace_004_limits trace_004_rules 0 ((0, ended) ∷ trace_004_17)
    ≡ trace_004_18
unfolding settled head_text digits date_at count_off is_name_byte trimmed front_length whole_head host_fits head_of verdict_of target_of framed is_utf8 chars encode
trace_004-18-settled = refl

trace_004-20-next : next_job (trace_004_19)
    ≡ (Some job.ReadError)
unfolding head_text digits date_at count_off is_name_byte
trace_004-20-next = refl

trace_004-21-settled : settled trace_004_limits trace_004_rules 0 ((0, back) ∷ trace_004_20)
    ≡ trace_004_21
unfolding settled head_text digits date_at count_off is_name_byte trimmed front_length whole_head host_fits head_of verdict_of target_of framed is_utf8 chars encode
trace_004-21-settled = refl

trace_004-22-settled : settled trace_004_limits trace_004_rules 0 ((0, sent 0) ∷ trace_004_21)
    ≡ trace_004_22
unfolding settled head_text digits date_at count_off is_name_byte trimmed front_length whole_head host_fits head_of verdict_of target_of framed is_utf8 chars encode
trace_004-22-settled = refl

trace_004-24-next : next_job (trace_004_22)
    ≡ (Some job.WriteError)
unfolding head_text digits date_at count_off is_name_byte
trace_004-24-next = refl

trace_004-26-settled : settled trace_004_limits trace_004_rules 0 ((0, back) ∷ trace_004_24)
    ≡ trace_004_26
unfolding settled head_text digits date_at count_off is_name_byte trimmed front_length whole_head host_fits head_of verdict_of target_of framed is_utf8 chars encode
trace_004-26-settled = refl

trace_004-27-settled : settled trace_004_limits trace_004_rules 0 ((0, sent 0) ∷ trace_004_26)
    ≡ trace_004_27
unfolding settled head_text digits date_at count_off is_name_byte trimmed front_length whole_head host_fits head_of verdict_of target_of framed is_utf8 chars encode
trace_004-27-settled = refl

trace_004-28-next : next_job (trace_004_27)
    ≡ (Some (job.Again 1))
unfolding head_text digits date_at count_off is_name_byte
trace_004-28-next = refl

trace_004-29-settled : settled trace_004_limits trace_004_rules 0 ((0, parked input_side) ∷ trace_004_28)
    ≡ trace_004_29
unfolding settled head_text digits date_at count_off is_name_byte trimmed front_length whole_head host_fits head_of verdict_of target_of framed is_utf8 chars encode
trace_004-29-settled = refl

trace_004-30-tick : tick_move trace_004_limits 1 trace_004_29
    ≡ None
unfolding head_text digits date_at count_off is_name_byte
trace_004-30-tick = refl
