-- Traces that another program made, with what it tells of them, computed from the definitions. Made by `cases/rows.py`.
use Rattle.std.proofs.Common.{◌≡◌, true, false, List, [], ◌∷◌, Some, None, codes, refl}
use Rattle.std.specs.Prelude.{pos}
use Rattle.std.specs.Fmt.{digits}
use Rattle.std.specs.Str.{is_utf8, chars}
use lib.Utf8.{encode}
use Rattle.cy_event.specs.declared.framing.Framing.TheVariants as framing
use Rattle.cy_event.specs.declared.limits.Limits.{Limits}
use Rattle.cy_event.specs.declared.steps.Act.TheVariants as act
use Rattle.cy_event.specs.declared.steps.Call.TheVariants as call
use Rattle.cy_event.specs.declared.steps.Job.TheVariants as job
use Rattle.cy_event.specs.declared.steps.Reply.TheVariants as reply
use Rattle.cy_event.specs.declared.steps.State.TheVariants as state
use Rattle.cy_event.specs.Answers.{head_text}
use Rattle.cy_event.specs.Dates.{date_at, count_off}
use Rattle.cy_event.specs.Framings.{framed}
use Rattle.cy_event.specs.Heads.{is_name_byte, trimmed, front_length, whole_head, host_fits, head_of}
use Rattle.cy_event.specs.Targets.{target_of}
use Rattle.cy_map.specs.declared.rule.Rule.{Rule}
use Rattle.cy_model.specs.Entries.{on_act, reply_to}
use Rattle.cy_model.specs.Jobs.{next_job}
use Rattle.cy_model.specs.Marks.{Trace, input_side, opened, ended, came, began, called, started, parked, back, end_given, read_listener_set, write_listener_set, field_added, put, flushed}
use Rattle.cy_model.specs.Replies.{plain}
use Rattle.cy_model.specs.Settling.{settled}
use Rattle.cy_model.specs.Ticks.{tick_move}
use Rattle.cy_model.specs.Verdicts.{verdict_of}
use Rattle.cy_rows.specs.Told.{answer_told, connection_told, open_told, request_told}

abbrev trace_000_limits : Limits
trace_000_limits = record { max_connections = 256; max_head = 8192; max_fields = 100; max_keep_alive = pos 100; connection_timeout = 20000; async_timeout = 30000; max_swallow = 2097152; max_trailer = 8192; parts = 3 }

abbrev trace_000_rules : List Rule
trace_000_rules = record { pattern = (codes "/"); part = 0; can_async = true } ∷ record { pattern = (codes "/a"); part = 1; can_async = true } ∷ record { pattern = (codes "/x/*"); part = 2; can_async = false } ∷ []

abbrev trace_000_01 : Trace
trace_000_01 = (0, opened) ∷ []

abbrev trace_000_03 : Trace
trace_000_03 = (0, began (record { place = 0; size = 27; head = record { method = (codes "GET"); target = (codes "/"); minor = 1; fields = record { name = (codes "Host"); value = (codes "a") } ∷ [] }; framing = framing.None; max_trailer = 8192; async_timeout = 30000; part = 0; can_async = true; keep = true; go_on = false })) ∷ (0, came (codes "GET / HTTP/1.1\r\nHost: a\r\n\r\n")) ∷ trace_000_01

abbrev trace_000_04 : Trace
trace_000_04 = (0, ended) ∷ trace_000_03

abbrev trace_000_05 : Trace
trace_000_05 = (0, called call.Run None) ∷ (0, started (job.Service 0)) ∷ trace_000_04

abbrev trace_000_06 : Trace
trace_000_06 = (0, end_given) ∷ trace_000_05

abbrev trace_000_07 : Trace
trace_000_07 = (0, parked input_side) ∷ trace_000_06

abbrev trace_000_09 : Trace
trace_000_09 = (10, started job.Resume) ∷ trace_000_07

abbrev trace_000_10 : Trace
trace_000_10 = (10, field_added (record { name = (codes "Set-Cookie"); value = (codes "xxxxxxxxxxxxxxxxxxxxxxxxxxxxxxxxxxxxxxxxxxxxxxxxxxxxxxxxxxxx") })) ∷ trace_000_09

abbrev trace_000_11 : Trace
trace_000_11 = (10, called call.Start None) ∷ trace_000_10

abbrev trace_000_12 : Trace
trace_000_12 = (10, put (codes "bbbbbbbbbbbbbbbbbbbbbbbbbbbbbbbbbbbbbbbbbbbbbbbbbbbbbbbbbbbbbbbbbbbbbbbbbbbbbbbbbbbbbbbbbbbbbbbbbbbb")) ∷ trace_000_11

abbrev trace_000_13 : Trace
trace_000_13 = (10, flushed) ∷ trace_000_12

abbrev trace_000_15 : Trace
trace_000_15 = (10, read_listener_set) ∷ trace_000_13

abbrev trace_000_18 : Trace
trace_000_18 = (10, write_listener_set) ∷ trace_000_15

abbrev trace_000_19 : Trace
trace_000_19 = (10, called call.Return None) ∷ (10, back) ∷ trace_000_18

trace_000-connection : connection_told trace_000_19
    ≡ record {
      came = 27;
      consumed = 27;
      room = 16384;
      has_ended = true;
      cause = None;
      is_broken = false;
      is_gone = false;
      is_open = true;
      begun = 1;
      output = (codes "HTTP/1.1 200 \r\nSet-Cookie: xxxxxxxxxxxxxxxxxxxxxxxxxxxxxxxxxxxxxxxxxxxxxxxxxxxxxxxxxxxx\r\nTransfer-Encoding: chunked\r\nDate: Thu, 01 Jan 1970 00:00:00 GMT\r\n\r\n64\r\nbbbbbbbbbbbbbbbbbbbbbbbbbbbbbbbbbbbbbbbbbbbbbbbbbbbbbbbbbbbbbbbbbbbbbbbbbbbbbbbbbbbbbbbbbbbbbbbbbbbb\r\n");
      took = 0;
      unsent = 262;
      idle_since = 0;
      next_job = (Some job.AllRead);
      charts = (call.Run ∷ call.Start ∷ call.Return ∷ []) ∷ [];
    }
unfolding head_text digits date_at count_off is_name_byte
trace_000-connection = refl

trace_000-request : request_told trace_000_19
    ≡ record {
      part = 0;
      state = state.Started;
      running = None;
      parked = None;
      given = 0;
      is_end_told = true;
      waiting = 0;
      used = 0;
      swallowed = 0;
      has_whole_body = true;
      has_bad_body = false;
      listeners = [];
      owed = [];
      deadline = (Some 30010);
      ready = record { read_set = true; read_armed = true; all_read_told = false; write_set = true; write_armed = true };
    }
unfolding is_name_byte
trace_000-request = refl

trace_000-answer : answer_told trace_000_19
    ≡ record {
      status = 200;
      fields = record { name = (codes "Set-Cookie"); value = (codes "xxxxxxxxxxxxxxxxxxxxxxxxxxxxxxxxxxxxxxxxxxxxxxxxxxxxxxxxxxxx") } ∷ [];
      set_length = None;
      content = 100;
      is_aborted = false;
    }
unfolding digits
trace_000-answer = refl

trace_000-open : open_told trace_000_19
    ≡ record {
      is_committed = true;
      takes_one = true;
      has_to_cut = false;
    }
unfolding head_text digits date_at count_off is_name_byte
trace_000-open = refl

trace_000-01-settled : settled trace_000_limits trace_000_rules 0 ((0, opened) ∷ [])
    ≡ trace_000_01
unfolding settled head_text digits date_at count_off is_name_byte trimmed front_length whole_head host_fits head_of verdict_of target_of framed is_utf8 chars encode
trace_000-01-settled = refl

trace_000-03-settled : settled trace_000_limits trace_000_rules 0 ((0, came (codes "GET / HTTP/1.1\r\nHost: a\r\n\r\n")) ∷ trace_000_01)
    ≡ trace_000_03
unfolding settled head_text digits date_at count_off is_name_byte trimmed front_length whole_head host_fits head_of verdict_of target_of framed is_utf8 chars encode
trace_000-03-settled = refl

trace_000-04-settled : settled trace_000_limits trace_000_rules 0 ((0, ended) ∷ trace_000_03)
    ≡ trace_000_04
unfolding settled head_text digits date_at count_off is_name_byte trimmed front_length whole_head host_fits head_of verdict_of target_of framed is_utf8 chars encode
trace_000-04-settled = refl

trace_000-05-next : next_job (trace_000_04)
    ≡ (Some (job.Service 0))
unfolding head_text digits date_at count_off is_name_byte
trace_000-05-next = refl

trace_000-06-reply : reply_to trace_000_limits trace_000_rules 0 trace_000_05 (on_act (act.Read 0) [])
    ≡ plain reply.GotEnd
unfolding reply_to head_text digits date_at count_off is_name_byte
trace_000-06-reply = refl

trace_000-06-settled : settled trace_000_limits trace_000_rules 0 ((0, end_given) ∷ trace_000_05)
    ≡ trace_000_06
unfolding settled head_text digits date_at count_off is_name_byte trimmed front_length whole_head host_fits head_of verdict_of target_of framed is_utf8 chars encode
trace_000-06-settled = refl

trace_000-07-settled : settled trace_000_limits trace_000_rules 0 ((0, parked input_side) ∷ trace_000_06)
    ≡ trace_000_07
unfolding settled head_text digits date_at count_off is_name_byte trimmed front_length whole_head host_fits head_of verdict_of target_of framed is_utf8 chars encode
trace_000-07-settled = refl

trace_000-08-tick : tick_move trace_000_limits 10 trace_000_07
    ≡ None
unfolding head_text digits date_at count_off is_name_byte
trace_000-08-tick = refl

trace_000-09-next : next_job (trace_000_07)
    ≡ (Some job.Resume)
unfolding head_text digits date_at count_off is_name_byte
trace_000-09-next = refl

trace_000-10-settled : settled trace_000_limits trace_000_rules 10 ((10, field_added (record { name = (codes "Set-Cookie"); value = (codes "xxxxxxxxxxxxxxxxxxxxxxxxxxxxxxxxxxxxxxxxxxxxxxxxxxxxxxxxxxxx") })) ∷ trace_000_09)
    ≡ trace_000_10
unfolding settled head_text digits date_at count_off is_name_byte trimmed front_length whole_head host_fits head_of verdict_of target_of framed is_utf8 chars encode
trace_000-10-settled = refl

trace_000-11-settled : settled trace_000_limits trace_000_rules 10 ((10, called call.Start None) ∷ trace_000_10)
    ≡ trace_000_11
unfolding settled head_text digits date_at count_off is_name_byte trimmed front_length whole_head host_fits head_of verdict_of target_of framed is_utf8 chars encode
trace_000-11-settled = refl

trace_000-12-settled : settled trace_000_limits trace_000_rules 10 ((10, put (codes "bbbbbbbbbbbbbbbbbbbbbbbbbbbbbbbbbbbbbbbbbbbbbbbbbbbbbbbbbbbbbbbbbbbbbbbbbbbbbbbbbbbbbbbbbbbbbbbbbbbb")) ∷ trace_000_11)
    ≡ trace_000_12
unfolding settled head_text digits date_at count_off is_name_byte trimmed front_length whole_head host_fits head_of verdict_of target_of framed is_utf8 chars encode
trace_000-12-settled = refl

trace_000-13-settled : settled trace_000_limits trace_000_rules 10 ((10, flushed) ∷ trace_000_12)
    ≡ trace_000_13
unfolding settled head_text digits date_at count_off is_name_byte trimmed front_length whole_head host_fits head_of verdict_of target_of framed is_utf8 chars encode
trace_000-13-settled = refl

trace_000-15-settled : settled trace_000_limits trace_000_rules 10 ((10, read_listener_set) ∷ trace_000_13)
    ≡ trace_000_15
unfolding settled head_text digits date_at count_off is_name_byte trimmed front_length whole_head host_fits head_of verdict_of target_of framed is_utf8 chars encode
trace_000-15-settled = refl

trace_000-18-settled : settled trace_000_limits trace_000_rules 10 ((10, write_listener_set) ∷ trace_000_15)
    ≡ trace_000_18
unfolding settled head_text digits date_at count_off is_name_byte trimmed front_length whole_head host_fits head_of verdict_of target_of framed is_utf8 chars encode
trace_000-18-settled = refl

trace_000-19-settled : settled trace_000_limits trace_000_rules 10 ((10, called call.Return None) ∷ (10, back) ∷ trace_000_18)
    ≡ trace_000_19
unfolding settled head_text digits date_at count_off is_name_byte trimmed front_length whole_head host_fits head_of verdict_of target_of framed is_utf8 chars encode
trace_000-19-settled = refl
