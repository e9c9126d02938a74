-- Traces that another program made, with what it tells of them, computed from the definitions. Made by `cases/rows.py`.
use Rattle.std.proofs.Common.{◌≡◌, true, false, List, [], ◌∷◌, Some, None, codes, refl}
use Rattle.std.specs.Prelude.{pos}
use Rattle.std.specs.Fmt.{digits}
use Rattle.std.specs.Str.{is_utf8, chars}
use lib.Utf8.{encode}
use Rattle.cy_event.specs.declared.framing.Framing.TheVariants as framing
use Rattle.cy_event.specs.declared.limits.Limits.{Limits}
use Rattle.cy_event.specs.declared.steps.Act.TheVariants as act
use Rattle.cy_event.specs.declared.steps.Call.TheVariants as call
use Rattle.cy_event.specs.declared.steps.CloseCause.TheVariants as cause
use Rattle.cy_event.specs.declared.steps.Job.TheVariants as job
use Rattle.cy_event.specs.declared.steps.Reply.TheVariants as reply
use Rattle.cy_event.specs.declared.steps.State.TheVariants as state
use Rattle.cy_event.specs.Answers.{head_text}
use Rattle.cy_event.specs.Dates.{date_at, count_off}
use Rattle.cy_event.specs.Framings.{framed}
use Rattle.cy_event.specs.Heads.{is_name_byte, trimmed, front_length, whole_head, host_fits, head_of}
use Rattle.cy_event.specs.Targets.{target_of}
use Rattle.cy_map.specs.declared.rule.Rule.{Rule}
use Rattle.cy_model.specs.Endings.{end_marks}
use Rattle.cy_model.specs.Entries.{on_act, reply_to}
use Rattle.cy_model.specs.Jobs.{next_job}
use Rattle.cy_model.specs.Marks.{Trace, output_side, opened, came, sent, began, called, started, parked, back, end_given, read_listener_set, status_set, field_added, error_answer, over, caused, broken}
use Rattle.cy_model.specs.Replies.{plain}
use Rattle.cy_model.specs.Settling.{settled}
use Rattle.cy_model.specs.Verdicts.{verdict_of}
use Rattle.cy_rows.specs.Told.{answer_told, connection_told, open_told, request_told}

abbrev trace_119_limits : Limits
trace_119_limits = record { max_connections = 256; max_head = 8192; max_fields = 100; max_keep_alive = pos 100; connection_timeout = 20000; async_timeout = 20; max_swallow = 2097152; max_trailer = 6; parts = 3 }

abbrev trace_119_rules : List Rule
trace_119_rules = record { pattern = (codes "/"); part = 0; can_async = true } ∷ record { pattern = (codes "/a"); part = 1; can_async = true } ∷ record { pattern = (codes "/x/*"); part = 2; can_async = false } ∷ []

abbrev trace_119_01 : Trace
trace_119_01 = (0, opened) ∷ []

abbrev trace_119_02 : Trace
trace_119_02 = (0, began (record { place = 0; size = 62; head = record { method = (codes "POST"); target = (codes "/x/y/z"); minor = 1; fields = record { name = (codes "Host"); value = (codes "a") } ∷ record { name = (codes "transfer-encoding"); value = (codes ", chunked") } ∷ [] }; framing = framing.Chunked; max_trailer = 6; async_timeout = 20; part = 2; can_async = false; keep = true; go_on = false })) ∷ (0, came (codes "POST /x/y/z HTTP/1.1\r\nHost: a\r\ntransfer-encoding:, chunked\r\n\r\n")) ∷ trace_119_01

abbrev trace_119_04 : Trace
trace_119_04 = (0, caused cause.BadBody) ∷ (0, came (codes "3;x=1\r\nlok\r\n00\r\nT: v\r\n\r\n")) ∷ trace_119_02

abbrev trace_119_05 : Trace
trace_119_05 = (0, sent 0) ∷ trace_119_04

abbrev trace_119_06 : Trace
trace_119_06 = (0, called call.Run None) ∷ (0, started (job.Service 2)) ∷ trace_119_05

abbrev trace_119_09 : Trace
trace_119_09 = (0, sent 0) ∷ trace_119_06

abbrev trace_119_10 : Trace
trace_119_10 = (0, parked output_side) ∷ trace_119_09

abbrev trace_119_11 : Trace
trace_119_11 = (0, started job.Resume) ∷ trace_119_10

abbrev trace_119_13 : Trace
trace_119_13 = (0, broken) ∷ trace_119_11

abbrev trace_119_14 : Trace
trace_119_14 = (0, over) ∷ (0, error_answer 400) ∷ (0, called call.Return None) ∷ (0, back) ∷ trace_119_13

trace_119-connection : connection_told trace_119_14
    ≡ record {
      came = 86;
      consumed = 80;
      room = 16378;
      has_ended = false;
      cause = (Some cause.BadBody);
      is_broken = true;
      is_gone = true;
      is_open = false;
      begun = 1;
      output = [];
      took = 0;
      unsent = 0;
      idle_since = 0;
      next_job = None;
      charts = (call.Run ∷ call.Return ∷ []) ∷ [];
    }
unfolding head_text digits date_at count_off is_name_byte
trace_119-connection = refl

trace_119-request : request_told trace_119_14
    ≡ record {
      part = 2;
      state = state.Dispatched;
      running = None;
      parked = None;
      given = 0;
      is_end_told = false;
      waiting = 0;
      used = 18;
      swallowed = 18;
      has_whole_body = false;
      has_bad_body = true;
      listeners = [];
      owed = [];
      deadline = None;
      ready = record { read_set = false; read_armed = false; all_read_told = false; write_set = false; write_armed = false };
    }
unfolding is_name_byte
trace_119-request = refl

trace_119-answer : answer_told trace_119_14
    ≡ record {
      status = 400;
      fields = record { name = (codes "Content-Type"); value = (codes "text/plain") } ∷ [];
      set_length = None;
      content = 10;
      is_aborted = false;
    }
unfolding digits
trace_119-answer = refl

trace_119-01-settled : settled trace_119_limits trace_119_rules 0 ((0, opened) ∷ [])
    ≡ trace_119_01
unfolding settled head_text digits date_at count_off is_name_byte trimmed front_length whole_head host_fits head_of verdict_of target_of framed is_utf8 chars encode
trace_119-01-settled = refl

trace_119-02-settled : settled trace_119_limits trace_119_rules 0 ((0, came (codes "POST /x/y/z HTTP/1.1\r\nHost: a\r\ntransfer-encoding:, chunked\r\n\r\n")) ∷ trace_119_01)
    ≡ trace_119_02
unfolding settled head_text digits date_at count_off is_name_byte trimmed front_length whole_head host_fits head_of verdict_of target_of framed is_utf8 chars encode
trace_119-02-settled = refl

trace_119-04-settled : settled trace_119_limits trace_119_rules 0 ((0, came (codes "3;x=1\r\nlok\r\n00\r\nT: v\r\n\r\n")) ∷ trace_119_02)
    ≡ trace_119_04
unfolding settled head_text digits date_at count_off is_name_byte trimmed front_length whole_head host_fits head_of verdict_of target_of framed is_utf8 chars encode
trace_119-04-settled = refl

trace_119-05-settled : settled trace_119_limits trace_119_rules 0 ((0, sent 0) ∷ trace_119_04)
    ≡ trace_119_05
unfolding settled head_text digits date_at count_off is_name_byte trimmed front_length whole_head host_fits head_of verdict_of target_of framed is_utf8 chars encode
trace_119-05-settled = refl

trace_119-06-next : next_job (trace_119_05)
    ≡ (Some (job.Service 2))
unfolding head_text digits date_at count_off is_name_byte
trace_119-06-next = refl

trace_119-09-settled : settled trace_119_limits trace_119_rules 0 ((0, sent 0) ∷ trace_119_06)
    ≡ trace_119_09
unfolding settled head_text digits date_at count_off is_name_byte trimmed front_length whole_head host_fits head_of verdict_of target_of framed is_utf8 chars encode
trace_119-09-settled = refl

trace_119-10-settled : settled trace_119_limits trace_119_rules 0 ((0, parked output_side) ∷ trace_119_09)
    ≡ trace_119_10
unfolding settled head_text digits date_at count_off is_name_byte trimmed front_length whole_head host_fits head_of verdict_of target_of framed is_utf8 chars encode
trace_119-10-settled = refl

trace_119-11-next : next_job (trace_119_10)
    ≡ (Some job.Resume)
unfolding head_text digits date_at count_off is_name_byte
trace_119-11-next = refl

trace_119-13-settled : settled trace_119_limits trace_119_rules 0 ((0, broken) ∷ trace_119_11)
    ≡ trace_119_13
unfolding settled head_text digits date_at count_off is_name_byte trimmed front_length whole_head host_fits head_of verdict_of target_of framed is_utf8 chars encode
trace_119-13-settled = refl

trace_119-14-end : end_marks ((0, called call.Return None) ∷ (0, back) ∷ trace_119_13)
    ≡ (error_answer 400 ∷ over ∷ [])
unfolding head_text digits date_at count_off is_name_byte
trace_119-14-end = refl

trace_119-14-settled : settled trace_119_limits trace_119_rules 0 ((0, over) ∷ (0, error_answer 400) ∷ (0, called call.Return None) ∷ (0, back) ∷ trace_119_13)
    ≡ trace_119_14
unfolding settled head_text digits date_at count_off is_name_byte trimmed front_length whole_head host_fits head_of verdict_of target_of framed is_utf8 chars encode
trace_119-14-settled = refl

abbrev trace_120_limits : Limits
trace_120_limits = record { max_connections = 256; max_head = 8192; max_fields = 6; max_keep_alive = pos 100; connection_timeout = 20000; async_timeout = 30000; max_swallow = 2097152; max_trailer = 2; parts = 3 }

abbrev trace_120_rules : List Rule
trace_120_rules = record { pattern = (codes "/"); part = 0; can_async = true } ∷ record { pattern = (codes "/a"); part = 1; can_async = true } ∷ record { pattern = (codes "/x/*"); part = 2; can_async = false } ∷ []

abbrev trace_120_01 : Trace
trace_120_01 = (0, opened) ∷ []

abbrev trace_120_02 : Trace
trace_120_02 = (0, began (record { place = 0; size = 27; head = record { method = (codes "GET"); target = (codes "/"); minor = 1; fields = record { name = (codes "Host"); value = (codes "a") } ∷ [] }; framing = framing.None; max_trailer = 2; async_timeout = 30000; part = 0; can_async = true; keep = true; go_on = false })) ∷ (0, came (codes "GET / HTTP/1.1\r\nHost: a\r\n\r\nGET / HTTP/1.1\r\nHost: a\r\n\r\nGET / HTTP/1.1\r\nHost: a\r\n\r\n")) ∷ trace_120_01

abbrev trace_120_03 : Trace
trace_120_03 = (0, called call.Run None) ∷ (0, started (job.Service 0)) ∷ trace_120_02

abbrev trace_120_04 : Trace
trace_120_04 = (0, field_added (record { name = (codes "Set-Cookie"); value = (codes "xxxxxxxxxxxxxxxxxxxxxxxxxxxxxxxxxxxxxxxxxxxxxxxxxxxxxxxxxxxx") })) ∷ trace_120_03

abbrev trace_120_05 : Trace
trace_120_05 = (0, called call.Start None) ∷ trace_120_04

abbrev trace_120_06 : Trace
trace_120_06 = (0, read_listener_set) ∷ trace_120_05

abbrev trace_120_07 : Trace
trace_120_07 = (0, called call.Return None) ∷ (0, back) ∷ trace_120_06

abbrev trace_120_08 : Trace
trace_120_08 = (0, called call.Run None) ∷ (0, started job.AllRead) ∷ trace_120_07

abbrev trace_120_09 : Trace
trace_120_09 = (0, sent 0) ∷ trace_120_08

abbrev trace_120_10 : Trace
trace_120_10 = (0, status_set 599) ∷ trace_120_09

abbrev trace_120_13 : Trace
trace_120_13 = (0, end_given) ∷ trace_120_10

abbrev trace_120_14 : Trace
trace_120_14 = (0, called call.CompleteOwn None) ∷ trace_120_13

trace_120-connection : connection_told trace_120_14
    ≡ record {
      came = 81;
      consumed = 27;
      room = 16330;
      has_ended = false;
      cause = None;
      is_broken = false;
      is_gone = false;
      is_open = true;
      begun = 1;
      output = [];
      took = 0;
      unsent = 0;
      idle_since = 0;
      next_job = None;
      charts = (call.Run ∷ call.Start ∷ call.Return ∷ call.Run ∷ call.CompleteOwn ∷ []) ∷ [];
    }
unfolding head_text digits date_at count_off is_name_byte
trace_120-connection = refl

trace_120-request : request_told trace_120_14
    ≡ record {
      part = 0;
      state = state.MustComplete;
      running = (Some job.AllRead);
      parked = None;
      given = 0;
      is_end_told = true;
      waiting = 0;
      used = 0;
      swallowed = 0;
      has_whole_body = true;
      has_bad_body = false;
      listeners = [];
      owed = [];
      deadline = (Some 30000);
      ready = record { read_set = true; read_armed = true; all_read_told = true; write_set = false; write_armed = false };
    }
unfolding is_name_byte
trace_120-request = refl

trace_120-answer : answer_told trace_120_14
    ≡ record {
      status = 599;
      fields = record { name = (codes "Set-Cookie"); value = (codes "xxxxxxxxxxxxxxxxxxxxxxxxxxxxxxxxxxxxxxxxxxxxxxxxxxxxxxxxxxxx") } ∷ [];
      set_length = None;
      content = 0;
      is_aborted = false;
    }
unfolding digits
trace_120-answer = refl

trace_120-open : open_told trace_120_14
    ≡ record {
      is_committed = false;
      takes_one = true;
      has_to_cut = true;
    }
unfolding head_text digits date_at count_off is_name_byte
trace_120-open = refl

trace_120-01-settled : settled trace_120_limits trace_120_rules 0 ((0, opened) ∷ [])
    ≡ trace_120_01
unfolding settled head_text digits date_at count_off is_name_byte trimmed front_length whole_head host_fits head_of verdict_of target_of framed is_utf8 chars encode
trace_120-01-settled = refl

trace_120-02-settled : settled trace_120_limits trace_120_rules 0 ((0, came (codes "GET / HTTP/1.1\r\nHost: a\r\n\r\nGET / HTTP/1.1\r\nHost: a\r\n\r\nGET / HTTP/1.1\r\nHost: a\r\n\r\n")) ∷ trace_120_01)
    ≡ trace_120_02
unfolding settled head_text digits date_at count_off is_name_byte trimmed front_length whole_head host_fits head_of verdict_of target_of framed is_utf8 chars encode
trace_120-02-settled = refl

trace_120-03-next : next_job (trace_120_02)
    ≡ (Some (job.Service 0))
unfolding head_text digits date_at count_off is_name_byte
trace_120-03-next = refl

trace_120-04-settled : settled trace_120_limits trace_120_rules 0 ((0, field_added (record { name = (codes "Set-Cookie"); value = (codes "xxxxxxxxxxxxxxxxxxxxxxxxxxxxxxxxxxxxxxxxxxxxxxxxxxxxxxxxxxxx") })) ∷ trace_120_03)
    ≡ trace_120_04
unfolding settled head_text digits date_at count_off is_name_byte trimmed front_length whole_head host_fits head_of verdict_of target_of framed is_utf8 chars encode
trace_120-04-settled = refl

trace_120-05-settled : settled trace_120_limits trace_120_rules 0 ((0, called call.Start None) ∷ trace_120_04)
    ≡ trace_120_05
unfolding settled head_text digits date_at count_off is_name_byte trimmed front_length whole_head host_fits head_of verdict_of target_of framed is_utf8 chars encode
trace_120-05-settled = refl

trace_120-06-settled : settled trace_120_limits trace_120_rules 0 ((0, read_listener_set) ∷ trace_120_05)
    ≡ trace_120_06
unfolding settled head_text digits date_at count_off is_name_byte trimmed front_length whole_head host_fits head_of verdict_of target_of framed is_utf8 chars encode
trace_120-06-settled = refl

trace_120-07-settled : settled trace_120_limits trace_120_rules 0 ((0, called call.Return None) ∷ (0, back) ∷ trace_120_06)
    ≡ trace_120_07
unfolding settled head_text digits date_at count_off is_name_byte trimmed front_length whole_head host_fits head_of verdict_of target_of framed is_utf8 chars encode
trace_120-07-settled = refl

trace_120-08-next : next_job (trace_120_07)
    ≡ (Some job.AllRead)
unfolding head_text digits date_at count_off is_name_byte
trace_120-08-next = refl

trace_120-09-settled : settled trace_120_limits trace_120_rules 0 ((0, sent 0) ∷ trace_120_08)
    ≡ trace_120_09
unfolding settled head_text digits date_at count_off is_name_byte trimmed front_length whole_head host_fits head_of verdict_of target_of framed is_utf8 chars encode
trace_120-09-settled = refl

trace_120-10-settled : settled trace_120_limits trace_120_rules 0 ((0, status_set 599) ∷ trace_120_09)
    ≡ trace_120_10
unfolding settled head_text digits date_at count_off is_name_byte trimmed front_length whole_head host_fits head_of verdict_of target_of framed is_utf8 chars encode
trace_120-10-settled = refl

trace_120-13-reply : reply_to trace_120_limits trace_120_rules 0 trace_120_10 (on_act (act.Read 65536) [])
    ≡ plain reply.GotEnd
unfolding reply_to head_text digits date_at count_off is_name_byte
trace_120-13-reply = refl

trace_120-13-settled : settled trace_120_limits trace_120_rules 0 ((0, end_given) ∷ trace_120_10)
    ≡ trace_120_13
unfolding settled head_text digits date_at count_off is_name_byte trimmed front_length whole_head host_fits head_of verdict_of target_of framed is_utf8 chars encode
trace_120-13-settled = refl

trace_120-14-settled : settled trace_120_limits trace_120_rules 0 ((0, called call.CompleteOwn None) ∷ trace_120_13)
    ≡ trace_120_14
unfolding settled head_text digits date_at count_off is_name_byte trimmed front_length whole_head host_fits head_of verdict_of target_of framed is_utf8 chars encode
trace_120-14-settled = refl
