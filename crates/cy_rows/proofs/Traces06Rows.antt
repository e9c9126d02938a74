-- Traces that another program made, with what it tells of them, computed from the definitions. Made by `cases/rows.py`.
use Rattle.std.proofs.Common.{◌≡◌, true, false, List, [], ◌∷◌, Some, None, codes, refl}
use Rattle.std.specs.Prelude.{pos}
use Rattle.std.specs.Fmt.{digits}
use Rattle.std.specs.Str.{is_utf8, chars}
use lib.Utf8.{encode}
use Rattle.cy_event.specs.declared.framing.Framing.TheVariants as framing
use Rattle.cy_event.specs.declared.limits.Limits.{Limits}
use Rattle.cy_event.specs.declared.steps.Call.TheVariants as call
use Rattle.cy_event.specs.declared.steps.CloseCause.TheVariants as cause
use Rattle.cy_event.specs.declared.steps.Job.TheVariants as job
use Rattle.cy_event.specs.declared.steps.State.TheVariants as state
use Rattle.cy_event.specs.Answers.{head_text}
use Rattle.cy_event.specs.Dates.{date_at, count_off}
use Rattle.cy_event.specs.Framings.{framed}
use Rattle.cy_event.specs.Heads.{is_name_byte, trimmed, front_length, whole_head, host_fits, head_of}
use Rattle.cy_event.specs.Targets.{target_of}
use Rattle.cy_map.specs.declared.rule.Rule.{Rule}
use Rattle.cy_model.specs.Endings.{end_marks}
use Rattle.cy_model.specs.Jobs.{next_job}
use Rattle.cy_model.specs.Marks.{Trace, opened, came, sent, began, called, started, back, listened, read_listener_set, length_set, over, caused, broken}
use Rattle.cy_model.specs.Settling.{settled}
use Rattle.cy_model.specs.Ticks.{tick_move}
use Rattle.cy_model.specs.Verdicts.{verdict_of}
use Rattle.cy_rows.specs.Told.{answer_told, connection_told, open_told, request_told}

abbrev trace_022_limits : Limits
trace_022_limits = record { max_connections = 256; max_head = 8192; max_fields = 100; max_keep_alive = pos 100; connection_timeout = 20000; async_timeout = 30000; max_swallow = 2097152; max_trailer = 8192; parts = 3 }

abbrev trace_022_rules : List Rule
trace_022_rules = record { pattern = (codes "/"); part = 0; can_async = true } ∷ record { pattern = (codes "/a"); part = 1; can_async = true } ∷ record { pattern = (codes "/x/*"); part = 2; can_async = false } ∷ []

abbrev trace_022_01 : Trace
trace_022_01 = (0, opened) ∷ []

abbrev trace_022_03 : Trace
trace_022_03 = (0, began (record { place = 0; size = 66; head = record { method = (codes "GET"); target = (codes "/b"); minor = 1; fields = record { name = (codes "Host"); value = (codes "localhost:8080") } ∷ record { name = (codes "Content-Length"); value = (codes "1") } ∷ record { name = (codes "X"); value = (codes "l") } ∷ [] }; framing = (framing.Length 1); max_trailer = 8192; async_timeout = 30000; part = 0; can_async = true; keep = true; go_on = false })) ∷ (0, came (codes "GET /b HTTP/1.1\r\nHost: localhost:8080\r\nContent-Length: 1\r\nX: l\r\n\r\na")) ∷ trace_022_01

abbrev trace_022_04 : Trace
trace_022_04 = (0, called call.Run None) ∷ (0, started (job.Service 0)) ∷ trace_022_03

abbrev trace_022_05 : Trace
trace_022_05 = (0, called call.Start None) ∷ trace_022_04

abbrev trace_022_06 : Trace
trace_022_06 = (0, length_set 5) ∷ trace_022_05

abbrev trace_022_07 : Trace
trace_022_07 = (0, called call.CompleteOwn None) ∷ trace_022_06

abbrev trace_022_08 : Trace
trace_022_08 = (0, caused cause.ShortAnswer) ∷ (0, over) ∷ (0, called call.Return None) ∷ (0, called call.Return None) ∷ (0, back) ∷ trace_022_07

abbrev trace_022_10 : Trace
trace_022_10 = (20000, broken) ∷ trace_022_08

trace_022-connection : connection_told trace_022_10
    ≡ record {
      came = 67;
      consumed = 67;
      room = 16384;
      has_ended = false;
      cause = (Some cause.ShortAnswer);
      is_broken = true;
      is_gone = true;
      is_open = false;
      begun = 1;
      output = (codes "HTTP/1.1 200 \r\nContent-Length: 5\r\nDate: Thu, 01 Jan 1970 00:00:00 GMT\r\n\r\n");
      took = 0;
      unsent = 0;
      idle_since = 0;
      next_job = None;
      charts = (call.Run ∷ call.Start ∷ call.CompleteOwn ∷ call.Return ∷ call.Return ∷ []) ∷ [];
    }
unfolding head_text digits date_at count_off is_name_byte
trace_022-connection = refl

trace_022-request : request_told trace_022_10
    ≡ record {
      part = 0;
      state = state.Completing;
      running = None;
      parked = None;
      given = 0;
      is_end_told = false;
      waiting = 1;
      used = 1;
      swallowed = 1;
      has_whole_body = true;
      has_bad_body = false;
      listeners = [];
      owed = [];
      deadline = None;
      ready = record { read_set = false; read_armed = false; all_read_told = false; write_set = false; write_armed = false };
    }
unfolding is_name_byte
trace_022-request = refl

trace_022-answer : answer_told trace_022_10
    ≡ record {
      status = 200;
      fields = [];
      set_length = (Some 5);
      content = 0;
      is_aborted = false;
    }
unfolding digits
trace_022-answer = refl

trace_022-01-settled : settled trace_022_limits trace_022_rules 0 ((0, opened) ∷ [])
    ≡ trace_022_01
unfolding settled head_text digits date_at count_off is_name_byte trimmed front_length whole_head host_fits head_of verdict_of target_of framed is_utf8 chars encode
trace_022-01-settled = refl

trace_022-03-settled : settled trace_022_limits trace_022_rules 0 ((0, came (codes "GET /b HTTP/1.1\r\nHost: localhost:8080\r\nContent-Length: 1\r\nX: l\r\n\r\na")) ∷ trace_022_01)
    ≡ trace_022_03
unfolding settled head_text digits date_at count_off is_name_byte trimmed front_length whole_head host_fits head_of verdict_of target_of framed is_utf8 chars encode
trace_022-03-settled = refl

trace_022-04-next : next_job (trace_022_03)
    ≡ (Some (job.Service 0))
unfolding head_text digits date_at count_off is_name_byte
trace_022-04-next = refl

trace_022-05-settled : settled trace_022_limits trace_022_rules 0 ((0, called call.Start None) ∷ trace_022_04)
    ≡ trace_022_05
unfolding settled head_text digits date_at count_off is_name_byte trimmed front_length whole_head host_fits head_of verdict_of target_of framed is_utf8 chars encode
trace_022-05-settled = refl

trace_022-06-settled : settled trace_022_limits trace_022_rules 0 ((0, length_set 5) ∷ trace_022_05)
    ≡ trace_022_06
unfolding settled head_text digits date_at count_off is_name_byte trimmed front_length whole_head host_fits head_of verdict_of target_of framed is_utf8 chars encode
trace_022-06-settled = refl

trace_022-07-settled : settled trace_022_limits trace_022_rules 0 ((0, called call.CompleteOwn None) ∷ trace_022_06)
    ≡ trace_022_07
unfolding settled head_text digits date_at count_off is_name_byte trimmed front_length whole_head host_fits head_of verdict_of target_of framed is_utf8 chars encode
trace_022-07-settled = refl

trace_022-08-settled : settled trace_022_limits trace_022_rules 0 ((0, called call.Return None) ∷ (0, back) ∷ trace_022_07)
    ≡ trace_022_08
unfolding settled head_text digits date_at count_off is_name_byte trimmed front_length whole_head host_fits head_of verdict_of target_of framed is_utf8 chars encode
trace_022-08-settled = refl

trace_022-09-tick : tick_move trace_022_limits 19999 trace_022_08
    ≡ None
unfolding head_text digits date_at count_off is_name_byte
trace_022-09-tick = refl

trace_022-10-tick : tick_move trace_022_limits 20000 trace_022_08
    ≡ Some (broken ∷ [])
unfolding head_text digits date_at count_off is_name_byte
trace_022-10-tick = refl

trace_022-10-settled : settled trace_022_limits trace_022_rules 20000 ((20000, broken) ∷ trace_022_08)
    ≡ trace_022_10
unfolding settled head_text digits date_at count_off is_name_byte trimmed front_length whole_head host_fits head_of verdict_of target_of framed is_utf8 chars encode
trace_022-10-settled = refl

trace_022-11-tick : tick_move trace_022_limits 20000 trace_022_10
    ≡ None
unfolding head_text digits date_at count_off is_name_byte
trace_022-11-tick = refl

abbrev trace_023_limits : Limits
trace_023_limits = record { max_connections = 256; max_head = 8192; max_fields = 100; max_keep_alive = pos 100; connection_timeout = 20000; async_timeout = 30000; max_swallow = 100; max_trailer = 12; parts = 3 }

abbrev trace_023_rules : List Rule
trace_023_rules = record { pattern = (codes "/a"); part = 1; can_async = true } ∷ record { pattern = (codes "/"); part = 0; can_async = true } ∷ record { pattern = (codes "/x/*"); part = 2; can_async = false } ∷ []

abbrev trace_023_01 : Trace
trace_023_01 = (0, opened) ∷ []

abbrev trace_023_02 : Trace
trace_023_02 = (0, sent 0) ∷ trace_023_01

abbrev trace_023_03 : Trace
trace_023_03 = (0, sent 0) ∷ trace_023_02

abbrev trace_023_04 : Trace
trace_023_04 = (0, began (record { place = 0; size = 27; head = record { method = (codes "GET"); target = (codes "/"); minor = 1; fields = record { name = (codes "Host"); value = (codes "a") } ∷ [] }; framing = framing.None; max_trailer = 12; async_timeout = 30000; part = 0; can_async = true; keep = true; go_on = false })) ∷ (0, came (codes "GET / HTTP/1.1\r\nHost: a\r\n\r\nGET / HTTP/1.1\r\nHost: a\r\n\r\nGET / HTTP/1.1\r\nHost: a\r\n\r\n")) ∷ trace_023_03

abbrev trace_023_05 : Trace
trace_023_05 = (0, sent 0) ∷ trace_023_04

abbrev trace_023_06 : Trace
trace_023_06 = (0, called call.Run None) ∷ (0, started (job.Service 0)) ∷ trace_023_05

abbrev trace_023_08 : Trace
trace_023_08 = (0, came (codes "GET / HTTP/1.1\r\nHost: a\r\n\r\nGET / HTTP/1.1\r\nHost: a\r\n\r\nGET / HTTP/1.1\r\nHost: a\r\n\r\n")) ∷ trace_023_06

abbrev trace_023_10 : Trace
trace_023_10 = (0, began (record { place = 27; size = 27; head = record { method = (codes "GET"); target = (codes "/"); minor = 1; fields = record { name = (codes "Host"); value = (codes "a") } ∷ [] }; framing = framing.None; max_trailer = 12; async_timeout = 30000; part = 0; can_async = true; keep = true; go_on = false })) ∷ (0, over) ∷ (0, called call.Return None) ∷ (0, back) ∷ trace_023_08

abbrev trace_023_11 : Trace
trace_023_11 = (0, broken) ∷ (0, caused cause.InFault) ∷ trace_023_10

abbrev trace_023_12 : Trace
trace_023_12 = (0, called call.Run None) ∷ (0, started (job.Service 0)) ∷ trace_023_11

abbrev trace_023_13 : Trace
trace_023_13 = (0, called call.Start None) ∷ trace_023_12

abbrev trace_023_14 : Trace
trace_023_14 = (0, listened 171) ∷ trace_023_13

abbrev trace_023_16 : Trace
trace_023_16 = (0, read_listener_set) ∷ trace_023_14

abbrev trace_023_17 : Trace
trace_023_17 = (0, called call.Return None) ∷ (0, back) ∷ trace_023_16

abbrev trace_023_18 : Trace
trace_023_18 = (0, called call.Run None) ∷ (0, started job.AllRead) ∷ trace_023_17

abbrev trace_023_19 : Trace
trace_023_19 = (0, called call.Return None) ∷ (0, back) ∷ trace_023_18

abbrev trace_023_26 : Trace
trace_023_26 = (30000, called call.Timeout None) ∷ trace_023_19

abbrev trace_023_30 : Trace
trace_023_30 = (30000, started (job.OnTimeout 0 171)) ∷ trace_023_26

trace_023-connection : connection_told trace_023_30
    ≡ record {
      came = 162;
      consumed = 54;
      room = 16276;
      has_ended = false;
      cause = (Some cause.InFault);
      is_broken = true;
      is_gone = false;
      is_open = true;
      begun = 2;
      output = (codes "HTTP/1.1 200 \r\nContent-Length: 0\r\nDate: Thu, 01 Jan 1970 00:00:00 GMT\r\n\r\n");
      took = 0;
      unsent = 0;
      idle_since = 0;
      next_job = None;
      charts = (call.Run ∷ call.Return ∷ []) ∷ (call.Run ∷ call.Start ∷ call.Return ∷ call.Run ∷ call.Return ∷ call.Timeout ∷ []) ∷ [];
    }
unfolding head_text digits date_at count_off is_name_byte
trace_023-connection = refl

trace_023-request : request_told trace_023_30
    ≡ record {
      part = 0;
      state = state.TimingOut;
      running = (Some (job.OnTimeout 0 171));
      parked = None;
      given = 0;
      is_end_told = false;
      waiting = 0;
      used = 0;
      swallowed = 0;
      has_whole_body = true;
      has_bad_body = false;
      listeners = 171 ∷ [];
      owed = [];
      deadline = (Some 30000);
      ready = record { read_set = true; read_armed = true; all_read_told = true; write_set = false; write_armed = false };
    }
unfolding is_name_byte
trace_023-request = refl

trace_023-answer : answer_told trace_023_30
    ≡ record {
      status = 200;
      fields = [];
      set_length = None;
      content = 0;
      is_aborted = false;
    }
unfolding digits
trace_023-answer = refl

trace_023-open : open_told trace_023_30
    ≡ record {
      is_committed = false;
      takes_one = true;
      has_to_cut = true;
    }
unfolding head_text digits date_at count_off is_name_byte
trace_023-open = refl

trace_023-01-settled : settled trace_023_limits trace_023_rules 0 ((0, opened) ∷ [])
    ≡ trace_023_01
unfolding settled head_text digits date_at count_off is_name_byte trimmed front_length whole_head host_fits head_of verdict_of target_of framed is_utf8 chars encode
trace_023-01-settled = refl

trace_023-02-settled : settled trace_023_limits trace_023_rules 0 ((0, sent 0) ∷ trace_023_01)
    ≡ trace_023_02
unfolding settled head_text digits date_at count_off is_name_byte trimmed front_length whole_head host_fits head_of verdict_of target_of framed is_utf8 chars encode
trace_023-02-settled = refl

trace_023-03-settled : settled trace_023_limits trace_023_rules 0 ((0, sent 0) ∷ trace_023_02)
    ≡ trace_023_03
unfolding settled head_text digits date_at count_off is_name_byte trimmed front_length whole_head host_fits head_of verdict_of target_of framed is_utf8 chars encode
trace_023-03-settled = refl

trace_023-04-settled : settled trace_023_limits trace_023_rules 0 ((0, came (codes "GET / HTTP/1.1\r\nHost: a\r\n\r\nGET / HTTP/1.1\r\nHost: a\r\n\r\nGET / HTTP/1.1\r\nHost: a\r\n\r\n")) ∷ trace_023_03)
    ≡ trace_023_04
unfolding settled head_text digits date_at count_off is_name_byte trimmed front_length whole_head host_fits head_of verdict_of target_of framed is_utf8 chars encode
trace_023-04-settled = refl

trace_023-05-settled : settled trace_023_limits trace_023_rules 0 ((0, sent 0) ∷ trace_023_04)
    ≡ trace_023_05
unfolding settled head_text digits date_at count_off is_name_byte trimmed front_length whole_head host_fits head_of verdict_of target_of framed is_utf8 chars encode
trace_023-05-settled = refl

trace_023-06-next : next_job (trace_023_05)
    ≡ (Some (job.Service 0))
unfolding head_text digits date_at count_off is_name_byte
trace_023-06-next = refl

trace_023-08-settled : settled trace_023_limits trace_023_rules 0 ((0, came (codes "GET / HTTP/1.1\r\nHost: a\r\n\r\nGET / HTTP/1.1\r\nHost: a\r\n\r\nGET / HTTP/1.1\r\nHost: a\r\n\r\n")) ∷ trace_023_06)
    ≡ trace_023_08
unfolding settled head_text digits date_at count_off is_name_byte trimmed front_length whole_head host_fits head_of verdict_of target_of framed is_utf8 chars encode
trace_023-08-settled = refl

trace_023-10-end : end_marks ((0, called call.Return None) ∷ (0, back) ∷ trace_023_08)
    ≡ (over ∷ [])
unfolding head_text digits date_at count_off is_name_byte
trace_023-10-end = refl

trace_023-10-settled : settled trace_023_limits trace_023_rules 0 ((0, over) ∷ (0, called call.Return None) ∷ (0, back) ∷ trace_023_08)
    ≡ trace_023_10
unfolding settled head_text digits date_at count_off is_name_byte trimmed front_length whole_head host_fits head_of verdict_of target_of framed is_utf8 chars encode
trace_023-10-settled = refl

trace_023-11-settled : settled trace_023_limits trace_023_rules 0 ((0, broken) ∷ (0, caused cause.InFault) ∷ trace_023_10)
    ≡ trace_023_11
unfolding settled head_text digits date_at count_off is_name_byte trimmed front_length whole_head host_fits head_of verdict_of target_of framed is_utf8 chars encode
trace_023-11-settled = refl

trace_023-12-next : next_job (trace_023_11)
    ≡ (Some (job.Service 0))
unfolding head_text digits date_at count_off is_name_byte
trace_023-12-next = refl

trace_023-13-settled : settled trace_023_limits trace_023_rules 0 ((0, called call.Start None) ∷ trace_023_12)
    ≡ trace_023_13
unfolding settled head_text digits date_at count_off is_name_byte trimmed front_length whole_head host_fits head_of verdict_of target_of framed is_utf8 chars encode
trace_023-13-settled = refl

trace_023-14-settled : settled trace_023_limits trace_023_rules 0 ((0, listened 171) ∷ trace_023_13)
    ≡ trace_023_14
unfolding settled head_text digits date_at count_off is_name_byte trimmed front_length whole_head host_fits head_of verdict_of target_of framed is_utf8 chars encode
trace_023-14-settled = refl

trace_023-16-settled : settled trace_023_limits trace_023_rules 0 ((0, read_listener_set) ∷ trace_023_14)
    ≡ trace_023_16
unfolding settled head_text digits date_at count_off is_name_byte trimmed front_length whole_head host_fits head_of verdict_of target_of framed is_utf8 chars encode
trace_023-16-settled = refl

trace_023-17-settled : settled trace_023_limits trace_023_rules 0 ((0, called call.Return None) ∷ (0, back) ∷ trace_023_16)
    ≡ trace_023_17
unfolding settled head_text digits date_at count_off is_name_byte trimmed front_length whole_head host_fits head_of verdict_of target_of framed is_utf8 chars encode
trace_023-17-settled = refl

trace_023-18-next : next_job (trace_023_17)
    ≡ (Some job.AllRead)
unfolding head_text digits date_at count_off is_name_byte
trace_023-18-next = refl

trace_023-19-settled : settled trace_023_limits trace_023_rules 0 ((0, called call.Return None) ∷ (0, back) ∷ trace_023_18)
    ≡ trace_023_19
unfolding settled head_text digits date_at count_off is_name_byte trimmed front_length whole_head host_fits head_of verdict_of target_of framed is_utf8 chars encode
trace_023-19-settled = refl

trace_023-20-tick : tick_move trace_023_limits 29999 trace_023_19
    ≡ None
unfolding head_text digits date_at count_off is_name_byte
trace_023-20-tick = refl

trace_023-26-tick : tick_move trace_023_limits 30000 trace_023_19
    ≡ Some (called call.Timeout None ∷ [])
unfolding head_text digits date_at count_off is_name_byte
trace_023-26-tick = refl

trace_023-26-settled : settled trace_023_limits trace_023_rules 30000 ((30000, called call.Timeout None) ∷ trace_023_19)
    ≡ trace_023_26
unfolding settled head_text digits date_at count_off is_name_byte trimmed front_length whole_head host_fits head_of verdict_of target_of framed is_utf8 chars encode
trace_023-26-settled = refl

trace_023-30-next : next_job (trace_023_26)
    ≡ (Some (job.OnTimeout 0 171))
unfolding head_text digits date_at count_off is_name_byte
trace_023-30-next = refl
