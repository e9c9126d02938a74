-- Traces that another program made, with what it tells of them, computed from the definitions. Made by `cases/rows.py`.
use Rattle.std.proofs.Common.{◌≡◌, true, false, List, [], ◌∷◌, Some, None, codes, refl}
use Rattle.std.specs.Prelude.{pos}
use Rattle.std.specs.Fmt.{digits}
use Rattle.std.specs.Str.{is_utf8, chars}
use lib.Utf8.{encode}
use Rattle.cy_event.specs.declared.framing.Framing.TheVariants as framing
use Rattle.cy_event.specs.declared.limits.Limits.{Limits}
use Rattle.cy_event.specs.declared.steps.Call.TheVariants as call
use Rattle.cy_event.specs.declared.steps.CloseCause.TheVariants as cause
use Rattle.cy_event.specs.declared.steps.Job.TheVariants as job
use Rattle.cy_event.specs.declared.steps.State.TheVariants as state
use Rattle.cy_event.specs.Answers.{head_text}
use Rattle.cy_event.specs.Dates.{date_at, count_off}
use Rattle.cy_event.specs.Framings.{framed}
use Rattle.cy_event.specs.Heads.{is_name_byte, trimmed, front_length, whole_head, host_fits, head_of}
use Rattle.cy_event.specs.Targets.{target_of}
use Rattle.cy_map.specs.declared.rule.Rule.{Rule}
use Rattle.cy_model.specs.Jobs.{next_job}
use Rattle.cy_model.specs.Marks.{Trace, opened, ended, came, sent, began, called, started, back, read_listener_set, answer_reset, put, caused, broken}
use Rattle.cy_model.specs.Settling.{settled}
use Rattle.cy_model.specs.Ticks.{tick_move}
use Rattle.cy_model.specs.Verdicts.{verdict_of}
use Rattle.cy_rows.specs.Told.{answer_told, connection_told, open_told, request_told}

abbrev trace_036_limits : Limits
trace_036_limits = record { max_connections = 256; max_head = 8192; max_fields = 5; max_keep_alive = pos 100; connection_timeout = 20000; async_timeout = 30000; max_swallow = 2097152; max_trailer = 6; parts = 4 }

abbrev trace_036_rules : List Rule
trace_036_rules = record { pattern = (codes "*.do"); part = 3; can_async = true } ∷ record { pattern = (codes "/a/*"); part = 2; can_async = true } ∷ record { pattern = (codes "/x/*"); part = 2; can_async = true } ∷ record { pattern = (codes "/a"); part = 1; can_async = true } ∷ record { pattern = (codes "/"); part = 0; can_async = true } ∷ []

abbrev trace_036_01 : Trace
trace_036_01 = (0, opened) ∷ []

abbrev trace_036_02 : Trace
trace_036_02 = (0, sent 0) ∷ trace_036_01

abbrev trace_036_03 : Trace
trace_036_03 = (0, sent 0) ∷ trace_036_02

abbrev trace_036_04 : Trace
trace_036_04 = (0, began (record { place = 0; size = 27; head = record { method = (codes "GET"); target = (codes "/"); minor = 1; fields = record { name = (codes "Host"); value = (codes "a") } ∷ [] }; framing = framing.None; max_trailer = 6; async_timeout = 30000; part = 0; can_async = true; keep = true; go_on = false })) ∷ (0, came (codes "GET / HTTP/1.1\r\nHost: a\r\n\r\n")) ∷ trace_036_03

abbrev trace_036_05 : Trace
trace_036_05 = (0, called call.Run None) ∷ (0, started (job.Service 0)) ∷ trace_036_04

abbrev trace_036_06 : Trace
trace_036_06 = (0, called call.Start None) ∷ trace_036_05

abbrev trace_036_07 : Trace
trace_036_07 = (0, put []) ∷ trace_036_06

abbrev trace_036_08 : Trace
trace_036_08 = (0, read_listener_set) ∷ trace_036_07

abbrev trace_036_10 : Trace
trace_036_10 = (0, sent 0) ∷ trace_036_08

abbrev trace_036_11 : Trace
trace_036_11 = (0, put (255 ∷ 255 ∷ 255 ∷ [])) ∷ trace_036_10

abbrev trace_036_12 : Trace
trace_036_12 = (0, called call.Return None) ∷ (0, back) ∷ trace_036_11

abbrev trace_036_13 : Trace
trace_036_13 = (0, called call.Fault None) ∷ (0, broken) ∷ (0, caused cause.OutFault) ∷ trace_036_12

trace_036-connection : connection_told trace_036_13
    ≡ record {
      came = 27;
      consumed = 27;
      room = 16384;
      has_ended = false;
      cause = (Some cause.OutFault);
      is_broken = true;
      is_gone = false;
      is_open = true;
      begun = 1;
      output = [];
      took = 0;
      unsent = 0;
      idle_since = 0;
      next_job = (Some job.ReadError);
      charts = (call.Run ∷ call.Start ∷ call.Return ∷ call.Fault ∷ []) ∷ [];
    }
unfolding head_text digits date_at count_off is_name_byte
trace_036-connection = refl

trace_036-request : request_told trace_036_13
    ≡ record {
      part = 0;
      state = state.Error;
      running = None;
      parked = None;
      given = 0;
      is_end_told = false;
      waiting = 0;
      used = 0;
      swallowed = 0;
      has_whole_body = true;
      has_bad_body = false;
      listeners = [];
      owed = job.ReadError ∷ [];
      deadline = (Some 30000);
      ready = record { read_set = true; read_armed = true; all_read_told = false; write_set = false; write_armed = false };
    }
unfolding is_name_byte
trace_036-request = refl

trace_036-answer : answer_told trace_036_13
    ≡ record {
      status = 200;
      fields = [];
      set_length = None;
      content = 3;
      is_aborted = false;
    }
unfolding digits
trace_036-answer = refl

trace_036-open : open_told trace_036_13
    ≡ record {
      is_committed = false;
      takes_one = true;
      has_to_cut = true;
    }
unfolding head_text digits date_at count_off is_name_byte
trace_036-open = refl

trace_036-01-settled : settled trace_036_limits trace_036_rules 0 ((0, opened) ∷ [])
    ≡ trace_036_01
unfolding settled head_text digits date_at count_off is_name_byte trimmed front_length whole_head host_fits head_of verdict_of target_of framed is_utf8 chars encode
trace_036-01-settled = refl

trace_036-02-settled : settled trace_036_limits trace_036_rules 0 ((0, sent 0) ∷ trace_036_01)
    ≡ trace_036_02
unfolding settled head_text digits date_at count_off is_name_byte trimmed front_length whole_head host_fits head_of verdict_of target_of framed is_utf8 chars encode
trace_036-02-settled = refl

trace_036-03-settled : settled trace_036_limits trace_036_rules 0 ((0, sent 0) ∷ trace_036_02)
    ≡ trace_036_03
unfolding settled head_text digits date_at count_off is_name_byte trimmed front_length whole_head host_fits head_of verdict_of target_of framed is_utf8 chars encode
trace_036-03-settled = refl

trace_036-04-settled : settled trace_036_limits trace_036_rules 0 ((0, came (codes "GET / HTTP/1.1\r\nHost: a\r\n\r\n")) ∷ trace_036_03)
    ≡ trace_036_04
unfolding settled head_text digits date_at count_off is_name_byte trimmed front_length whole_head host_fits head_of verdict_of target_of framed is_utf8 chars encode
trace_036-04-settled = refl

trace_036-05-next : next_job (trace_036_04)
    ≡ (Some (job.Service 0))
unfolding head_text digits date_at count_off is_name_byte
trace_036-05-next = refl

trace_036-06-settled : settled trace_036_limits trace_036_rules 0 ((0, called call.Start None) ∷ trace_036_05)
    ≡ trace_036_06
unfolding settled head_text digits date_at count_off is_name_byte trimmed front_length whole_head host_fits head_of verdict_of target_of framed is_utf8 chars encode
trace_036-06-settled = refl

trace_036-07-settled : settled trace_036_limits trace_036_rules 0 ((0, put []) ∷ trace_036_06)
    ≡ trace_036_07
unfolding settled head_text digits date_at count_off is_name_byte trimmed front_length whole_head host_fits head_of verdict_of target_of framed is_utf8 chars encode
trace_036-07-settled = refl

trace_036-08-settled : settled trace_036_limits trace_036_rules 0 ((0, read_listener_set) ∷ trace_036_07)
    ≡ trace_036_08
unfolding settled head_text digits date_at count_off is_name_byte trimmed front_length whole_head host_fits head_of verdict_of target_of framed is_utf8 chars encode
trace_036-08-settled = refl

trace_036-10-settled : settled trace_036_limits trace_036_rules 0 ((0, sent 0) ∷ trace_036_08)
    ≡ trace_036_10
unfolding settled head_text digits date_at count_off is_name_byte trimmed front_length whole_head host_fits head_of verdict_of target_of framed is_utf8 chars encode
trace_036-10-settled = refl

trace_036-11-settled : settled trace_036_limits trace_036_rules 0 ((0, put (255 ∷ 255 ∷ 255 ∷ [])) ∷ trace_036_10)
    ≡ trace_036_11
unfolding settled head_text digits date_at count_off is_name_byte trimmed front_length whole_head host_fits head_of verdict_of target_of framed is_utf8 chars encode
trace_036-11-settled = refl

trace_036-12-settled : settled trace_036_limits trace_036_rules 0 ((0, called call.Return None) ∷ (0, back) ∷ trace_036_11)
    ≡ trace_036_12
unfolding settled head_text digits date_at count_off is_name_byte trimmed front_length whole_head host_fits head_of verdict_of target_of framed is_utf8 chars encode
trace_036-12-settled = refl

trace_036-13-settled : settled trace_036_limits trace_036_rules 0 ((0, called call.Fault None) ∷ (0, broken) ∷ (0, caused cause.OutFault) ∷ trace_036_12)
    ≡ trace_036_13
unfolding settled head_text digits date_at count_off is_name_byte trimmed front_length whole_head host_fits head_of verdict_of target_of framed is_utf8 chars encode
trace_036-13-settled = refl

trace_036-18-tick : tick_move trace_036_limits 1 trace_036_13
    ≡ None
unfolding head_text digits date_at count_off is_name_byte
trace_036-18-tick = refl

abbrev trace_037_limits : Limits
trace_037_limits = record { max_connections = 256; max_head = 8192; max_fields = 100; max_keep_alive = pos 100; connection_timeout = 20000; async_timeout = 30000; max_swallow = 2097152; max_trailer = 8192; parts = 5 }

abbrev trace_037_rules : List Rule
trace_037_rules = record { pattern = (codes "/x/*"); part = 2; can_async = false } ∷ record { pattern = (codes "/*"); part = 4; can_async = true } ∷ record { pattern = (codes "/a/*"); part = 2; can_async = true } ∷ []

abbrev trace_037_01 : Trace
trace_037_01 = (0, opened) ∷ []

abbrev trace_037_02 : Trace
trace_037_02 = (0, began (record { place = 0; size = 90; head = record { method = (codes "PUT"); target = (codes "/"); minor = 1; fields = record { name = (codes "Host"); value = (codes "a.b%41") } ∷ record { name = (codes "Connection"); value = (codes "keep-alive") } ∷ record { name = (codes "Transfer-Encoding"); value = (codes "chunked") } ∷ record { name = (codes "X"); value = (codes "l") } ∷ [] }; framing = framing.Chunked; max_trailer = 8192; async_timeout = 30000; part = 4; can_async = true; keep = true; go_on = false })) ∷ (0, came (codes "PUT / HTTP/1.1\r\nHost: a.b%41\r\nConnection: keep-alive\r\nTransfer-Encoding: chunked\r\nX: l\r\n\r\n")) ∷ trace_037_01

abbrev trace_037_03 : Trace
trace_037_03 = (0, caused cause.InputEnd) ∷ (0, ended) ∷ trace_037_02

abbrev trace_037_04 : Trace
trace_037_04 = (0, called call.Run None) ∷ (0, started (job.Service 4)) ∷ trace_037_03

abbrev trace_037_06 : Trace
trace_037_06 = (0, called call.Start None) ∷ trace_037_04

abbrev trace_037_07 : Trace
trace_037_07 = (0, answer_reset) ∷ trace_037_06

abbrev trace_037_08 : Trace
trace_037_08 = (0, called call.CompleteOwn None) ∷ trace_037_07

trace_037-connection : connection_told trace_037_08
    ≡ record {
      came = 90;
      consumed = 90;
      room = 16384;
      has_ended = true;
      cause = (Some cause.InputEnd);
      is_broken = false;
      is_gone = false;
      is_open = true;
      begun = 1;
      output = [];
      took = 0;
      unsent = 0;
      idle_since = 0;
      next_job = None;
      charts = (call.Run ∷ call.Start ∷ call.CompleteOwn ∷ []) ∷ [];
    }
unfolding head_text digits date_at count_off is_name_byte
trace_037-connection = refl

trace_037-request : request_told trace_037_08
    ≡ record {
      part = 4;
      state = state.MustComplete;
      running = (Some (job.Service 4));
      parked = None;
      given = 0;
      is_end_told = false;
      waiting = 0;
      used = 0;
      swallowed = 0;
      has_whole_body = false;
      has_bad_body = false;
      listeners = [];
      owed = [];
      deadline = None;
      ready = record { read_set = false; read_armed = false; all_read_told = false; write_set = false; write_armed = false };
    }
unfolding is_name_byte
trace_037-request = refl

trace_037-answer : answer_told trace_037_08
    ≡ record {
      status = 200;
      fields = [];
      set_length = None;
      content = 0;
      is_aborted = false;
    }
unfolding digits
trace_037-answer = refl

trace_037-open : open_told trace_037_08
    ≡ record {
      is_committed = false;
      takes_one = true;
      has_to_cut = true;
    }
unfolding head_text digits date_at count_off is_name_byte
trace_037-open = refl

trace_037-01-settled : settled trace_037_limits trace_037_rules 0 ((0, opened) ∷ [])
    ≡ trace_037_01
unfolding settled head_text digits date_at count_off is_name_byte trimmed front_length whole_head host_fits head_of verdict_of target_of framed is_utf8 chars encode
trace_037-01-settled = refl

trace_037-02-settled : settled trace_037_limits trace_037_rules 0 ((0, came (codes "PUT / HTTP/1.1\r\nHost: a.b%41\r\nConnection: keep-alive\r\nTransfer-Encoding: chunked\r\nX: l\r\n\r\n")) ∷ trace_037_01)
    ≡ trace_037_02
unfolding settled head_text digits date_at count_off is_name_byte trimmed front_length whole_head host_fits head_of verdict_of target_of framed is_utf8 chars encode
trace_037-02-settled = refl

trace_037-03-settled : settled trace_037_limits trace_037_rules 0 ((0, ended) ∷ trace_037_02)
    ≡ trace_037_03
unfolding settled head_text digits date_at count_off is_name_byte trimmed front_length whole_head host_fits head_of verdict_of target_of framed is_utf8 chars encode
trace_037-03-settled = refl

trace_037-04-next : next_job (trace_037_03)
    ≡ (Some (job.Service 4))
unfolding head_text digits date_at count_off is_name_byte
trace_037-04-next = refl

trace_037-06-settled : settled trace_037_limits trace_037_rules 0 ((0, called call.Start None) ∷ trace_037_04)
    ≡ trace_037_06
unfolding settled head_text digits date_at count_off is_name_byte trimmed front_length whole_head host_fits head_of verdict_of target_of framed is_utf8 chars encode
trace_037-06-settled = refl

trace_037-07-settled : settled trace_037_limits trace_037_rules 0 ((0, answer_reset) ∷ trace_037_06)
    ≡ trace_037_07
unfolding settled head_text digits date_at count_off is_name_byte trimmed front_length whole_head host_fits head_of verdict_of target_of framed is_utf8 chars encode
trace_037-07-settled = refl

trace_037-08-settled : settled trace_037_limits trace_037_rules 0 ((0, called call.CompleteOwn None) ∷ trace_037_07)
    ≡ trace_037_08
unfolding settled head_text digits date_at count_off is_name_byte trimmed front_length whole_head host_fits head_of verdict_of target_of framed is_utf8 chars encode
trace_037-08-settled = refl
