-- Traces that another program made, with what it tells of them, computed from the definitions. Made by `cases/rows.py`.
use Rattle.std.proofs.Common.{◌≡◌, true, false, List, [], ◌∷◌, Some, None, codes, refl}
use Rattle.std.specs.Prelude.{pos}
use Rattle.std.specs.Fmt.{digits}
use Rattle.std.specs.Str.{is_utf8, chars}
use lib.Utf8.{encode}
use Rattle.cy_event.specs.declared.framing.Framing.TheVariants as framing
use Rattle.cy_event.specs.declared.limits.Limits.{Limits}
use Rattle.cy_event.specs.declared.steps.Call.TheVariants as call
use Rattle.cy_event.specs.declared.steps.CloseCause.TheVariants as cause
use Rattle.cy_event.specs.declared.steps.Job.TheVariants as job
use Rattle.cy_event.specs.declared.steps.State.TheVariants as state
use Rattle.cy_event.specs.Answers.{head_text}
use Rattle.cy_event.specs.Dates.{date_at, count_off}
use Rattle.cy_event.specs.Framings.{framed}
use Rattle.cy_event.specs.Heads.{is_name_byte, trimmed, front_length, whole_head, host_fits, head_of}
use Rattle.cy_event.specs.Targets.{target_of}
use Rattle.cy_map.specs.declared.rule.Rule.{Rule}
use Rattle.cy_model.specs.Endings.{end_marks}
use Rattle.cy_model.specs.Jobs.{next_job}
use Rattle.cy_model.specs.Marks.{Trace, output_side, opened, came, sent, began, refused, called, started, parked, back, answer_reset, over, caused, broken}
use Rattle.cy_model.specs.Replies.{plain}
use Rattle.cy_model.specs.Settling.{settled}
use Rattle.cy_model.specs.Verdicts.{verdict_of}
use Rattle.cy_rows.specs.Told.{answer_told, connection_told, open_told, request_told}

abbrev trace_044_limits : Limits
trace_044_limits = record { max_connections = 256; max_head = 8192; max_fields = 100; max_keep_alive = pos 100; connection_timeout = 20000; async_timeout = 30000; max_swallow = 2097152; max_trailer = 8192; parts = 3 }

abbrev trace_044_rules : List Rule
trace_044_rules = record { pattern = (codes "/"); part = 0; can_async = true } ∷ record { pattern = (codes "/a"); part = 1; can_async = true } ∷ record { pattern = (codes "/x/*"); part = 2; can_async = false } ∷ []

abbrev trace_044_01 : Trace
trace_044_01 = (0, opened) ∷ []

abbrev trace_044_02 : Trace
trace_044_02 = (0, began (record { place = 0; size = 27; head = record { method = (codes "GET"); target = (codes "/"); minor = 1; fields = record { name = (codes "Host"); value = (codes "a") } ∷ [] }; framing = framing.None; max_trailer = 8192; async_timeout = 30000; part = 0; can_async = true; keep = true; go_on = false })) ∷ (0, came (codes "GET / HTTP/1.1\r\nHost: a\r\n\r\n")) ∷ trace_044_01

abbrev trace_044_03 : Trace
trace_044_03 = (0, came (codes "GET / HTTP/1.1\r\nHost: a\r\n\r\n")) ∷ trace_044_02

abbrev trace_044_04 : Trace
trace_044_04 = (0, came (codes "GET / HTTP/1.1\r\nHost: a\r\n\r\n")) ∷ trace_044_03

abbrev trace_044_05 : Trace
trace_044_05 = (0, broken) ∷ (0, caused cause.InFault) ∷ trace_044_04

trace_044-connection : connection_told trace_044_05
    ≡ record {
      came = 81;
      consumed = 27;
      room = 16330;
      has_ended = false;
      cause = (Some cause.InFault);
      is_broken = true;
      is_gone = false;
      is_open = true;
      begun = 1;
      output = [];
      took = 0;
      unsent = 0;
      idle_since = 0;
      next_job = (Some (job.Service 0));
      charts = ([]) ∷ [];
    }
unfolding head_text digits date_at count_off is_name_byte
trace_044-connection = refl

trace_044-request : request_told trace_044_05
    ≡ record {
      part = 0;
      state = state.Dispatched;
      running = None;
      parked = None;
      given = 0;
      is_end_told = false;
      waiting = 0;
      used = 0;
      swallowed = 0;
      has_whole_body = true;
      has_bad_body = false;
      listeners = [];
      owed = [];
      deadline = None;
      ready = record { read_set = false; read_armed = false; all_read_told = false; write_set = false; write_armed = false };
    }
unfolding is_name_byte
trace_044-request = refl

trace_044-answer : answer_told trace_044_05
    ≡ record {
      status = 200;
      fields = [];
      set_length = None;
      content = 0;
      is_aborted = false;
    }
unfolding digits
trace_044-answer = refl

trace_044-open : open_told trace_044_05
    ≡ record {
      is_committed = false;
      takes_one = true;
      has_to_cut = true;
    }
unfolding head_text digits date_at count_off is_name_byte
trace_044-open = refl

trace_044-01-settled : settled trace_044_limits trace_044_rules 0 ((0, opened) ∷ [])
    ≡ trace_044_01
unfolding settled head_text digits date_at count_off is_name_byte trimmed front_length whole_head host_fits head_of verdict_of target_of framed is_utf8 chars encode
trace_044-01-settled = refl

trace_044-02-settled : settled trace_044_limits trace_044_rules 0 ((0, came (codes "GET / HTTP/1.1\r\nHost: a\r\n\r\n")) ∷ trace_044_01)
    ≡ trace_044_02
unfolding settled head_text digits date_at count_off is_name_byte trimmed front_length whole_head host_fits head_of verdict_of target_of framed is_utf8 chars encode
trace_044-02-settled = refl

trace_044-03-settled : settled trace_044_limits trace_044_rules 0 ((0, came (codes "GET / HTTP/1.1\r\nHost: a\r\n\r\n")) ∷ trace_044_02)
    ≡ trace_044_03
unfolding settled head_text digits date_at count_off is_name_byte trimmed front_length whole_head host_fits head_of verdict_of target_of framed is_utf8 chars encode
trace_044-03-settled = refl

trace_044-04-settled : settled trace_044_limits trace_044_rules 0 ((0, came (codes "GET / HTTP/1.1\r\nHost: a\r\n\r\n")) ∷ trace_044_03)
    ≡ trace_044_04
unfolding settled head_text digits date_at count_off is_name_byte trimmed front_length whole_head host_fits head_of verdict_of target_of framed is_utf8 chars encode
trace_044-04-settled = refl

trace_044-05-settled : settled trace_044_limits trace_044_rules 0 ((0, broken) ∷ (0, caused cause.InFault) ∷ trace_044_04)
    ≡ trace_044_05
unfolding settled head_text digits date_at count_off is_name_byte trimmed front_length whole_head host_fits head_of verdict_of target_of framed is_utf8 chars encode
trace_044-05-settled = refl

abbrev trace_047_limits : Limits
trace_047_limits = record { max_connections = 256; max_head = 8192; max_fields = 100; max_keep_alive = pos 100; connection_timeout = 20000; async_timeout = 30000; max_swallow = 2097152; max_trailer = 8192; parts = 3 }

abbrev trace_047_rules : List Rule
trace_047_rules = record { pattern = (codes "/"); part = 0; can_async = true } ∷ record { pattern = (codes "/a"); part = 1; can_async = true } ∷ record { pattern = (codes "/x/*"); part = 2; can_async = false } ∷ []

abbrev trace_047_01 : Trace
trace_047_01 = (0, opened) ∷ []

abbrev trace_047_02 : Trace
trace_047_02 = (0, caused cause.Refused) ∷ (0, refused 417 false) ∷ (0, came (codes "\r\nGET / HTTP/1.1\r\nHost: \r\nConnection: close\r\nExpect: 200-ok\r\nCookie: x=1; y=2\r\n\r\n\r\nPOST / HTTP/1.1\r\nConnection: ,\r\nHost: a\r\n\r\n")) ∷ trace_047_01

abbrev trace_047_03 : Trace
trace_047_03 = (0, sent 129) ∷ trace_047_02

trace_047-connection : connection_told trace_047_03
    ≡ record {
      came = 126;
      consumed = 0;
      room = 16258;
      has_ended = false;
      cause = (Some cause.Refused);
      is_broken = false;
      is_gone = true;
      is_open = false;
      begun = 0;
      output = (codes "HTTP/1.1 417 \r\nContent-Type: text/plain\r\nContent-Length: 10\r\nDate: Thu, 01 Jan 1970 00:00:00 GMT\r\nConnection: close\r\n\r\nError 417\n");
      took = 129;
      unsent = 0;
      idle_since = 0;
      next_job = None;
      charts = [];
    }
unfolding head_text digits date_at count_off is_name_byte
trace_047-connection = refl

trace_047-01-settled : settled trace_047_limits trace_047_rules 0 ((0, opened) ∷ [])
    ≡ trace_047_01
unfolding settled head_text digits date_at count_off is_name_byte trimmed front_length whole_head host_fits head_of verdict_of target_of framed is_utf8 chars encode
trace_047-01-settled = refl

trace_047-02-settled : settled trace_047_limits trace_047_rules 0 ((0, came (codes "\r\nGET / HTTP/1.1\r\nHost: \r\nConnection: close\r\nExpect: 200-ok\r\nCookie: x=1; y=2\r\n\r\n\r\nPOST / HTTP/1.1\r\nConnection: ,\r\nHost: a\r\n\r\n")) ∷ trace_047_01)
    ≡ trace_047_02
unfolding settled head_text digits date_at count_off is_name_byte trimmed front_length whole_head host_fits head_of verdict_of target_of framed is_utf8 chars encode
trace_047-02-settled = refl

trace_047-03-settled : settled trace_047_limits trace_047_rules 0 ((0, sent 129) ∷ trace_047_02)
    ≡ trace_047_03
unfolding settled head_text digits date_at count_off is_name_byte trimmed front_length whole_head host_fits head_of verdict_of target_of framed is_utf8 chars encode
trace_047-03-settled = refl

abbrev trace_053_limits : Limits
trace_053_limits = record { max_connections = 256; max_head = 8192; max_fields = 100; max_keep_alive = pos 100; connection_timeout = 20000; async_timeout = 30000; max_swallow = 2097152; max_trailer = 8192; parts = 3 }

abbrev trace_053_rules : List Rule
trace_053_rules = record { pattern = (codes "/"); part = 0; can_async = true } ∷ record { pattern = (codes "/a"); part = 1; can_async = true } ∷ record { pattern = (codes "/x/*"); part = 2; can_async = false } ∷ []

abbrev trace_053_01 : Trace
trace_053_01 = (0, opened) ∷ []

abbrev trace_053_02 : Trace
trace_053_02 = (0, began (record { place = 0; size = 25; head = record { method = (codes "PUT"); target = (codes "/x"); minor = 1; fields = record { name = (codes "Host"); value = (codes "a") } ∷ [] }; framing = framing.None; max_trailer = 8192; async_timeout = 30000; part = 2; can_async = false; keep = true; go_on = false })) ∷ (0, came (codes "PUT /x HTTP/1.1\nHost: a\n\n")) ∷ trace_053_01

abbrev trace_053_03 : Trace
trace_053_03 = (0, sent 0) ∷ trace_053_02

abbrev trace_053_04 : Trace
trace_053_04 = (0, called call.Run None) ∷ (0, started (job.Service 2)) ∷ trace_053_03

abbrev trace_053_05 : Trace
trace_053_05 = (0, answer_reset) ∷ trace_053_04

abbrev trace_053_07 : Trace
trace_053_07 = (0, over) ∷ (0, called call.Return None) ∷ (0, back) ∷ trace_053_05

abbrev trace_053_08 : Trace
trace_053_08 = (0, sent 73) ∷ trace_053_07

abbrev trace_053_09 : Trace
trace_053_09 = (0, began (record { place = 25; size = 110; head = record { method = (codes "PUT"); target = (codes "/"); minor = 1; fields = record { name = (codes "Host"); value = (codes "localhost:8080") } ∷ record { name = (codes "Connection"); value = (codes "close") } ∷ record { name = (codes "transfer-encoding"); value = (codes "chunked") } ∷ record { name = (codes "Cookie"); value = (codes "x=1; y=2") } ∷ record { name = (codes "A"); value = (codes "b") } ∷ [] }; framing = framing.Chunked; max_trailer = 8192; async_timeout = 30000; part = 0; can_async = true; keep = false; go_on = false })) ∷ (0, came (codes "PUT / HTTP/1.1\r\nHost: localhost:8080\r\nConnection: close\r\ntransfer-encoding:chunked\r\nCookie: x=1; y=2\r\nA: b\r\n\r\n0")) ∷ trace_053_08

abbrev trace_053_10 : Trace
trace_053_10 = (0, called call.Run None) ∷ (0, started (job.Service 0)) ∷ trace_053_09

abbrev trace_053_11 : Trace
trace_053_11 = (0, called call.Start None) ∷ trace_053_10

abbrev trace_053_12 : Trace
trace_053_12 = (0, parked output_side) ∷ trace_053_11

abbrev trace_053_13 : Trace
trace_053_13 = (0, called call.DispatchOther None) ∷ trace_053_12

abbrev trace_053_14 : Trace
trace_053_14 = (0, sent 0) ∷ trace_053_13

trace_053-connection : connection_told trace_053_14
    ≡ record {
      came = 136;
      consumed = 135;
      room = 16383;
      has_ended = false;
      cause = None;
      is_broken = false;
      is_gone = false;
      is_open = true;
      begun = 2;
      output = (codes "HTTP/1.1 200 \r\nContent-Length: 0\r\nDate: Thu, 01 Jan 1970 00:00:00 GMT\r\n\r\n");
      took = 73;
      unsent = 0;
      idle_since = 0;
      next_job = (Some job.Resume);
      charts = (call.Run ∷ call.Return ∷ []) ∷ (call.Run ∷ call.Start ∷ call.DispatchOther ∷ []) ∷ [];
    }
unfolding head_text digits date_at count_off is_name_byte
trace_053-connection = refl

trace_053-request : request_told trace_053_14
    ≡ record {
      part = 0;
      state = state.DispatchPending;
      running = None;
      parked = (Some (record { side = output_side; since = 0 }));
      given = 0;
      is_end_told = false;
      waiting = 0;
      used = 0;
      swallowed = 0;
      has_whole_body = false;
      has_bad_body = false;
      listeners = [];
      owed = [];
      deadline = None;
      ready = record { read_set = false; read_armed = false; all_read_told = false; write_set = false; write_armed = false };
    }
unfolding is_name_byte
trace_053-request = refl

trace_053-answer : answer_told trace_053_14
    ≡ record {
      status = 200;
      fields = [];
      set_length = None;
      content = 0;
      is_aborted = false;
    }
unfolding digits
trace_053-answer = refl

trace_053-open : open_told trace_053_14
    ≡ record {
      is_committed = false;
      takes_one = true;
      has_to_cut = true;
    }
unfolding head_text digits date_at count_off is_name_byte
trace_053-open = refl

trace_053-01-settled : settled trace_053_limits trace_053_rules 0 ((0, opened) ∷ [])
    ≡ trace_053_01
unfolding settled head_text digits date_at count_off is_name_byte trimmed front_length whole_head host_fits head_of verdict_of target_of framed is_utf8 chars encode
trace_053-01-settled = refl

trace_053-02-settled : settled trace_053_limits trace_053_rules 0 ((0, came (codes "PUT /x HTTP/1.1\nHost: a\n\n")) ∷ trace_053_01)
    ≡ trace_053_02
unfolding settled head_text digits date_at count_off is_name_byte trimmed front_length whole_head host_fits head_of verdict_of target_of framed is_utf8 chars encode
trace_053-02-settled = refl

trace_053-03-settled : settled trace_053_limits trace_053_rules 0 ((0, sent 0) ∷ trace_053_02)
    ≡ trace_053_03
unfolding settled head_text digits date_at count_off is_name_byte trimmed front_length whole_head host_fits head_of verdict_of target_of framed is_utf8 chars encode
trace_053-03-settled = refl

trace_053-04-next : next_job (trace_053_03)
    ≡ (Some (job.Service 2))
unfolding head_text digits date_at count_off is_name_byte
trace_053-04-next = refl

trace_053-05-settled : settled trace_053_limits trace_053_rules 0 ((0, answer_reset) ∷ trace_053_04)
    ≡ trace_053_05
unfolding settled head_text digits date_at count_off is_name_byte trimmed front_length whole_head host_fits head_of verdict_of target_of framed is_utf8 chars encode
trace_053-05-settled = refl

trace_053-07-end : end_marks ((0, called call.Return None) ∷ (0, back) ∷ trace_053_05)
    ≡ (over ∷ [])
unfolding head_text digits date_at count_off is_name_byte
trace_053-07-end = refl

trace_053-07-settled : settled trace_053_limits trace_053_rules 0 ((0, over) ∷ (0, called call.Return None) ∷ (0, back) ∷ trace_053_05)
    ≡ trace_053_07
unfolding settled head_text digits date_at count_off is_name_byte trimmed front_length whole_head host_fits head_of verdict_of target_of framed is_utf8 chars encode
trace_053-07-settled = refl

trace_053-08-settled : settled trace_053_limits trace_053_rules 0 ((0, sent 73) ∷ trace_053_07)
    ≡ trace_053_08
unfolding settled head_text digits date_at count_off is_name_byte trimmed front_length whole_head host_fits head_of verdict_of target_of framed is_utf8 chars encode
trace_053-08-settled = refl

trace_053-09-settled : settled trace_053_limits trace_053_rules 0 ((0, came (codes "PUT / HTTP/1.1\r\nHost: localhost:8080\r\nConnection: close\r\ntransfer-encoding:chunked\r\nCookie: x=1; y=2\r\nA: b\r\n\r\n0")) ∷ trace_053_08)
    ≡ trace_053_09
unfolding settled head_text digits date_at count_off is_name_byte trimmed front_length whole_head host_fits head_of verdict_of target_of framed is_utf8 chars encode
trace_053-09-settled = refl

trace_053-10-next : next_job (trace_053_09)
    ≡ (Some (job.Service 0))
unfolding head_text digits date_at count_off is_name_byte
trace_053-10-next = refl

trace_053-11-settled : settled trace_053_limits trace_053_rules 0 ((0, called call.Start None) ∷ trace_053_10)
    ≡ trace_053_11
unfolding settled head_text digits date_at count_off is_name_byte trimmed front_length whole_head host_fits head_of verdict_of target_of framed is_utf8 chars encode
trace_053-11-settled = refl

trace_053-12-settled : settled trace_053_limits trace_053_rules 0 ((0, parked output_side) ∷ trace_053_11)
    ≡ trace_053_12
unfolding settled head_text digits date_at count_off is_name_byte trimmed front_length whole_head host_fits head_of verdict_of target_of framed is_utf8 chars encode
trace_053-12-settled = refl

trace_053-14-settled : settled trace_053_limits trace_053_rules 0 ((0, sent 0) ∷ trace_053_13)
    ≡ trace_053_14
unfolding settled head_text digits date_at count_off is_name_byte trimmed front_length whole_head host_fits head_of verdict_of target_of framed is_utf8 chars encode
trace_053-14-settled = refl
