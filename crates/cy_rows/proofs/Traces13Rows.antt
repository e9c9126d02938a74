-- Traces that another program made, with what it tells of them, computed from the definitions. Made by `cases/rows.py`.
use Rattle.std.proofs.Common.{◌≡◌, true, false, List, [], ◌∷◌, Some, None, codes, refl}
use Rattle.std.specs.Prelude.{pos, negsuc}
use Rattle.std.specs.Fmt.{digits}
use Rattle.std.specs.Str.{is_utf8, chars}
use lib.Utf8.{encode}
use Rattle.cy_event.specs.declared.framing.Framing.TheVariants as framing
use Rattle.cy_event.specs.declared.limits.Limits.{Limits}
use Rattle.cy_event.specs.declared.steps.Call.TheVariants as call
use Rattle.cy_event.specs.declared.steps.CloseCause.TheVariants as cause
use Rattle.cy_event.specs.declared.steps.Job.TheVariants as job
use Rattle.cy_event.specs.declared.steps.State.TheVariants as state
use Rattle.cy_event.specs.Answers.{head_text}
use Rattle.cy_event.specs.Dates.{date_at, count_off}
use Rattle.cy_event.specs.Framings.{framed}
use Rattle.cy_event.specs.Heads.{is_name_byte, trimmed, front_length, whole_head, host_fits, head_of}
use Rattle.cy_event.specs.Targets.{target_of}
use Rattle.cy_map.specs.declared.rule.Rule.{Rule}
use Rattle.cy_model.specs.Endings.{end_marks}
use Rattle.cy_model.specs.Jobs.{next_job}
use Rattle.cy_model.specs.Marks.{Trace, input_side, opened, came, sent, began, refused, called, started, back, not_ready, put, error_answer, over, caused}
use Rattle.cy_model.specs.Replies.{plain}
use Rattle.cy_model.specs.Settling.{settled}
use Rattle.cy_model.specs.Ticks.{tick_move}
use Rattle.cy_model.specs.Verdicts.{verdict_of}
use Rattle.cy_rows.specs.Told.{answer_told, connection_told, request_told}

abbrev trace_038_limits : Limits
trace_038_limits = record { max_connections = 256; max_head = 8192; max_fields = 100; max_keep_alive = negsuc 0; connection_timeout = 20000; async_timeout = 30000; max_swallow = 2097152; max_trailer = 6; parts = 3 }

abbrev trace_038_rules : List Rule
trace_038_rules = record { pattern = (codes "/"); part = 0; can_async = true } ∷ record { pattern = (codes "/a"); part = 1; can_async = true } ∷ record { pattern = (codes "/x/*"); part = 2; can_async = false } ∷ []

abbrev trace_038_01 : Trace
trace_038_01 = (0, opened) ∷ []

abbrev trace_038_02 : Trace
trace_038_02 = (0, caused cause.BadBody) ∷ (0, began (record { place = 0; size = 69; head = record { method = (codes "POST"); target = (codes "/"); minor = 1; fields = record { name = (codes "Host"); value = (codes "a.b%41") } ∷ record { name = (codes "Transfer-Encoding"); value = (codes "chunked") } ∷ record { name = (codes "A"); value = (codes "b") } ∷ record { name = (codes "A"); value = (codes "b") } ∷ [] }; framing = framing.Chunked; max_trailer = 6; async_timeout = 30000; part = 0; can_async = true; keep = true; go_on = false })) ∷ (0, came (codes "\r\nPOST / HTTP/1.1\nHost: a.b%41\nTransfer-Encoding: chunked\nA: b\nA: b\n\n05\r\nolnml\r\n0\r\nT: v\r\nVery-Long-Name: vvvvvvvv\r\n\r\n")) ∷ trace_038_01

abbrev trace_038_03 : Trace
trace_038_03 = (0, called call.Run None) ∷ (0, started (job.Service 0)) ∷ trace_038_02

abbrev trace_038_04 : Trace
trace_038_04 = (0, over) ∷ (0, error_answer 400) ∷ (0, error_answer 500) ∷ (0, called call.Fail None) ∷ (0, back) ∷ trace_038_03

abbrev trace_038_05 : Trace
trace_038_05 = (0, sent 129) ∷ trace_038_04

trace_038-connection : connection_told trace_038_05
    ≡ record {
      came = 117;
      consumed = 85;
      room = 16352;
      has_ended = false;
      cause = (Some cause.BadBody);
      is_broken = false;
      is_gone = true;
      is_open = false;
      begun = 1;
      output = (codes "HTTP/1.1 400 \r\nContent-Type: text/plain\r\nContent-Length: 10\r\nDate: Thu, 01 Jan 1970 00:00:00 GMT\r\nConnection: close\r\n\r\nError 400\n");
      took = 129;
      unsent = 0;
      idle_since = 0;
      next_job = None;
      charts = (call.Run ∷ call.Fail ∷ []) ∷ [];
    }
unfolding head_text digits date_at count_off is_name_byte
trace_038-connection = refl

trace_038-request : request_told trace_038_05
    ≡ record {
      part = 0;
      state = state.Dispatched;
      running = None;
      parked = None;
      given = 0;
      is_end_told = false;
      waiting = 0;
      used = 16;
      swallowed = 16;
      has_whole_body = false;
      has_bad_body = true;
      listeners = [];
      owed = [];
      deadline = None;
      ready = record { read_set = false; read_armed = false; all_read_told = false; write_set = false; write_armed = false };
    }
unfolding is_name_byte
trace_038-request = refl

trace_038-answer : answer_told trace_038_05
    ≡ record {
      status = 400;
      fields = record { name = (codes "Content-Type"); value = (codes "text/plain") } ∷ [];
      set_length = None;
      content = 10;
      is_aborted = false;
    }
unfolding digits
trace_038-answer = refl

trace_038-01-settled : settled trace_038_limits trace_038_rules 0 ((0, opened) ∷ [])
    ≡ trace_038_01
unfolding settled head_text digits date_at count_off is_name_byte trimmed front_length whole_head host_fits head_of verdict_of target_of framed is_utf8 chars encode
trace_038-01-settled = refl

trace_038-02-settled : settled trace_038_limits trace_038_rules 0 ((0, came (codes "\r\nPOST / HTTP/1.1\nHost: a.b%41\nTransfer-Encoding: chunked\nA: b\nA: b\n\n05\r\nolnml\r\n0\r\nT: v\r\nVery-Long-Name: vvvvvvvv\r\n\r\n")) ∷ trace_038_01)
    ≡ trace_038_02
unfolding settled head_text digits date_at count_off is_name_byte trimmed front_length whole_head host_fits head_of verdict_of target_of framed is_utf8 chars encode
trace_038-02-settled = refl

trace_038-03-next : next_job (trace_038_02)
    ≡ (Some (job.Service 0))
unfolding head_text digits date_at count_off is_name_byte
trace_038-03-next = refl

trace_038-04-end : end_marks ((0, error_answer 500) ∷ (0, called call.Fail None) ∷ (0, back) ∷ trace_038_03)
    ≡ (error_answer 400 ∷ over ∷ [])
unfolding head_text digits date_at count_off is_name_byte
trace_038-04-end = refl

trace_038-04-settled : settled trace_038_limits trace_038_rules 0 ((0, over) ∷ (0, error_answer 400) ∷ (0, error_answer 500) ∷ (0, called call.Fail None) ∷ (0, back) ∷ trace_038_03)
    ≡ trace_038_04
unfolding settled head_text digits date_at count_off is_name_byte trimmed front_length whole_head host_fits head_of verdict_of target_of framed is_utf8 chars encode
trace_038-04-settled = refl

trace_038-05-settled : settled trace_038_limits trace_038_rules 0 ((0, sent 129) ∷ trace_038_04)
    ≡ trace_038_05
unfolding settled head_text digits date_at count_off is_name_byte trimmed front_length whole_head host_fits head_of verdict_of target_of framed is_utf8 chars encode
trace_038-05-settled = refl

abbrev trace_039_limits : Limits
trace_039_limits = record { max_connections = 256; max_head = 8192; max_fields = 100; max_keep_alive = pos 100; connection_timeout = 10; async_timeout = 30000; max_swallow = 2097152; max_trailer = 8192; parts = 3 }

abbrev trace_039_rules : List Rule
trace_039_rules = record { pattern = (codes "/a/*"); part = 2; can_async = false } ∷ record { pattern = (codes "/a"); part = 1; can_async = true } ∷ []

abbrev trace_039_01 : Trace
trace_039_01 = (0, opened) ∷ []

abbrev trace_039_02 : Trace
trace_039_02 = (0, sent 0) ∷ trace_039_01

abbrev trace_039_05 : Trace
trace_039_05 = (0, began (record { place = 0; size = 81; head = record { method = (codes "GET"); target = (codes "/a/./b/../c?q=1"); minor = 0; fields = record { name = (codes "Content-Length"); value = (codes "1") } ∷ record { name = (codes "Utf"); value = (195 ∷ 169 ∷ []) } ∷ record { name = (codes "Cookie"); value = (codes "x=1; y=2") } ∷ [] }; framing = (framing.Length 1); max_trailer = 8192; async_timeout = 30000; part = 2; can_async = false; keep = false; go_on = false })) ∷ (0, came (10 ∷ 13 ∷ 10 ∷ 71 ∷ 69 ∷ 84 ∷ 32 ∷ 47 ∷ 97 ∷ 47 ∷ 46 ∷ 47 ∷ 98 ∷ 47 ∷ 46 ∷ 46 ∷ 47 ∷ 99 ∷ 63 ∷ 113 ∷ 61 ∷ 49 ∷ 32 ∷ 72 ∷ 84 ∷ 84 ∷ 80 ∷ 47 ∷ 49 ∷ 46 ∷ 48 ∷ 13 ∷ 10 ∷ 67 ∷ 111 ∷ 110 ∷ 116 ∷ 101 ∷ 110 ∷ 116 ∷ 45 ∷ 76 ∷ 101 ∷ 110 ∷ 103 ∷ 116 ∷ 104 ∷ 58 ∷ 32 ∷ 49 ∷ 13 ∷ 10 ∷ 85 ∷ 116 ∷ 102 ∷ 58 ∷ 32 ∷ 195 ∷ 169 ∷ 13 ∷ 10 ∷ 67 ∷ 111 ∷ 111 ∷ 107 ∷ 105 ∷ 101 ∷ 58 ∷ 32 ∷ 120 ∷ 61 ∷ 49 ∷ 59 ∷ 32 ∷ 121 ∷ 61 ∷ 50 ∷ 13 ∷ 10 ∷ 13 ∷ 10 ∷ [])) ∷ trace_039_02

abbrev trace_039_06 : Trace
trace_039_06 = (0, called call.Run None) ∷ (0, started (job.Service 2)) ∷ trace_039_05

abbrev trace_039_07 : Trace
trace_039_07 = (0, not_ready input_side) ∷ trace_039_06

abbrev trace_039_09 : Trace
trace_039_09 = (0, put (codes "\n")) ∷ trace_039_07

abbrev trace_039_11 : Trace
trace_039_11 = (1, sent 0) ∷ trace_039_09

abbrev trace_039_13 : Trace
trace_039_13 = (1, caused cause.LastAnswer) ∷ (1, over) ∷ (1, called call.Return None) ∷ (1, back) ∷ trace_039_11

abbrev trace_039_14 : Trace
trace_039_14 = (1, sent 93) ∷ trace_039_13

trace_039-connection : connection_told trace_039_14
    ≡ record {
      came = 81;
      consumed = 81;
      room = 16384;
      has_ended = false;
      cause = (Some cause.LastAnswer);
      is_broken = false;
      is_gone = true;
      is_open = false;
      begun = 1;
      output = (codes "HTTP/1.1 200 \r\nContent-Length: 1\r\nDate: Thu, 01 Jan 1970 00:00:00 GMT\r\nConnection: close\r\n\r\n\n");
      took = 93;
      unsent = 0;
      idle_since = 1;
      next_job = None;
      charts = (call.Run ∷ call.Return ∷ []) ∷ [];
    }
unfolding head_text digits date_at count_off is_name_byte
trace_039-connection = refl

trace_039-request : request_told trace_039_14
    ≡ record {
      part = 2;
      state = state.Dispatched;
      running = None;
      parked = None;
      given = 0;
      is_end_told = false;
      waiting = 0;
      used = 0;
      swallowed = 0;
      has_whole_body = false;
      has_bad_body = false;
      listeners = [];
      owed = [];
      deadline = None;
      ready = record { read_set = false; read_armed = false; all_read_told = false; write_set = false; write_armed = false };
    }
unfolding is_name_byte
trace_039-request = refl

trace_039-answer : answer_told trace_039_14
    ≡ record {
      status = 200;
      fields = [];
      set_length = None;
      content = 1;
      is_aborted = false;
    }
unfolding digits
trace_039-answer = refl

trace_039-01-settled : settled trace_039_limits trace_039_rules 0 ((0, opened) ∷ [])
    ≡ trace_039_01
unfolding settled head_text digits date_at count_off is_name_byte trimmed front_length whole_head host_fits head_of verdict_of target_of framed is_utf8 chars encode
trace_039-01-settled = refl

trace_039-02-settled : settled trace_039_limits trace_039_rules 0 ((0, sent 0) ∷ trace_039_01)
    ≡ trace_039_02
unfolding settled head_text digits date_at count_off is_name_byte trimmed front_length whole_head host_fits head_of verdict_of target_of framed is_utf8 chars encode
trace_039-02-settled = refl

trace_039-05-settled : settled trace_039_limits trace_039_rules 0 ((0, came (10 ∷ 13 ∷ 10 ∷ 71 ∷ 69 ∷ 84 ∷ 32 ∷ 47 ∷ 97 ∷ 47 ∷ 46 ∷ 47 ∷ 98 ∷ 47 ∷ 46 ∷ 46 ∷ 47 ∷ 99 ∷ 63 ∷ 113 ∷ 61 ∷ 49 ∷ 32 ∷ 72 ∷ 84 ∷ 84 ∷ 80 ∷ 47 ∷ 49 ∷ 46 ∷ 48 ∷ 13 ∷ 10 ∷ 67 ∷ 111 ∷ 110 ∷ 116 ∷ 101 ∷ 110 ∷ 116 ∷ 45 ∷ 76 ∷ 101 ∷ 110 ∷ 103 ∷ 116 ∷ 104 ∷ 58 ∷ 32 ∷ 49 ∷ 13 ∷ 10 ∷ 85 ∷ 116 ∷ 102 ∷ 58 ∷ 32 ∷ 195 ∷ 169 ∷ 13 ∷ 10 ∷ 67 ∷ 111 ∷ 111 ∷ 107 ∷ 105 ∷ 101 ∷ 58 ∷ 32 ∷ 120 ∷ 61 ∷ 49 ∷ 59 ∷ 32 ∷ 121 ∷ 61 ∷ 50 ∷ 13 ∷ 10 ∷ 13 ∷ 10 ∷ [])) ∷ trace_039_02)
    ≡ trace_039_05
unfolding settled head_text digits date_at count_off is_name_byte trimmed front_length whole_head host_fits head_of verdict_of target_of framed is_utf8 chars encode
trace_039-05-settled = refl

trace_039-06-next : next_job (trace_039_05)
    ≡ (Some (job.Service 2))
unfolding head_text digits date_at count_off is_name_byte
trace_039-06-next = refl

trace_039-07-settled : settled trace_039_limits trace_039_rules 0 ((0, not_ready input_side) ∷ trace_039_06)
    ≡ trace_039_07
unfolding settled head_text digits date_at count_off is_name_byte trimmed front_length whole_head host_fits head_of verdict_of target_of framed is_utf8 chars encode
trace_039-07-settled = refl

trace_039-09-settled : settled trace_039_limits trace_039_rules 0 ((0, put (codes "\n")) ∷ trace_039_07)
    ≡ trace_039_09
unfolding settled head_text digits date_at count_off is_name_byte trimmed front_length whole_head host_fits head_of verdict_of target_of framed is_utf8 chars encode
trace_039-09-settled = refl

trace_039-10-tick : tick_move trace_039_limits 1 trace_039_09
    ≡ None
unfolding head_text digits date_at count_off is_name_byte
trace_039-10-tick = refl

trace_039-11-settled : settled trace_039_limits trace_039_rules 1 ((1, sent 0) ∷ trace_039_09)
    ≡ trace_039_11
unfolding settled head_text digits date_at count_off is_name_byte trimmed front_length whole_head host_fits head_of verdict_of target_of framed is_utf8 chars encode
trace_039-11-settled = refl

trace_039-13-end : end_marks ((1, called call.Return None) ∷ (1, back) ∷ trace_039_11)
    ≡ (over ∷ caused cause.LastAnswer ∷ [])
unfolding head_text digits date_at count_off is_name_byte
trace_039-13-end = refl

trace_039-13-settled : settled trace_039_limits trace_039_rules 1 ((1, caused cause.LastAnswer) ∷ (1, over) ∷ (1, called call.Return None) ∷ (1, back) ∷ trace_039_11)
    ≡ trace_039_13
unfolding settled head_text digits date_at count_off is_name_byte trimmed front_length whole_head host_fits head_of verdict_of target_of framed is_utf8 chars encode
trace_039-13-settled = refl

trace_039-14-settled : settled trace_039_limits trace_039_rules 1 ((1, sent 93) ∷ trace_039_13)
    ≡ trace_039_14
unfolding settled head_text digits date_at count_off is_name_byte trimmed front_length whole_head host_fits head_of verdict_of target_of framed is_utf8 chars encode
trace_039-14-settled = refl

abbrev trace_043_limits : Limits
trace_043_limits = record { max_connections = 256; max_head = 8192; max_fields = 100; max_keep_alive = pos 100; connection_timeout = 10; async_timeout = 30000; max_swallow = 3; max_trailer = 8192; parts = 0 }

abbrev trace_043_rules : List Rule
trace_043_rules = []

abbrev trace_043_01 : Trace
trace_043_01 = (0, opened) ∷ []

abbrev trace_043_02 : Trace
trace_043_02 = (0, over) ∷ (0, error_answer 404) ∷ (0, began (record { place = 0; size = 27; head = record { method = (codes "GET"); target = (codes "/"); minor = 1; fields = record { name = (codes "Host"); value = (codes "a") } ∷ [] }; framing = framing.None; max_trailer = 8192; async_timeout = 30000; part = 0; can_async = false; keep = true; go_on = false })) ∷ (0, came (codes "GET / HTTP/1.1\r\nHost: a\r\n\r\n")) ∷ trace_043_01

abbrev trace_043_03 : Trace
trace_043_03 = (0, caused cause.Refused) ∷ (0, refused 501 true) ∷ (0, came (codes "HEAD /x/y/z HTTP/1.1\nHost: [::1]:80\n\n")) ∷ trace_043_02

abbrev trace_043_04 : Trace
trace_043_04 = (0, sent 229) ∷ trace_043_03

trace_043-connection : connection_told trace_043_04
    ≡ record {
      came = 64;
      consumed = 27;
      room = 16347;
      has_ended = false;
      cause = (Some cause.Refused);
      is_broken = false;
      is_gone = true;
      is_open = false;
      begun = 1;
      output = (codes "HTTP/1.1 404 \r\nContent-Type: text/plain\r\nContent-Length: 10\r\nDate: Thu, 01 Jan 1970 00:00:00 GMT\r\n\r\nError 404\nHTTP/1.1 501 \r\nContent-Type: text/plain\r\nContent-Length: 10\r\nDate: Thu, 01 Jan 1970 00:00:00 GMT\r\nConnection: close\r\n\r\n");
      took = 229;
      unsent = 0;
      idle_since = 0;
      next_job = None;
      charts = ([]) ∷ [];
    }
unfolding head_text digits date_at count_off is_name_byte
trace_043-connection = refl

trace_043-01-settled : settled trace_043_limits trace_043_rules 0 ((0, opened) ∷ [])
    ≡ trace_043_01
unfolding settled head_text digits date_at count_off is_name_byte trimmed front_length whole_head host_fits head_of verdict_of target_of framed is_utf8 chars encode
trace_043-01-settled = refl

trace_043-02-settled : settled trace_043_limits trace_043_rules 0 ((0, came (codes "GET / HTTP/1.1\r\nHost: a\r\n\r\n")) ∷ trace_043_01)
    ≡ trace_043_02
unfolding settled head_text digits date_at count_off is_name_byte trimmed front_length whole_head host_fits head_of verdict_of target_of framed is_utf8 chars encode
trace_043-02-settled = refl

trace_043-03-settled : settled trace_043_limits trace_043_rules 0 ((0, came (codes "HEAD /x/y/z HTTP/1.1\nHost: [::1]:80\n\n")) ∷ trace_043_02)
    ≡ trace_043_03
unfolding settled head_text digits date_at count_off is_name_byte trimmed front_length whole_head host_fits head_of verdict_of target_of framed is_utf8 chars encode
trace_043-03-settled = refl

trace_043-04-settled : settled trace_043_limits trace_043_rules 0 ((0, sent 229) ∷ trace_043_03)
    ≡ trace_043_04
unfolding settled head_text digits date_at count_off is_name_byte trimmed front_length whole_head host_fits head_of verdict_of target_of framed is_utf8 chars encode
trace_043-04-settled = refl
