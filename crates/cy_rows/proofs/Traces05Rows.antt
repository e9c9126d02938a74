-- Traces that another program made, with what it tells of them, computed from the definitions. Made by `cases/rows.py`.
use Rattle.std.proofs.Common.{◌≡◌, true, false, List, [], ◌∷◌, Some, None, codes, refl}
use Rattle.std.specs.Prelude.{pos}
use Rattle.std.specs.Fmt.{digits}
use Rattle.std.specs.Str.{is_utf8, chars}
use lib.Utf8.{encode}
use Rattle.cy_event.specs.declared.framing.Framing.TheVariants as framing
use Rattle.cy_event.specs.declared.limits.Limits.{Limits}
use Rattle.cy_event.specs.declared.steps.Call.TheVariants as call
use Rattle.cy_event.specs.declared.steps.CloseCause.TheVariants as cause
use Rattle.cy_event.specs.declared.steps.Job.TheVariants as job
use Rattle.cy_event.specs.declared.steps.State.TheVariants as state
use Rattle.cy_event.specs.Answers.{head_text}
use Rattle.cy_event.specs.Dates.{date_at, count_off}
use Rattle.cy_event.specs.Framings.{framed}
use Rattle.cy_event.specs.Heads.{is_name_byte, trimmed, front_length, whole_head, host_fits, head_of}
use Rattle.cy_event.specs.Targets.{target_of}
use Rattle.cy_map.specs.declared.rule.Rule.{Rule}
use Rattle.cy_model.specs.Jobs.{next_job}
use Rattle.cy_model.specs.Marks.{Trace, opened, came, sent, began, refused, called, started, back, listened, put, flushed, nothing_to_flush, error_answer, over, caused, broken}
use Rattle.cy_model.specs.Replies.{plain}
use Rattle.cy_model.specs.Settling.{settled}
use Rattle.cy_model.specs.Ticks.{tick_move}
use Rattle.cy_model.specs.Verdicts.{verdict_of}
use Rattle.cy_rows.specs.Told.{answer_told, connection_told, open_told, request_told}

abbrev trace_016_limits : Limits
trace_016_limits = record { max_connections = 256; max_head = 8192; max_fields = 100; max_keep_alive = pos 1; connection_timeout = 20000; async_timeout = 30000; max_swallow = 2097152; max_trailer = 8192; parts = 4 }

abbrev trace_016_rules : List Rule
trace_016_rules = record { pattern = (codes "*.do"); part = 3; can_async = true } ∷ []

abbrev trace_016_01 : Trace
trace_016_01 = (0, opened) ∷ []

abbrev trace_016_02 : Trace
trace_016_02 = (0, caused cause.LastAnswer) ∷ (0, over) ∷ (0, error_answer 404) ∷ (0, began (record { place = 0; size = 27; head = record { method = (codes "GET"); target = (codes "/"); minor = 1; fields = record { name = (codes "Host"); value = (codes "a") } ∷ [] }; framing = framing.None; max_trailer = 8192; async_timeout = 30000; part = 0; can_async = false; keep = false; go_on = false })) ∷ (0, came (codes "GET / HTTP/1.1\r\nHost: a\r\n\r\nGET / HTTP/1.1\r\nHost: a\r\n\r\nGET / HTTP/1.1\r\nHost: a\r\n\r\n")) ∷ trace_016_01

abbrev trace_016_05 : Trace
trace_016_05 = (1, sent 100) ∷ trace_016_02

abbrev trace_016_06 : Trace
trace_016_06 = (1, sent 29) ∷ trace_016_05

trace_016-connection : connection_told trace_016_06
    ≡ record {
      came = 81;
      consumed = 27;
      room = 16330;
      has_ended = false;
      cause = (Some cause.LastAnswer);
      is_broken = false;
      is_gone = true;
      is_open = false;
      begun = 1;
      output = (codes "HTTP/1.1 404 \r\nContent-Type: text/plain\r\nContent-Length: 10\r\nDate: Thu, 01 Jan 1970 00:00:00 GMT\r\nConnection: close\r\n\r\nError 404\n");
      took = 129;
      unsent = 0;
      idle_since = 0;
      next_job = None;
      charts = ([]) ∷ [];
    }
unfolding head_text digits date_at count_off is_name_byte
trace_016-connection = refl

trace_016-request : request_told trace_016_06
    ≡ record {
      part = 0;
      state = state.Dispatched;
      running = None;
      parked = None;
      given = 0;
      is_end_told = false;
      waiting = 0;
      used = 0;
      swallowed = 0;
      has_whole_body = true;
      has_bad_body = false;
      listeners = [];
      owed = [];
      deadline = None;
      ready = record { read_set = false; read_armed = false; all_read_told = false; write_set = false; write_armed = false };
    }
unfolding is_name_byte
trace_016-request = refl

trace_016-answer : answer_told trace_016_06
    ≡ record {
      status = 404;
      fields = record { name = (codes "Content-Type"); value = (codes "text/plain") } ∷ [];
      set_length = None;
      content = 10;
      is_aborted = false;
    }
unfolding digits
trace_016-answer = refl

trace_016-01-settled : settled trace_016_limits trace_016_rules 0 ((0, opened) ∷ [])
    ≡ trace_016_01
unfolding settled head_text digits date_at count_off is_name_byte trimmed front_length whole_head host_fits head_of verdict_of target_of framed is_utf8 chars encode
trace_016-01-settled = refl

trace_016-02-settled : settled trace_016_limits trace_016_rules 0 ((0, came (codes "GET / HTTP/1.1\r\nHost: a\r\n\r\nGET / HTTP/1.1\r\nHost: a\r\n\r\nGET / HTTP/1.1\r\nHost: a\r\n\r\n")) ∷ trace_016_01)
    ≡ trace_016_02
unfolding settled head_text digits date_at count_off is_name_byte trimmed front_length whole_head host_fits head_of verdict_of target_of framed is_utf8 chars encode
trace_016-02-settled = refl

trace_016-04-tick : tick_move trace_016_limits 1 trace_016_02
    ≡ None
unfolding head_text digits date_at count_off is_name_byte
trace_016-04-tick = refl

trace_016-05-settled : settled trace_016_limits trace_016_rules 1 ((1, sent 100) ∷ trace_016_02)
    ≡ trace_016_05
unfolding settled head_text digits date_at count_off is_name_byte trimmed front_length whole_head host_fits head_of verdict_of target_of framed is_utf8 chars encode
trace_016-05-settled = refl

trace_016-06-settled : settled trace_016_limits trace_016_rules 1 ((1, sent 29) ∷ trace_016_05)
    ≡ trace_016_06
unfolding settled head_text digits date_at count_off is_name_byte trimmed front_length whole_head host_fits head_of verdict_of target_of framed is_utf8 chars encode
trace_016-06-settled = refl

abbrev trace_019_limits : Limits
trace_019_limits = record { max_connections = 256; max_head = 8192; max_fields = 100; max_keep_alive = pos 100; connection_timeout = 20000; async_timeout = 30000; max_swallow = 2097152; max_trailer = 8192; parts = 3 }

abbrev trace_019_rules : List Rule
trace_019_rules = record { pattern = (codes "/"); part = 0; can_async = true } ∷ record { pattern = (codes "/x/*"); part = 2; can_async = false } ∷ record { pattern = (codes "/a"); part = 1; can_async = true } ∷ []

abbrev trace_019_01 : Trace
trace_019_01 = (0, opened) ∷ []

abbrev trace_019_02 : Trace
trace_019_02 = (0, came (codes "\r\n")) ∷ trace_019_01

abbrev trace_019_03 : Trace
trace_019_03 = (0, began (record { place = 0; size = 73; head = record { method = (codes "POST"); target = (codes "/"); minor = 1; fields = record { name = (codes "Host"); value = (codes "localhost:8080") } ∷ record { name = (codes "Transfer-Encoding"); value = (codes ", chunked") } ∷ [] }; framing = framing.Chunked; max_trailer = 8192; async_timeout = 30000; part = 0; can_async = true; keep = true; go_on = false })) ∷ (0, came (codes "POST / HTTP/1.1\r\nHost: localhost:8080\r\nTransfer-Encoding: , chunked\r\n\r\n")) ∷ trace_019_02

abbrev trace_019_04 : Trace
trace_019_04 = (0, sent 0) ∷ trace_019_03

abbrev trace_019_05 : Trace
trace_019_05 = (0, sent 0) ∷ trace_019_04

abbrev trace_019_06 : Trace
trace_019_06 = (0, called call.Run None) ∷ (0, started (job.Service 0)) ∷ trace_019_05

abbrev trace_019_07 : Trace
trace_019_07 = (0, called call.Start None) ∷ trace_019_06

abbrev trace_019_08 : Trace
trace_019_08 = (0, listened 45) ∷ trace_019_07

abbrev trace_019_09 : Trace
trace_019_09 = (0, put (codes "bbbbb")) ∷ trace_019_08

abbrev trace_019_10 : Trace
trace_019_10 = (0, flushed) ∷ trace_019_09

abbrev trace_019_11 : Trace
trace_019_11 = (0, called call.Return None) ∷ (0, back) ∷ trace_019_10

abbrev trace_019_12 : Trace
trace_019_12 = (0, nothing_to_flush) ∷ trace_019_11

abbrev trace_019_14 : Trace
trace_019_14 = (0, sent 92) ∷ trace_019_12

abbrev trace_019_15 : Trace
trace_019_15 = (0, sent 0) ∷ trace_019_14

abbrev trace_019_16 : Trace
trace_019_16 = (0, put (codes "\"\"")) ∷ trace_019_15

abbrev trace_019_17 : Trace
trace_019_17 = (0, put (codes "\\\\\\\\\\\\\\\\\\\\\\\\\\")) ∷ trace_019_16

abbrev trace_019_18 : Trace
trace_019_18 = (0, called call.Fault None) ∷ (0, caused cause.BadBody) ∷ (0, came (49 ∷ 49 ∷ 13 ∷ 10 ∷ 111 ∷ 107 ∷ 107 ∷ 107 ∷ 111 ∷ 112 ∷ 109 ∷ 110 ∷ 108 ∷ 108 ∷ 112 ∷ 107 ∷ 110 ∷ 111 ∷ 110 ∷ 110 ∷ 13 ∷ 10 ∷ 48 ∷ 48 ∷ 13 ∷ 10 ∷ 81 ∷ 58 ∷ 128 ∷ 255 ∷ 13 ∷ 10 ∷ 13 ∷ 10 ∷ [])) ∷ trace_019_17

abbrev trace_019_20 : Trace
trace_019_20 = (0, broken) ∷ trace_019_18

trace_019-connection : connection_told trace_019_20
    ≡ record {
      came = 107;
      consumed = 73;
      room = 16350;
      has_ended = false;
      cause = (Some cause.BadBody);
      is_broken = true;
      is_gone = false;
      is_open = true;
      begun = 1;
      output = (codes "HTTP/1.1 200 \r\nTransfer-Encoding: chunked\r\nDate: Thu, 01 Jan 1970 00:00:00 GMT\r\n\r\n5\r\nbbbbb\r\n");
      took = 92;
      unsent = 0;
      idle_since = 0;
      next_job = (Some (job.OnError 0 45));
      charts = (call.Run ∷ call.Start ∷ call.Return ∷ call.Fault ∷ []) ∷ [];
    }
unfolding head_text digits date_at count_off is_name_byte
trace_019-connection = refl

trace_019-request : request_told trace_019_20
    ≡ record {
      part = 0;
      state = state.Error;
      running = None;
      parked = None;
      given = 0;
      is_end_told = false;
      waiting = 0;
      used = 0;
      swallowed = 0;
      has_whole_body = false;
      has_bad_body = true;
      listeners = 45 ∷ [];
      owed = (job.OnError 0 45) ∷ [];
      deadline = (Some 30000);
      ready = record { read_set = false; read_armed = false; all_read_told = false; write_set = false; write_armed = false };
    }
unfolding is_name_byte
trace_019-request = refl

trace_019-answer : answer_told trace_019_20
    ≡ record {
      status = 200;
      fields = [];
      set_length = None;
      content = 20;
      is_aborted = false;
    }
unfolding digits
trace_019-answer = refl

trace_019-open : open_told trace_019_20
    ≡ record {
      is_committed = true;
      takes_one = true;
      has_to_cut = true;
    }
unfolding head_text digits date_at count_off is_name_byte
trace_019-open = refl

trace_019-01-settled : settled trace_019_limits trace_019_rules 0 ((0, opened) ∷ [])
    ≡ trace_019_01
unfolding settled head_text digits date_at count_off is_name_byte trimmed front_length whole_head host_fits head_of verdict_of target_of framed is_utf8 chars encode
trace_019-01-settled = refl

trace_019-02-settled : settled trace_019_limits trace_019_rules 0 ((0, came (codes "\r\n")) ∷ trace_019_01)
    ≡ trace_019_02
unfolding settled head_text digits date_at count_off is_name_byte trimmed front_length whole_head host_fits head_of verdict_of target_of framed is_utf8 chars encode
trace_019-02-settled = refl

trace_019-03-settled : settled trace_019_limits trace_019_rules 0 ((0, came (codes "POST / HTTP/1.1\r\nHost: localhost:8080\r\nTransfer-Encoding: , chunked\r\n\r\n")) ∷ trace_019_02)
    ≡ trace_019_03
unfolding settled head_text digits date_at count_off is_name_byte trimmed front_length whole_head host_fits head_of verdict_of target_of framed is_utf8 chars encode
trace_019-03-settled = refl

trace_019-04-settled : settled trace_019_limits trace_019_rules 0 ((0, sent 0) ∷ trace_019_03)
    ≡ trace_019_04
unfolding settled head_text digits date_at count_off is_name_byte trimmed front_length whole_head host_fits head_of verdict_of target_of framed is_utf8 chars encode
trace_019-04-settled = refl

trace_019-05-settled : settled trace_019_limits trace_019_rules 0 ((0, sent 0) ∷ trace_019_04)
    ≡ trace_019_05
unfolding settled head_text digits date_at count_off is_name_byte trimmed front_length whole_head host_fits head_of verdict_of target_of framed is_utf8 chars encode
trace_019-05-settled = refl

trace_019-06-next : next_job (trace_019_05)
    ≡ (Some (job.Service 0))
unfolding head_text digits date_at count_off is_name_byte
trace_019-06-next = refl

trace_019-07-settled : settled trace_019_limits trace_019_rules 0 ((0, called call.Start None) ∷ trace_019_06)
    ≡ trace_019_07
unfolding settled head_text digits date_at count_off is_name_byte trimmed front_length whole_head host_fits head_of verdict_of target_of framed is_utf8 chars encode
trace_019-07-settled = refl

trace_019-08-settled : settled trace_019_limits trace_019_rules 0 ((0, listened 45) ∷ trace_019_07)
    ≡ trace_019_08
unfolding settled head_text digits date_at count_off is_name_byte trimmed front_length whole_head host_fits head_of verdict_of target_of framed is_utf8 chars encode
trace_019-08-settled = refl

trace_019-09-settled : settled trace_019_limits trace_019_rules 0 ((0, put (codes "bbbbb")) ∷ trace_019_08)
    ≡ trace_019_09
unfolding settled head_text digits date_at count_off is_name_byte trimmed front_length whole_head host_fits head_of verdict_of target_of framed is_utf8 chars encode
trace_019-09-settled = refl

trace_019-11-settled : settled trace_019_limits trace_019_rules 0 ((0, called call.Return None) ∷ (0, back) ∷ trace_019_10)
    ≡ trace_019_11
unfolding settled head_text digits date_at count_off is_name_byte trimmed front_length whole_head host_fits head_of verdict_of target_of framed is_utf8 chars encode
trace_019-11-settled = refl

trace_019-14-settled : settled trace_019_limits trace_019_rules 0 ((0, sent 92) ∷ trace_019_12)
    ≡ trace_019_14
unfolding settled head_text digits date_at count_off is_name_byte trimmed front_length whole_head host_fits head_of verdict_of target_of framed is_utf8 chars encode
trace_019-14-settled = refl

trace_019-15-settled : settled trace_019_limits trace_019_rules 0 ((0, sent 0) ∷ trace_019_14)
    ≡ trace_019_15
unfolding settled head_text digits date_at count_off is_name_byte trimmed front_length whole_head host_fits head_of verdict_of target_of framed is_utf8 chars encode
trace_019-15-settled = refl

trace_019-18-settled : settled trace_019_limits trace_019_rules 0 ((0, came (49 ∷ 49 ∷ 13 ∷ 10 ∷ 111 ∷ 107 ∷ 107 ∷ 107 ∷ 111 ∷ 112 ∷ 109 ∷ 110 ∷ 108 ∷ 108 ∷ 112 ∷ 107 ∷ 110 ∷ 111 ∷ 110 ∷ 110 ∷ 13 ∷ 10 ∷ 48 ∷ 48 ∷ 13 ∷ 10 ∷ 81 ∷ 58 ∷ 128 ∷ 255 ∷ 13 ∷ 10 ∷ 13 ∷ 10 ∷ [])) ∷ trace_019_17)
    ≡ trace_019_18
unfolding settled head_text digits date_at count_off is_name_byte trimmed front_length whole_head host_fits head_of verdict_of target_of framed is_utf8 chars encode
trace_019-18-settled = refl

trace_019-20-settled : settled trace_019_limits trace_019_rules 0 ((0, broken) ∷ trace_019_18)
    ≡ trace_019_20
unfolding settled head_text digits date_at count_off is_name_byte trimmed front_length whole_head host_fits head_of verdict_of target_of framed is_utf8 chars encode
trace_019-20-settled = refl

abbrev trace_020_limits : Limits
trace_020_limits = record { max_connections = 256; max_head = 8192; max_fields = 100; max_keep_alive = pos 100; connection_timeout = 20000; async_timeout = 30000; max_swallow = 2097152; max_trailer = 2; parts = 3 }

abbrev trace_020_rules : List Rule
trace_020_rules = record { pattern = (codes "/"); part = 0; can_async = true } ∷ record { pattern = (codes "/a"); part = 1; can_async = true } ∷ record { pattern = (codes "/x/*"); part = 2; can_async = false } ∷ []

abbrev trace_020_01 : Trace
trace_020_01 = (0, opened) ∷ []

abbrev trace_020_02 : Trace
trace_020_02 = (0, caused cause.Refused) ∷ (0, refused 417 false) ∷ (0, came (codes "\n\r\nPOST / HTTP/1.1\r\nHost: a.b%41\r\nContent-Length: 05\r\nExpect: 200-ok\r\nCookie: x=1; y=2\r\n\r\n")) ∷ trace_020_01

abbrev trace_020_05 : Trace
trace_020_05 = (0, sent 129) ∷ trace_020_02

trace_020-connection : connection_told trace_020_05
    ≡ record {
      came = 90;
      consumed = 0;
      room = 16294;
      has_ended = false;
      cause = (Some cause.Refused);
      is_broken = false;
      is_gone = true;
      is_open = false;
      begun = 0;
      output = (codes "HTTP/1.1 417 \r\nContent-Type: text/plain\r\nContent-Length: 10\r\nDate: Thu, 01 Jan 1970 00:00:00 GMT\r\nConnection: close\r\n\r\nError 417\n");
      took = 129;
      unsent = 0;
      idle_since = 0;
      next_job = None;
      charts = [];
    }
unfolding head_text digits date_at count_off is_name_byte
trace_020-connection = refl

trace_020-01-settled : settled trace_020_limits trace_020_rules 0 ((0, opened) ∷ [])
    ≡ trace_020_01
unfolding settled head_text digits date_at count_off is_name_byte trimmed front_length whole_head host_fits head_of verdict_of target_of framed is_utf8 chars encode
trace_020-01-settled = refl

trace_020-02-settled : settled trace_020_limits trace_020_rules 0 ((0, came (codes "\n\r\nPOST / HTTP/1.1\r\nHost: a.b%41\r\nContent-Length: 05\r\nExpect: 200-ok\r\nCookie: x=1; y=2\r\n\r\n")) ∷ trace_020_01)
    ≡ trace_020_02
unfolding settled head_text digits date_at count_off is_name_byte trimmed front_length whole_head host_fits head_of verdict_of target_of framed is_utf8 chars encode
trace_020-02-settled = refl

trace_020-05-settled : settled trace_020_limits trace_020_rules 0 ((0, sent 129) ∷ trace_020_02)
    ≡ trace_020_05
unfolding settled head_text digits date_at count_off is_name_byte trimmed front_length whole_head host_fits head_of verdict_of target_of framed is_utf8 chars encode
trace_020-05-settled = refl
