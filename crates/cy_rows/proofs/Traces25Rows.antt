-- Traces that another program made, with what it tells of them, computed from the definitions. Made by `cases/rows.py`.
use Rattle.std.proofs.Common.{◌≡◌, true, false, List, [], ◌∷◌, Some, None, codes, refl}
use Rattle.std.specs.Prelude.{pos}
use Rattle.std.specs.Fmt.{digits}
use Rattle.std.specs.Str.{is_utf8, chars}
use lib.Utf8.{encode}
use Rattle.cy_event.specs.declared.framing.Framing.TheVariants as framing
use Rattle.cy_event.specs.declared.limits.Limits.{Limits}
use Rattle.cy_event.specs.declared.steps.Act.TheVariants as act
use Rattle.cy_event.specs.declared.steps.Call.TheVariants as call
use Rattle.cy_event.specs.declared.steps.CloseCause.TheVariants as cause
use Rattle.cy_event.specs.declared.steps.Job.TheVariants as job
use Rattle.cy_event.specs.declared.steps.Reply.TheVariants as reply
use Rattle.cy_event.specs.declared.steps.State.TheVariants as state
use Rattle.cy_event.specs.Answers.{head_text}
use Rattle.cy_event.specs.Dates.{date_at, count_off}
use Rattle.cy_event.specs.Framings.{framed}
use Rattle.cy_event.specs.Heads.{is_name_byte, trimmed, front_length, whole_head, host_fits, head_of}
use Rattle.cy_event.specs.Targets.{target_of}
use Rattle.cy_map.specs.declared.rule.Rule.{Rule}
use Rattle.cy_model.specs.Entries.{on_act, reply_to}
use Rattle.cy_model.specs.Jobs.{next_job}
use Rattle.cy_model.specs.Marks.{Trace, opened, came, sent, began, called, started, back, end_given, listened, timeout_set, read_listener_set, write_listener_set, flushed, error_answer, over, caused}
use Rattle.cy_model.specs.Replies.{plain}
use Rattle.cy_model.specs.Settling.{settled}
use Rattle.cy_model.specs.Verdicts.{verdict_of}
use Rattle.cy_rows.specs.Told.{answer_told, connection_told, open_told, request_told}

abbrev trace_101_limits : Limits
trace_101_limits = record { max_connections = 1; max_head = 8192; max_fields = 100; max_keep_alive = pos 100; connection_timeout = 20000; async_timeout = 30000; max_swallow = 3; max_trailer = 8192; parts = 3 }

abbrev trace_101_rules : List Rule
trace_101_rules = record { pattern = (codes "/a/*"); part = 2; can_async = true } ∷ []

abbrev trace_101_01 : Trace
trace_101_01 = (0, opened) ∷ []

abbrev trace_101_02 : Trace
trace_101_02 = (0, over) ∷ (0, error_answer 404) ∷ (0, began (record { place = 27; size = 27; head = record { method = (codes "GET"); target = (codes "/"); minor = 1; fields = record { name = (codes "Host"); value = (codes "a") } ∷ [] }; framing = framing.None; max_trailer = 8192; async_timeout = 30000; part = 0; can_async = false; keep = true; go_on = false })) ∷ (0, over) ∷ (0, error_answer 404) ∷ (0, began (record { place = 0; size = 27; head = record { method = (codes "GET"); target = (codes "/"); minor = 1; fields = record { name = (codes "Host"); value = (codes "a") } ∷ [] }; framing = framing.None; max_trailer = 8192; async_timeout = 30000; part = 0; can_async = false; keep = true; go_on = false })) ∷ (0, came (codes "GET / HTTP/1.1\r\nHost: a\r\n\r\nGET / HTTP/1.1\r\nHost: a\r\n\r\n")) ∷ trace_101_01

abbrev trace_101_03 : Trace
trace_101_03 = (0, caused cause.SwallowLimit) ∷ (0, over) ∷ (0, error_answer 404) ∷ (0, began (record { place = 54; size = 62; head = record { method = (codes "PUT"); target = (codes "/"); minor = 1; fields = record { name = (codes "Host"); value = (codes "a.b%41") } ∷ record { name = (codes "Transfer-Encoding"); value = (codes ", chunked") } ∷ [] }; framing = framing.Chunked; max_trailer = 8192; async_timeout = 30000; part = 0; can_async = false; keep = true; go_on = false })) ∷ (0, came (80 ∷ 85 ∷ 84 ∷ 32 ∷ 47 ∷ 32 ∷ 72 ∷ 84 ∷ 84 ∷ 80 ∷ 47 ∷ 49 ∷ 46 ∷ 49 ∷ 13 ∷ 10 ∷ 72 ∷ 111 ∷ 115 ∷ 116 ∷ 58 ∷ 32 ∷ 97 ∷ 46 ∷ 98 ∷ 37 ∷ 52 ∷ 49 ∷ 13 ∷ 10 ∷ 84 ∷ 114 ∷ 97 ∷ 110 ∷ 115 ∷ 102 ∷ 101 ∷ 114 ∷ 45 ∷ 69 ∷ 110 ∷ 99 ∷ 111 ∷ 100 ∷ 105 ∷ 110 ∷ 103 ∷ 58 ∷ 32 ∷ 44 ∷ 32 ∷ 99 ∷ 104 ∷ 117 ∷ 110 ∷ 107 ∷ 101 ∷ 100 ∷ 13 ∷ 10 ∷ 13 ∷ 10 ∷ 48 ∷ 49 ∷ 50 ∷ 99 ∷ 13 ∷ 10 ∷ 109 ∷ 110 ∷ 112 ∷ 107 ∷ 109 ∷ 109 ∷ 109 ∷ 108 ∷ 110 ∷ 109 ∷ 108 ∷ 109 ∷ 111 ∷ 107 ∷ 110 ∷ 108 ∷ 111 ∷ 108 ∷ 112 ∷ 108 ∷ 110 ∷ 111 ∷ 110 ∷ 112 ∷ 112 ∷ 108 ∷ 111 ∷ 108 ∷ 112 ∷ 109 ∷ 110 ∷ 107 ∷ 108 ∷ 109 ∷ 109 ∷ 109 ∷ 111 ∷ 111 ∷ 107 ∷ 110 ∷ 109 ∷ 108 ∷ 109 ∷ 108 ∷ 107 ∷ 111 ∷ 110 ∷ 108 ∷ 108 ∷ 108 ∷ 112 ∷ 110 ∷ 109 ∷ 111 ∷ 108 ∷ 111 ∷ 108 ∷ 112 ∷ 107 ∷ 109 ∷ 112 ∷ 110 ∷ 110 ∷ 110 ∷ 108 ∷ 111 ∷ 107 ∷ 109 ∷ 110 ∷ 109 ∷ 110 ∷ 108 ∷ 107 ∷ 108 ∷ 109 ∷ 108 ∷ 108 ∷ 107 ∷ 111 ∷ 109 ∷ 111 ∷ 110 ∷ 110 ∷ 112 ∷ 108 ∷ 110 ∷ 111 ∷ 110 ∷ 112 ∷ 110 ∷ 107 ∷ 108 ∷ 111 ∷ 108 ∷ 109 ∷ 110 ∷ 111 ∷ 107 ∷ 107 ∷ 112 ∷ 110 ∷ 107 ∷ 108 ∷ 110 ∷ 110 ∷ 109 ∷ 109 ∷ 108 ∷ 111 ∷ 112 ∷ 108 ∷ 112 ∷ 109 ∷ 111 ∷ 111 ∷ 107 ∷ 110 ∷ 110 ∷ 110 ∷ 108 ∷ 112 ∷ 107 ∷ 110 ∷ 107 ∷ 110 ∷ 108 ∷ 108 ∷ 112 ∷ 109 ∷ 108 ∷ 109 ∷ 108 ∷ 108 ∷ 110 ∷ 108 ∷ 112 ∷ 107 ∷ 110 ∷ 110 ∷ 107 ∷ 109 ∷ 112 ∷ 107 ∷ 111 ∷ 110 ∷ 107 ∷ 107 ∷ 108 ∷ 109 ∷ 110 ∷ 112 ∷ 110 ∷ 110 ∷ 109 ∷ 110 ∷ 112 ∷ 109 ∷ 109 ∷ 107 ∷ 111 ∷ 111 ∷ 109 ∷ 112 ∷ 110 ∷ 107 ∷ 110 ∷ 110 ∷ 111 ∷ 112 ∷ 108 ∷ 108 ∷ 110 ∷ 109 ∷ 111 ∷ 107 ∷ 107 ∷ 108 ∷ 111 ∷ 107 ∷ 109 ∷ 110 ∷ 108 ∷ 108 ∷ 111 ∷ 108 ∷ 110 ∷ 110 ∷ 107 ∷ 109 ∷ 107 ∷ 111 ∷ 108 ∷ 109 ∷ 110 ∷ 111 ∷ 108 ∷ 112 ∷ 110 ∷ 109 ∷ 108 ∷ 108 ∷ 107 ∷ 112 ∷ 109 ∷ 110 ∷ 111 ∷ 107 ∷ 110 ∷ 108 ∷ 108 ∷ 107 ∷ 108 ∷ 112 ∷ 107 ∷ 108 ∷ 107 ∷ 111 ∷ 108 ∷ 110 ∷ 112 ∷ 107 ∷ 107 ∷ 109 ∷ 111 ∷ 110 ∷ 111 ∷ 111 ∷ 111 ∷ 111 ∷ 112 ∷ 109 ∷ 110 ∷ 110 ∷ 111 ∷ 111 ∷ 112 ∷ 109 ∷ 107 ∷ 108 ∷ 108 ∷ 108 ∷ 110 ∷ 110 ∷ 109 ∷ 108 ∷ 110 ∷ 108 ∷ 109 ∷ 107 ∷ 108 ∷ 107 ∷ 110 ∷ 108 ∷ 112 ∷ 108 ∷ 112 ∷ 109 ∷ 110 ∷ 110 ∷ 110 ∷ 109 ∷ 111 ∷ 108 ∷ 110 ∷ 108 ∷ 110 ∷ 107 ∷ 111 ∷ 111 ∷ 112 ∷ 108 ∷ 107 ∷ 112 ∷ 110 ∷ 110 ∷ 110 ∷ 110 ∷ 112 ∷ 111 ∷ 109 ∷ 112 ∷ 109 ∷ 112 ∷ 108 ∷ 111 ∷ 110 ∷ 107 ∷ 110 ∷ 110 ∷ 112 ∷ 109 ∷ 108 ∷ 111 ∷ 111 ∷ 111 ∷ 112 ∷ 110 ∷ 108 ∷ 112 ∷ 107 ∷ 13 ∷ 10 ∷ 48 ∷ 48 ∷ 13 ∷ 10 ∷ 84 ∷ 58 ∷ 32 ∷ 118 ∷ 13 ∷ 10 ∷ 86 ∷ 101 ∷ 114 ∷ 121 ∷ 45 ∷ 76 ∷ 111 ∷ 110 ∷ 103 ∷ 45 ∷ 78 ∷ 97 ∷ 109 ∷ 13 ∷ 58 ∷ 32 ∷ 118 ∷ 118 ∷ 118 ∷ 118 ∷ 118 ∷ 118 ∷ 118 ∷ 118 ∷ 13 ∷ 10 ∷ 13 ∷ 10 ∷ 71 ∷ 69 ∷ 84 ∷ 32 ∷ 47 ∷ 120 ∷ 32 ∷ 72 ∷ 84 ∷ 84 ∷ 80 ∷ 47 ∷ 49 ∷ 46 ∷ 49 ∷ 13 ∷ 10 ∷ 72 ∷ 111 ∷ 115 ∷ 116 ∷ 58 ∷ 32 ∷ 97 ∷ 13 ∷ 10 ∷ 85 ∷ 116 ∷ 102 ∷ 58 ∷ 32 ∷ 195 ∷ 169 ∷ 13 ∷ 10 ∷ 85 ∷ 116 ∷ 102 ∷ 58 ∷ 32 ∷ 195 ∷ 169 ∷ 13 ∷ 10 ∷ 13 ∷ 10 ∷ 72 ∷ 69 ∷ 65 ∷ 68 ∷ 32 ∷ 47 ∷ 32 ∷ 72 ∷ 84 ∷ 84 ∷ 80 ∷ 47 ∷ 49 ∷ 46 ∷ 49 ∷ 13 ∷ 10 ∷ 72 ∷ 111 ∷ 115 ∷ 116 ∷ 58 ∷ 32 ∷ 91 ∷ 58 ∷ 58 ∷ 49 ∷ 93 ∷ 58 ∷ 56 ∷ 48 ∷ 13 ∷ 10 ∷ 67 ∷ 111 ∷ 110 ∷ 116 ∷ 101 ∷ 110 ∷ 116 ∷ 45 ∷ 76 ∷ 101 ∷ 110 ∷ 103 ∷ 116 ∷ 104 ∷ 58 ∷ 32 ∷ 48 ∷ 49 ∷ 13 ∷ 10 ∷ 13 ∷ 10 ∷ 100 ∷ [])) ∷ trace_101_02

abbrev trace_101_04 : Trace
trace_101_04 = (0, sent 330) ∷ trace_101_03

trace_101-connection : connection_told trace_101_04
    ≡ record {
      came = 564;
      consumed = 447;
      room = 16267;
      has_ended = false;
      cause = (Some cause.SwallowLimit);
      is_broken = false;
      is_gone = true;
      is_open = false;
      begun = 3;
      output = (codes "HTTP/1.1 404 \r\nContent-Type: text/plain\r\nContent-Length: 10\r\nDate: Thu, 01 Jan 1970 00:00:00 GMT\r\n\r\nError 404\nHTTP/1.1 404 \r\nContent-Type: text/plain\r\nContent-Length: 10\r\nDate: Thu, 01 Jan 1970 00:00:00 GMT\r\n\r\nError 404\nHTTP/1.1 404 \r\nContent-Type: text/plain\r\nContent-Length: 10\r\nDate: Thu, 01 Jan 1970 00:00:00 GMT\r\n\r\nError 404\n");
      took = 330;
      unsent = 0;
      idle_since = 0;
      next_job = None;
      charts = ([]) ∷ ([]) ∷ ([]) ∷ [];
    }
unfolding head_text digits date_at count_off is_name_byte
trace_101-connection = refl

trace_101-request : request_told trace_101_04
    ≡ record {
      part = 0;
      state = state.Dispatched;
      running = None;
      parked = None;
      given = 0;
      is_end_told = false;
      waiting = 0;
      used = 331;
      swallowed = 331;
      has_whole_body = false;
      has_bad_body = true;
      listeners = [];
      owed = [];
      deadline = None;
      ready = record { read_set = false; read_armed = false; all_read_told = false; write_set = false; write_armed = false };
    }
unfolding is_name_byte
trace_101-request = refl

trace_101-answer : answer_told trace_101_04
    ≡ record {
      status = 404;
      fields = record { name = (codes "Content-Type"); value = (codes "text/plain") } ∷ [];
      set_length = None;
      content = 10;
      is_aborted = false;
    }
unfolding digits
trace_101-answer = refl

trace_101-01-settled : settled trace_101_limits trace_101_rules 0 ((0, opened) ∷ [])
    ≡ trace_101_01
unfolding settled head_text digits date_at count_off is_name_byte trimmed front_length whole_head host_fits head_of verdict_of target_of framed is_utf8 chars encode
trace_101-01-settled = refl

trace_101-02-settled : settled trace_101_limits trace_101_rules 0 ((0, came (codes "GET / HTTP/1.1\r\nHost: a\r\n\r\nGET / HTTP/1.1\r\nHost: a\r\n\r\n")) ∷ trace_101_01)
    ≡ trace_101_02
unfolding settled head_text digits date_at count_off is_name_byte trimmed front_length whole_head host_fits head_of verdict_of target_of framed is_utf8 chars encode
trace_101-02-settled = refl

trace_101-03-settled : settled trace_101_limits trace_101_rules 0 ((0, came (80 ∷ 85 ∷ 84 ∷ 32 ∷ 47 ∷ 32 ∷ 72 ∷ 84 ∷ 84 ∷ 80 ∷ 47 ∷ 49 ∷ 46 ∷ 49 ∷ 13 ∷ 10 ∷ 72 ∷ 111 ∷ 115 ∷ 116 ∷ 58 ∷ 32 ∷ 97 ∷ 46 ∷ 98 ∷ 37 ∷ 52 ∷ 49 ∷ 13 ∷ 10 ∷ 84 ∷ 114 ∷ 97 ∷ 110 ∷ 115 ∷ 102 ∷ 101 ∷ 114 ∷ 45 ∷ 69 ∷ 110 ∷ 99 ∷ 111 ∷ 100 ∷ 105 ∷ 110 ∷ 103 ∷ 58 ∷ 32 ∷ 44 ∷ 32 ∷ 99 ∷ 104 ∷ 117 ∷ 110 ∷ 107 ∷ 101 ∷ 100 ∷ 13 ∷ 10 ∷ 13 ∷ 10 ∷ 48 ∷ 49 ∷ 50 ∷ 99 ∷ 13 ∷ 10 ∷ 109 ∷ 110 ∷ 112 ∷ 107 ∷ 109 ∷ 109 ∷ 109 ∷ 108 ∷ 110 ∷ 109 ∷ 108 ∷ 109 ∷ 111 ∷ 107 ∷ 110 ∷ 108 ∷ 111 ∷ 108 ∷ 112 ∷ 108 ∷ 110 ∷ 111 ∷ 110 ∷ 112 ∷ 112 ∷ 108 ∷ 111 ∷ 108 ∷ 112 ∷ 109 ∷ 110 ∷ 107 ∷ 108 ∷ 109 ∷ 109 ∷ 109 ∷ 111 ∷ 111 ∷ 107 ∷ 110 ∷ 109 ∷ 108 ∷ 109 ∷ 108 ∷ 107 ∷ 111 ∷ 110 ∷ 108 ∷ 108 ∷ 108 ∷ 112 ∷ 110 ∷ 109 ∷ 111 ∷ 108 ∷ 111 ∷ 108 ∷ 112 ∷ 107 ∷ 109 ∷ 112 ∷ 110 ∷ 110 ∷ 110 ∷ 108 ∷ 111 ∷ 107 ∷ 109 ∷ 110 ∷ 109 ∷ 110 ∷ 108 ∷ 107 ∷ 108 ∷ 109 ∷ 108 ∷ 108 ∷ 107 ∷ 111 ∷ 109 ∷ 111 ∷ 110 ∷ 110 ∷ 112 ∷ 108 ∷ 110 ∷ 111 ∷ 110 ∷ 112 ∷ 110 ∷ 107 ∷ 108 ∷ 111 ∷ 108 ∷ 109 ∷ 110 ∷ 111 ∷ 107 ∷ 107 ∷ 112 ∷ 110 ∷ 107 ∷ 108 ∷ 110 ∷ 110 ∷ 109 ∷ 109 ∷ 108 ∷ 111 ∷ 112 ∷ 108 ∷ 112 ∷ 109 ∷ 111 ∷ 111 ∷ 107 ∷ 110 ∷ 110 ∷ 110 ∷ 108 ∷ 112 ∷ 107 ∷ 110 ∷ 107 ∷ 110 ∷ 108 ∷ 108 ∷ 112 ∷ 109 ∷ 108 ∷ 109 ∷ 108 ∷ 108 ∷ 110 ∷ 108 ∷ 112 ∷ 107 ∷ 110 ∷ 110 ∷ 107 ∷ 109 ∷ 112 ∷ 107 ∷ 111 ∷ 110 ∷ 107 ∷ 107 ∷ 108 ∷ 109 ∷ 110 ∷ 112 ∷ 110 ∷ 110 ∷ 109 ∷ 110 ∷ 112 ∷ 109 ∷ 109 ∷ 107 ∷ 111 ∷ 111 ∷ 109 ∷ 112 ∷ 110 ∷ 107 ∷ 110 ∷ 110 ∷ 111 ∷ 112 ∷ 108 ∷ 108 ∷ 110 ∷ 109 ∷ 111 ∷ 107 ∷ 107 ∷ 108 ∷ 111 ∷ 107 ∷ 109 ∷ 110 ∷ 108 ∷ 108 ∷ 111 ∷ 108 ∷ 110 ∷ 110 ∷ 107 ∷ 109 ∷ 107 ∷ 111 ∷ 108 ∷ 109 ∷ 110 ∷ 111 ∷ 108 ∷ 112 ∷ 110 ∷ 109 ∷ 108 ∷ 108 ∷ 107 ∷ 112 ∷ 109 ∷ 110 ∷ 111 ∷ 107 ∷ 110 ∷ 108 ∷ 108 ∷ 107 ∷ 108 ∷ 112 ∷ 107 ∷ 108 ∷ 107 ∷ 111 ∷ 108 ∷ 110 ∷ 112 ∷ 107 ∷ 107 ∷ 109 ∷ 111 ∷ 110 ∷ 111 ∷ 111 ∷ 111 ∷ 111 ∷ 112 ∷ 109 ∷ 110 ∷ 110 ∷ 111 ∷ 111 ∷ 112 ∷ 109 ∷ 107 ∷ 108 ∷ 108 ∷ 108 ∷ 110 ∷ 110 ∷ 109 ∷ 108 ∷ 110 ∷ 108 ∷ 109 ∷ 107 ∷ 108 ∷ 107 ∷ 110 ∷ 108 ∷ 112 ∷ 108 ∷ 112 ∷ 109 ∷ 110 ∷ 110 ∷ 110 ∷ 109 ∷ 111 ∷ 108 ∷ 110 ∷ 108 ∷ 110 ∷ 107 ∷ 111 ∷ 111 ∷ 112 ∷ 108 ∷ 107 ∷ 112 ∷ 110 ∷ 110 ∷ 110 ∷ 110 ∷ 112 ∷ 111 ∷ 109 ∷ 112 ∷ 109 ∷ 112 ∷ 108 ∷ 111 ∷ 110 ∷ 107 ∷ 110 ∷ 110 ∷ 112 ∷ 109 ∷ 108 ∷ 111 ∷ 111 ∷ 111 ∷ 112 ∷ 110 ∷ 108 ∷ 112 ∷ 107 ∷ 13 ∷ 10 ∷ 48 ∷ 48 ∷ 13 ∷ 10 ∷ 84 ∷ 58 ∷ 32 ∷ 118 ∷ 13 ∷ 10 ∷ 86 ∷ 101 ∷ 114 ∷ 121 ∷ 45 ∷ 76 ∷ 111 ∷ 110 ∷ 103 ∷ 45 ∷ 78 ∷ 97 ∷ 109 ∷ 13 ∷ 58 ∷ 32 ∷ 118 ∷ 118 ∷ 118 ∷ 118 ∷ 118 ∷ 118 ∷ 118 ∷ 118 ∷ 13 ∷ 10 ∷ 13 ∷ 10 ∷ 71 ∷ 69 ∷ 84 ∷ 32 ∷ 47 ∷ 120 ∷ 32 ∷ 72 ∷ 84 ∷ 84 ∷ 80 ∷ 47 ∷ 49 ∷ 46 ∷ 49 ∷ 13 ∷ 10 ∷ 72 ∷ 111 ∷ 115 ∷ 116 ∷ 58 ∷ 32 ∷ 97 ∷ 13 ∷ 10 ∷ 85 ∷ 116 ∷ 102 ∷ 58 ∷ 32 ∷ 195 ∷ 169 ∷ 13 ∷ 10 ∷ 85 ∷ 116 ∷ 102 ∷ 58 ∷ 32 ∷ 195 ∷ 169 ∷ 13 ∷ 10 ∷ 13 ∷ 10 ∷ 72 ∷ 69 ∷ 65 ∷ 68 ∷ 32 ∷ 47 ∷ 32 ∷ 72 ∷ 84 ∷ 84 ∷ 80 ∷ 47 ∷ 49 ∷ 46 ∷ 49 ∷ 13 ∷ 10 ∷ 72 ∷ 111 ∷ 115 ∷ 116 ∷ 58 ∷ 32 ∷ 91 ∷ 58 ∷ 58 ∷ 49 ∷ 93 ∷ 58 ∷ 56 ∷ 48 ∷ 13 ∷ 10 ∷ 67 ∷ 111 ∷ 110 ∷ 116 ∷ 101 ∷ 110 ∷ 116 ∷ 45 ∷ 76 ∷ 101 ∷ 110 ∷ 103 ∷ 116 ∷ 104 ∷ 58 ∷ 32 ∷ 48 ∷ 49 ∷ 13 ∷ 10 ∷ 13 ∷ 10 ∷ 100 ∷ [])) ∷ trace_101_02)
    ≡ trace_101_03
unfolding settled head_text digits date_at count_off is_name_byte trimmed front_length whole_head host_fits head_of verdict_of target_of framed is_utf8 chars encode
trace_101-03-settled = refl

trace_101-04-settled : settled trace_101_limits trace_101_rules 0 ((0, sent 330) ∷ trace_101_03)
    ≡ trace_101_04
unfolding settled head_text digits date_at count_off is_name_byte trimmed front_length whole_head host_fits head_of verdict_of target_of framed is_utf8 chars encode
trace_101-04-settled = refl

abbrev trace_104_limits : Limits
trace_104_limits = record { max_connections = 3; max_head = 8192; max_fields = 100; max_keep_alive = pos 100; connection_timeout = 20000; async_timeout = 30000; max_swallow = 2097152; max_trailer = 8192; parts = 5 }

abbrev trace_104_rules : List Rule
trace_104_rules = record { pattern = (codes "/a/*"); part = 2; can_async = true } ∷ record { pattern = (codes "/*"); part = 4; can_async = true } ∷ record { pattern = (codes "/x/*"); part = 2; can_async = false } ∷ record { pattern = (codes "*.do"); part = 3; can_async = true } ∷ record { pattern = (codes "/a"); part = 1; can_async = true } ∷ []

abbrev trace_104_01 : Trace
trace_104_01 = (0, opened) ∷ []

abbrev trace_104_02 : Trace
trace_104_02 = (0, began (record { place = 0; size = 49; head = record { method = (codes "GET"); target = (codes "/"); minor = 1; fields = record { name = (codes "Host"); value = (codes "localhost:8080") } ∷ record { name = (codes "A"); value = (codes "b") } ∷ [] }; framing = framing.None; max_trailer = 8192; async_timeout = 30000; part = 4; can_async = true; keep = true; go_on = false })) ∷ (0, came (codes "\n\r\nGET / HTTP/1.1\r\nHost: localhost:8080\r\nA: b\r\n\r\n")) ∷ trace_104_01

abbrev trace_104_03 : Trace
trace_104_03 = (0, called call.Run None) ∷ (0, started (job.Service 4)) ∷ trace_104_02

abbrev trace_104_04 : Trace
trace_104_04 = (0, called call.Start None) ∷ trace_104_03

abbrev trace_104_05 : Trace
trace_104_05 = (0, read_listener_set) ∷ trace_104_04

abbrev trace_104_06 : Trace
trace_104_06 = (0, timeout_set 1) ∷ trace_104_05

abbrev trace_104_07 : Trace
trace_104_07 = (0, write_listener_set) ∷ trace_104_06

abbrev trace_104_08 : Trace
trace_104_08 = (0, listened 192) ∷ trace_104_07

abbrev trace_104_09 : Trace
trace_104_09 = (0, called call.Return None) ∷ (0, back) ∷ trace_104_08

abbrev trace_104_10 : Trace
trace_104_10 = (0, called call.Run None) ∷ (0, started job.AllRead) ∷ trace_104_09

abbrev trace_104_12 : Trace
trace_104_12 = (0, flushed) ∷ trace_104_10

abbrev trace_104_13 : Trace
trace_104_13 = (0, called call.CompleteOwn None) ∷ trace_104_12

abbrev trace_104_14 : Trace
trace_104_14 = (0, came (codes "GET / H")) ∷ trace_104_13

abbrev trace_104_16 : Trace
trace_104_16 = (0, end_given) ∷ trace_104_14

abbrev trace_104_17 : Trace
trace_104_17 = (0, came (codes "TTP/1.1\r\nHost: a\r\n\r\n")) ∷ trace_104_16

abbrev trace_104_18 : Trace
trace_104_18 = (0, sent 82) ∷ trace_104_17

abbrev trace_104_20 : Trace
trace_104_20 = (0, called call.Return None) ∷ (0, back) ∷ trace_104_18

trace_104-connection : connection_told trace_104_20
    ≡ record {
      came = 76;
      consumed = 49;
      room = 16357;
      has_ended = false;
      cause = None;
      is_broken = false;
      is_gone = false;
      is_open = true;
      begun = 1;
      output = (codes "HTTP/1.1 200 \r\nTransfer-Encoding: chunked\r\nDate: Thu, 01 Jan 1970 00:00:00 GMT\r\n\r\n");
      took = 82;
      unsent = 0;
      idle_since = 0;
      next_job = (Some (job.OnComplete 0 192));
      charts = (call.Run ∷ call.Start ∷ call.Return ∷ call.Run ∷ call.CompleteOwn ∷ call.Return ∷ []) ∷ [];
    }
unfolding head_text digits date_at count_off is_name_byte
trace_104-connection = refl

trace_104-request : request_told trace_104_20
    ≡ record {
      part = 4;
      state = state.Completing;
      running = None;
      parked = None;
      given = 0;
      is_end_told = true;
      waiting = 0;
      used = 0;
      swallowed = 0;
      has_whole_body = true;
      has_bad_body = false;
      listeners = 192 ∷ [];
      owed = (job.OnComplete 0 192) ∷ [];
      deadline = (Some 1);
      ready = record { read_set = true; read_armed = true; all_read_told = true; write_set = true; write_armed = true };
    }
unfolding is_name_byte
trace_104-request = refl

trace_104-answer : answer_told trace_104_20
    ≡ record {
      status = 200;
      fields = [];
      set_length = None;
      content = 0;
      is_aborted = false;
    }
unfolding digits
trace_104-answer = refl

trace_104-open : open_told trace_104_20
    ≡ record {
      is_committed = true;
      takes_one = true;
      has_to_cut = false;
    }
unfolding head_text digits date_at count_off is_name_byte
trace_104-open = refl

trace_104-01-settled : settled trace_104_limits trace_104_rules 0 ((0, opened) ∷ [])
    ≡ trace_104_01
unfolding settled head_text digits date_at count_off is_name_byte trimmed front_length whole_head host_fits head_of verdict_of target_of framed is_utf8 chars encode
trace_104-01-settled = refl

trace_104-02-settled : settled trace_104_limits trace_104_rules 0 ((0, came (codes "\n\r\nGET / HTTP/1.1\r\nHost: localhost:8080\r\nA: b\r\n\r\n")) ∷ trace_104_01)
    ≡ trace_104_02
unfolding settled head_text digits date_at count_off is_name_byte trimmed front_length whole_head host_fits head_of verdict_of target_of framed is_utf8 chars encode
trace_104-02-settled = refl

trace_104-03-next : next_job (trace_104_02)
    ≡ (Some (job.Service 4))
unfolding head_text digits date_at count_off is_name_byte
trace_104-03-next = refl

trace_104-04-settled : settled trace_104_limits trace_104_rules 0 ((0, called call.Start None) ∷ trace_104_03)
    ≡ trace_104_04
unfolding settled head_text digits date_at count_off is_name_byte trimmed front_length whole_head host_fits head_of verdict_of target_of framed is_utf8 chars encode
trace_104-04-settled = refl

trace_104-05-settled : settled trace_104_limits trace_104_rules 0 ((0, read_listener_set) ∷ trace_104_04)
    ≡ trace_104_05
unfolding settled head_text digits date_at count_off is_name_byte trimmed front_length whole_head host_fits head_of verdict_of target_of framed is_utf8 chars encode
trace_104-05-settled = refl

trace_104-06-settled : settled trace_104_limits trace_104_rules 0 ((0, timeout_set 1) ∷ trace_104_05)
    ≡ trace_104_06
unfolding settled head_text digits date_at count_off is_name_byte trimmed front_length whole_head host_fits head_of verdict_of target_of framed is_utf8 chars encode
trace_104-06-settled = refl

trace_104-07-settled : settled trace_104_limits trace_104_rules 0 ((0, write_listener_set) ∷ trace_104_06)
    ≡ trace_104_07
unfolding settled head_text digits date_at count_off is_name_byte trimmed front_length whole_head host_fits head_of verdict_of target_of framed is_utf8 chars encode
trace_104-07-settled = refl

trace_104-08-settled : settled trace_104_limits trace_104_rules 0 ((0, listened 192) ∷ trace_104_07)
    ≡ trace_104_08
unfolding settled head_text digits date_at count_off is_name_byte trimmed front_length whole_head host_fits head_of verdict_of target_of framed is_utf8 chars encode
trace_104-08-settled = refl

trace_104-09-settled : settled trace_104_limits trace_104_rules 0 ((0, called call.Return None) ∷ (0, back) ∷ trace_104_08)
    ≡ trace_104_09
unfolding settled head_text digits date_at count_off is_name_byte trimmed front_length whole_head host_fits head_of verdict_of target_of framed is_utf8 chars encode
trace_104-09-settled = refl

trace_104-10-next : next_job (trace_104_09)
    ≡ (Some job.AllRead)
unfolding head_text digits date_at count_off is_name_byte
trace_104-10-next = refl

trace_104-12-settled : settled trace_104_limits trace_104_rules 0 ((0, flushed) ∷ trace_104_10)
    ≡ trace_104_12
unfolding settled head_text digits date_at count_off is_name_byte trimmed front_length whole_head host_fits head_of verdict_of target_of framed is_utf8 chars encode
trace_104-12-settled = refl

trace_104-13-settled : settled trace_104_limits trace_104_rules 0 ((0, called call.CompleteOwn None) ∷ trace_104_12)
    ≡ trace_104_13
unfolding settled head_text digits date_at count_off is_name_byte trimmed front_length whole_head host_fits head_of verdict_of target_of framed is_utf8 chars encode
trace_104-13-settled = refl

trace_104-14-settled : settled trace_104_limits trace_104_rules 0 ((0, came (codes "GET / H")) ∷ trace_104_13)
    ≡ trace_104_14
unfolding settled head_text digits date_at count_off is_name_byte trimmed front_length whole_head host_fits head_of verdict_of target_of framed is_utf8 chars encode
trace_104-14-settled = refl

trace_104-16-reply : reply_to trace_104_limits trace_104_rules 0 trace_104_14 (on_act (act.Read 5) [])
    ≡ plain reply.GotEnd
unfolding reply_to head_text digits date_at count_off is_name_byte
trace_104-16-reply = refl

trace_104-16-settled : settled trace_104_limits trace_104_rules 0 ((0, end_given) ∷ trace_104_14)
    ≡ trace_104_16
unfolding settled head_text digits date_at count_off is_name_byte trimmed front_length whole_head host_fits head_of verdict_of target_of framed is_utf8 chars encode
trace_104-16-settled = refl

trace_104-17-settled : settled trace_104_limits trace_104_rules 0 ((0, came (codes "TTP/1.1\r\nHost: a\r\n\r\n")) ∷ trace_104_16)
    ≡ trace_104_17
unfolding settled head_text digits date_at count_off is_name_byte trimmed front_length whole_head host_fits head_of verdict_of target_of framed is_utf8 chars encode
trace_104-17-settled = refl

trace_104-18-settled : settled trace_104_limits trace_104_rules 0 ((0, sent 82) ∷ trace_104_17)
    ≡ trace_104_18
unfolding settled head_text digits date_at count_off is_name_byte trimmed front_length whole_head host_fits head_of verdict_of target_of framed is_utf8 chars encode
trace_104-18-settled = refl

trace_104-20-settled : settled trace_104_limits trace_104_rules 0 ((0, called call.Return None) ∷ (0, back) ∷ trace_104_18)
    ≡ trace_104_20
unfolding settled head_text digits date_at count_off is_name_byte trimmed front_length whole_head host_fits head_of verdict_of target_of framed is_utf8 chars encode
trace_104-20-settled = refl
