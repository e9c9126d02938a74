-- Traces that another program made, with what it tells of them, computed from the definitions. Made by `cases/rows.py`.
use Rattle.std.proofs.Common.{◌≡◌, true, false, List, [], ◌∷◌, Some, None, codes, refl}
use Rattle.std.specs.Prelude.{pos}
use Rattle.std.specs.Fmt.{digits}
use Rattle.std.specs.Str.{is_utf8, chars}
use lib.Utf8.{encode}
use Rattle.cy_event.specs.declared.framing.Framing.TheVariants as framing
use Rattle.cy_event.specs.declared.limits.Limits.{Limits}
use Rattle.cy_event.specs.declared.steps.CloseCause.TheVariants as cause
use Rattle.cy_event.specs.declared.steps.State.TheVariants as state
use Rattle.cy_event.specs.Answers.{head_text}
use Rattle.cy_event.specs.Dates.{date_at, count_off}
use Rattle.cy_event.specs.Framings.{framed}
use Rattle.cy_event.specs.Heads.{is_name_byte, trimmed, front_length, whole_head, host_fits, head_of}
use Rattle.cy_event.specs.Targets.{target_of}
use Rattle.cy_map.specs.declared.rule.Rule.{Rule}
use Rattle.cy_model.specs.Marks.{Trace, opened, came, sent, began, error_answer, over, caused}
use Rattle.cy_model.specs.Replies.{plain}
use Rattle.cy_model.specs.Settling.{settled}
use Rattle.cy_model.specs.Verdicts.{verdict_of}
use Rattle.cy_rows.specs.Told.{answer_told, connection_told, request_told}

abbrev trace_142_limits : Limits
trace_142_limits = record { max_connections = 256; max_head = 8192; max_fields = 100; max_keep_alive = pos 100; connection_timeout = 20000; async_timeout = 30000; max_swallow = 2097152; max_trailer = 8192; parts = 3 }

abbrev trace_142_rules : List Rule
trace_142_rules = record { pattern = (codes "/a/*"); part = 2; can_async = true } ∷ record { pattern = (codes "/a"); part = 1; can_async = false } ∷ []

abbrev trace_142_01 : Trace
trace_142_01 = (0, opened) ∷ []

abbrev trace_142_02 : Trace
trace_142_02 = (0, caused cause.LastAnswer) ∷ (0, over) ∷ (0, error_answer 404) ∷ (0, began (record { place = 0; size = 76; head = record { method = (codes "PUT"); target = (codes "/"); minor = 0; fields = record { name = (codes "Host"); value = (codes "a.b%41") } ∷ record { name = (codes "Content-Length"); value = (codes "10") } ∷ record { name = (codes "Cookie"); value = (codes "x=1; y=2") } ∷ record { name = (codes "X"); value = (codes "l") } ∷ [] }; framing = (framing.Length 10); max_trailer = 8192; async_timeout = 30000; part = 0; can_async = false; keep = false; go_on = false })) ∷ (0, came (codes "PUT / HTTP/1.0\r\nHost: a.b%41\r\nContent-Length: 10\r\nCookie: x=1; y=2\r\nX: l\r\n\r\ndzxb")) ∷ trace_142_01

abbrev trace_142_05 : Trace
trace_142_05 = (0, sent 10) ∷ trace_142_02

abbrev trace_142_07 : Trace
trace_142_07 = (0, sent 119) ∷ trace_142_05

trace_142-connection : connection_told trace_142_07
    ≡ record {
      came = 80;
      consumed = 80;
      room = 16384;
      has_ended = false;
      cause = (Some cause.LastAnswer);
      is_broken = false;
      is_gone = true;
      is_open = false;
      begun = 1;
      output = (codes "HTTP/1.1 404 \r\nContent-Type: text/plain\r\nContent-Length: 10\r\nDate: Thu, 01 Jan 1970 00:00:00 GMT\r\nConnection: close\r\n\r\nError 404\n");
      took = 129;
      unsent = 0;
      idle_since = 0;
      next_job = None;
      charts = ([]) ∷ [];
    }
unfolding head_text digits date_at count_off is_name_byte
trace_142-connection = refl

trace_142-request : request_told trace_142_07
    ≡ record {
      part = 0;
      state = state.Dispatched;
      running = None;
      parked = None;
      given = 0;
      is_end_told = false;
      waiting = 4;
      used = 4;
      swallowed = 4;
      has_whole_body = false;
      has_bad_body = false;
      listeners = [];
      owed = [];
      deadline = None;
      ready = record { read_set = false; read_armed = false; all_read_told = false; write_set = false; write_armed = false };
    }
unfolding is_name_byte
trace_142-request = refl

trace_142-answer : answer_told trace_142_07
    ≡ record {
      status = 404;
      fields = record { name = (codes "Content-Type"); value = (codes "text/plain") } ∷ [];
      set_length = None;
      content = 10;
      is_aborted = false;
    }
unfolding digits
trace_142-answer = refl

trace_142-01-settled : settled trace_142_limits trace_142_rules 0 ((0, opened) ∷ [])
    ≡ trace_142_01
unfolding settled head_text digits date_at count_off is_name_byte trimmed front_length whole_head host_fits head_of verdict_of target_of framed is_utf8 chars encode
trace_142-01-settled = refl

trace_142-02-settled : settled trace_142_limits trace_142_rules 0 ((0, came (codes "PUT / HTTP/1.0\r\nHost: a.b%41\r\nContent-Length: 10\r\nCookie: x=1; y=2\r\nX: l\r\n\r\ndzxb")) ∷ trace_142_01)
    ≡ trace_142_02
unfolding settled head_text digits date_at count_off is_name_byte trimmed front_length whole_head host_fits head_of verdict_of target_of framed is_utf8 chars encode
trace_142-02-settled = refl

trace_142-05-settled : settled trace_142_limits trace_142_rules 0 ((0, sent 10) ∷ trace_142_02)
    ≡ trace_142_05
unfolding settled head_text digits date_at count_off is_name_byte trimmed front_length whole_head host_fits head_of verdict_of target_of framed is_utf8 chars encode
trace_142-05-settled = refl

trace_142-07-settled : settled trace_142_limits trace_142_rules 0 ((0, sent 119) ∷ trace_142_05)
    ≡ trace_142_07
unfolding settled head_text digits date_at count_off is_name_byte trimmed front_length whole_head host_fits head_of verdict_of target_of framed is_utf8 chars encode
trace_142-07-settled = refl

abbrev trace_145_limits : Limits
trace_145_limits = record { max_connections = 256; max_head = 8192; max_fields = 100; max_keep_alive = pos 100; connection_timeout = 20000; async_timeout = 30000; max_swallow = 0; max_trailer = 8192; parts = 4 }

abbrev trace_145_rules : List Rule
trace_145_rules = record { pattern = (codes "/x/*"); part = 2; can_async = false } ∷ record { pattern = (codes "/a"); part = 1; can_async = true } ∷ record { pattern = (codes "*.do"); part = 3; can_async = false } ∷ []

abbrev trace_145_01 : Trace
trace_145_01 = (0, opened) ∷ []

abbrev trace_145_02 : Trace
trace_145_02 = (0, caused cause.SwallowLimit) ∷ (0, over) ∷ (0, error_answer 404) ∷ (0, began (record { place = 0; size = 55; head = record { method = (codes "POST"); target = (codes "/b"); minor = 1; fields = record { name = (codes "Host"); value = [] } ∷ record { name = (codes "transfer-encoding"); value = (codes "Chunked") } ∷ [] }; framing = framing.Chunked; max_trailer = 8192; async_timeout = 30000; part = 0; can_async = false; keep = true; go_on = false })) ∷ (0, came (codes "POST /b HTTP/1.1\r\nHost: \r\ntransfer-encoding:Chunked\r\n\r\n000a\r\nllnm")) ∷ trace_145_01

abbrev trace_145_03 : Trace
trace_145_03 = (0, sent 1) ∷ trace_145_02

abbrev trace_145_04 : Trace
trace_145_04 = (0, sent 10) ∷ trace_145_03

abbrev trace_145_06 : Trace
trace_145_06 = (0, sent 99) ∷ trace_145_04

trace_145-connection : connection_told trace_145_06
    ≡ record {
      came = 65;
      consumed = 65;
      room = 16384;
      has_ended = false;
      cause = (Some cause.SwallowLimit);
      is_broken = false;
      is_gone = true;
      is_open = false;
      begun = 1;
      output = (codes "HTTP/1.1 404 \r\nContent-Type: text/plain\r\nContent-Length: 10\r\nDate: Thu, 01 Jan 1970 00:00:00 GMT\r\n\r\nError 404\n");
      took = 110;
      unsent = 0;
      idle_since = 0;
      next_job = None;
      charts = ([]) ∷ [];
    }
unfolding head_text digits date_at count_off is_name_byte
trace_145-connection = refl

trace_145-request : request_told trace_145_06
    ≡ record {
      part = 0;
      state = state.Dispatched;
      running = None;
      parked = None;
      given = 0;
      is_end_told = false;
      waiting = 4;
      used = 10;
      swallowed = 10;
      has_whole_body = false;
      has_bad_body = false;
      listeners = [];
      owed = [];
      deadline = None;
      ready = record { read_set = false; read_armed = false; all_read_told = false; write_set = false; write_armed = false };
    }
unfolding is_name_byte
trace_145-request = refl

trace_145-answer : answer_told trace_145_06
    ≡ record {
      status = 404;
      fields = record { name = (codes "Content-Type"); value = (codes "text/plain") } ∷ [];
      set_length = None;
      content = 10;
      is_aborted = false;
    }
unfolding digits
trace_145-answer = refl

trace_145-01-settled : settled trace_145_limits trace_145_rules 0 ((0, opened) ∷ [])
    ≡ trace_145_01
unfolding settled head_text digits date_at count_off is_name_byte trimmed front_length whole_head host_fits head_of verdict_of target_of framed is_utf8 chars encode
trace_145-01-settled = refl

trace_145-02-settled : settled trace_145_limits trace_145_rules 0 ((0, came (codes "POST /b HTTP/1.1\r\nHost: \r\ntransfer-encoding:Chunked\r\n\r\n000a\r\nllnm")) ∷ trace_145_01)
    ≡ trace_145_02
unfolding settled head_text digits date_at count_off is_name_byte trimmed front_length whole_head host_fits head_of verdict_of target_of framed is_utf8 chars encode
trace_145-02-settled = refl

trace_145-03-settled : settled trace_145_limits trace_145_rules 0 ((0, sent 1) ∷ trace_145_02)
    ≡ trace_145_03
unfolding settled head_text digits date_at count_off is_name_byte trimmed front_length whole_head host_fits head_of verdict_of target_of framed is_utf8 chars encode
trace_145-03-settled = refl

trace_145-04-settled : settled trace_145_limits trace_145_rules 0 ((0, sent 10) ∷ trace_145_03)
    ≡ trace_145_04
unfolding settled head_text digits date_at count_off is_name_byte trimmed front_length whole_head host_fits head_of verdict_of target_of framed is_utf8 chars encode
trace_145-04-settled = refl

trace_145-06-settled : settled trace_145_limits trace_145_rules 0 ((0, sent 99) ∷ trace_145_04)
    ≡ trace_145_06
unfolding settled head_text digits date_at count_off is_name_byte trimmed front_length whole_head host_fits head_of verdict_of target_of framed is_utf8 chars encode
trace_145-06-settled = refl
