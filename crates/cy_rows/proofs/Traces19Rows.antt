-- Traces that another program made, with what it tells of them, computed from the definitions. Made by `cases/rows.py`.
use Rattle.std.proofs.Common.{◌≡◌, true, false, List, [], ◌∷◌, Some, None, codes, refl}
use Rattle.std.specs.Prelude.{pos}
use Rattle.std.specs.Fmt.{digits}
use Rattle.std.specs.Str.{is_utf8, chars}
use lib.Utf8.{encode}
use Rattle.cy_event.specs.declared.framing.Framing.TheVariants as framing
use Rattle.cy_event.specs.declared.limits.Limits.{Limits}
use Rattle.cy_event.specs.declared.steps.CloseCause.TheVariants as cause
use Rattle.cy_event.specs.declared.steps.State.TheVariants as state
use Rattle.cy_event.specs.Answers.{head_text}
use Rattle.cy_event.specs.Dates.{date_at, count_off}
use Rattle.cy_event.specs.Framings.{framed}
use Rattle.cy_event.specs.Heads.{is_name_byte, trimmed, front_length, whole_head, host_fits, head_of}
use Rattle.cy_event.specs.Targets.{target_of}
use Rattle.cy_map.specs.declared.rule.Rule.{Rule}
use Rattle.cy_model.specs.Marks.{Trace, opened, came, began, refused, error_answer, over, caused, broken}
use Rattle.cy_model.specs.Replies.{plain}
use Rattle.cy_model.specs.Settling.{settled}
use Rattle.cy_model.specs.Ticks.{tick_move}
use Rattle.cy_model.specs.Verdicts.{verdict_of}
use Rattle.cy_rows.specs.Told.{answer_told, connection_told, request_told}

abbrev trace_069_limits : Limits
trace_069_limits = record { max_connections = 3; max_head = 8192; max_fields = 100; max_keep_alive = pos 1; connection_timeout = 20000; async_timeout = 30000; max_swallow = 100; max_trailer = 8192; parts = 4 }

abbrev trace_069_rules : List Rule
trace_069_rules = record { pattern = (codes "*.do"); part = 3; can_async = true } ∷ record { pattern = (codes "/a"); part = 1; can_async = true } ∷ []

abbrev trace_069_01 : Trace
trace_069_01 = (0, opened) ∷ []

abbrev trace_069_02 : Trace
trace_069_02 = (0, caused cause.LastAnswer) ∷ (0, over) ∷ (0, error_answer 404) ∷ (0, began (record { place = 0; size = 54; head = record { method = (codes "POST"); target = (codes "/"); minor = 1; fields = record { name = (codes "Host"); value = (codes "a") } ∷ record { name = (codes "Content-Length"); value = (codes "01") } ∷ record { name = (codes "A"); value = (codes "b") } ∷ [] }; framing = (framing.Length 1); max_trailer = 8192; async_timeout = 30000; part = 0; can_async = false; keep = false; go_on = false })) ∷ (0, came (codes "POST / HTTP/1.1\r\nHost: a\r\nContent-Length: 01\r\nA: b\r\n\r\nb")) ∷ trace_069_01

abbrev trace_069_04 : Trace
trace_069_04 = (20000, broken) ∷ trace_069_02

trace_069-connection : connection_told trace_069_04
    ≡ record {
      came = 55;
      consumed = 55;
      room = 16384;
      has_ended = false;
      cause = (Some cause.LastAnswer);
      is_broken = true;
      is_gone = true;
      is_open = false;
      begun = 1;
      output = (codes "HTTP/1.1 404 \r\nContent-Type: text/plain\r\nContent-Length: 10\r\nDate: Thu, 01 Jan 1970 00:00:00 GMT\r\nConnection: close\r\n\r\nError 404\n");
      took = 0;
      unsent = 0;
      idle_since = 0;
      next_job = None;
      charts = ([]) ∷ [];
    }
unfolding head_text digits date_at count_off is_name_byte
trace_069-connection = refl

trace_069-request : request_told trace_069_04
    ≡ record {
      part = 0;
      state = state.Dispatched;
      running = None;
      parked = None;
      given = 0;
      is_end_told = false;
      waiting = 1;
      used = 1;
      swallowed = 1;
      has_whole_body = true;
      has_bad_body = false;
      listeners = [];
      owed = [];
      deadline = None;
      ready = record { read_set = false; read_armed = false; all_read_told = false; write_set = false; write_armed = false };
    }
unfolding is_name_byte
trace_069-request = refl

trace_069-answer : answer_told trace_069_04
    ≡ record {
      status = 404;
      fields = record { name = (codes "Content-Type"); value = (codes "text/plain") } ∷ [];
      set_length = None;
      content = 10;
      is_aborted = false;
    }
unfolding digits
trace_069-answer = refl

trace_069-01-settled : settled trace_069_limits trace_069_rules 0 ((0, opened) ∷ [])
    ≡ trace_069_01
unfolding settled head_text digits date_at count_off is_name_byte trimmed front_length whole_head host_fits head_of verdict_of target_of framed is_utf8 chars encode
trace_069-01-settled = refl

trace_069-02-settled : settled trace_069_limits trace_069_rules 0 ((0, came (codes "POST / HTTP/1.1\r\nHost: a\r\nContent-Length: 01\r\nA: b\r\n\r\nb")) ∷ trace_069_01)
    ≡ trace_069_02
unfolding settled head_text digits date_at count_off is_name_byte trimmed front_length whole_head host_fits head_of verdict_of target_of framed is_utf8 chars encode
trace_069-02-settled = refl

trace_069-03-tick : tick_move trace_069_limits 19999 trace_069_02
    ≡ None
unfolding head_text digits date_at count_off is_name_byte
trace_069-03-tick = refl

trace_069-04-tick : tick_move trace_069_limits 20000 trace_069_02
    ≡ Some (broken ∷ [])
unfolding head_text digits date_at count_off is_name_byte
trace_069-04-tick = refl

trace_069-04-settled : settled trace_069_limits trace_069_rules 20000 ((20000, broken) ∷ trace_069_02)
    ≡ trace_069_04
unfolding settled head_text digits date_at count_off is_name_byte trimmed front_length whole_head host_fits head_of verdict_of target_of framed is_utf8 chars encode
trace_069-04-settled = refl

trace_069-05-tick : tick_move trace_069_limits 20000 trace_069_04
    ≡ None
unfolding head_text digits date_at count_off is_name_byte
trace_069-05-tick = refl

abbrev trace_071_limits : Limits
trace_071_limits = record { max_connections = 256; max_head = 8192; max_fields = 100; max_keep_alive = pos 100; connection_timeout = 20000; async_timeout = 30000; max_swallow = 2097152; max_trailer = 8192; parts = 0 }

abbrev trace_071_rules : List Rule
trace_071_rules = []

abbrev trace_071_01 : Trace
trace_071_01 = (0, opened) ∷ []

abbrev trace_071_02 : Trace
trace_071_02 = (0, caused cause.Refused) ∷ (0, refused 501 false) ∷ (0, came (codes "CONNECT /q.do HTTP/1.1\r\nHost: [::1]:80\r\nTransfer-Encoding: chunked\r\nX: llllllllllllllllllllllllllllllllllllllll\r\nX: llllllllllllllllllllllllllllllllllllllll\r\n\r\n")) ∷ trace_071_01

abbrev trace_071_04 : Trace
trace_071_04 = (20000, broken) ∷ trace_071_02

trace_071-connection : connection_told trace_071_04
    ≡ record {
      came = 160;
      consumed = 0;
      room = 16224;
      has_ended = false;
      cause = (Some cause.Refused);
      is_broken = true;
      is_gone = true;
      is_open = false;
      begun = 0;
      output = (codes "HTTP/1.1 501 \r\nContent-Type: text/plain\r\nContent-Length: 10\r\nDate: Thu, 01 Jan 1970 00:00:00 GMT\r\nConnection: close\r\n\r\nError 501\n");
      took = 0;
      unsent = 0;
      idle_since = 0;
      next_job = None;
      charts = [];
    }
unfolding head_text digits date_at count_off is_name_byte
trace_071-connection = refl

trace_071-01-settled : settled trace_071_limits trace_071_rules 0 ((0, opened) ∷ [])
    ≡ trace_071_01
unfolding settled head_text digits date_at count_off is_name_byte trimmed front_length whole_head host_fits head_of verdict_of target_of framed is_utf8 chars encode
trace_071-01-settled = refl

trace_071-02-settled : settled trace_071_limits trace_071_rules 0 ((0, came (codes "CONNECT /q.do HTTP/1.1\r\nHost: [::1]:80\r\nTransfer-Encoding: chunked\r\nX: llllllllllllllllllllllllllllllllllllllll\r\nX: llllllllllllllllllllllllllllllllllllllll\r\n\r\n")) ∷ trace_071_01)
    ≡ trace_071_02
unfolding settled head_text digits date_at count_off is_name_byte trimmed front_length whole_head host_fits head_of verdict_of target_of framed is_utf8 chars encode
trace_071-02-settled = refl

trace_071-03-tick : tick_move trace_071_limits 19999 trace_071_02
    ≡ None
unfolding head_text digits date_at count_off is_name_byte
trace_071-03-tick = refl

trace_071-04-tick : tick_move trace_071_limits 20000 trace_071_02
    ≡ Some (broken ∷ [])
unfolding head_text digits date_at count_off is_name_byte
trace_071-04-tick = refl

trace_071-04-settled : settled trace_071_limits trace_071_rules 20000 ((20000, broken) ∷ trace_071_02)
    ≡ trace_071_04
unfolding settled head_text digits date_at count_off is_name_byte trimmed front_length whole_head host_fits head_of verdict_of target_of framed is_utf8 chars encode
trace_071-04-settled = refl

abbrev trace_078_limits : Limits
trace_078_limits = record { max_connections = 256; max_head = 8192; max_fields = 6; max_keep_alive = pos 3; connection_timeout = 20000; async_timeout = 30000; max_swallow = 100; max_trailer = 8192; parts = 4 }

abbrev trace_078_rules : List Rule
trace_078_rules = record { pattern = (codes "/a/*"); part = 2; can_async = true } ∷ record { pattern = (codes "*.do"); part = 3; can_async = true } ∷ record { pattern = (codes "/"); part = 0; can_async = false } ∷ record { pattern = (codes "/x/*"); part = 2; can_async = false } ∷ []

abbrev trace_078_01 : Trace
trace_078_01 = (0, opened) ∷ []

abbrev trace_078_03 : Trace
trace_078_03 = (0, came (codes "\r\nPUT /")) ∷ trace_078_01

abbrev trace_078_04 : Trace
trace_078_04 = (20000, broken) ∷ (20000, caused cause.IdleTimeout) ∷ trace_078_03

trace_078-connection : connection_told trace_078_04
    ≡ record {
      came = 7;
      consumed = 0;
      room = 16377;
      has_ended = false;
      cause = (Some cause.IdleTimeout);
      is_broken = true;
      is_gone = true;
      is_open = false;
      begun = 0;
      output = [];
      took = 0;
      unsent = 0;
      idle_since = 0;
      next_job = None;
      charts = [];
    }
unfolding head_text digits date_at count_off is_name_byte
trace_078-connection = refl

trace_078-01-settled : settled trace_078_limits trace_078_rules 0 ((0, opened) ∷ [])
    ≡ trace_078_01
unfolding settled head_text digits date_at count_off is_name_byte trimmed front_length whole_head host_fits head_of verdict_of target_of framed is_utf8 chars encode
trace_078-01-settled = refl

trace_078-03-settled : settled trace_078_limits trace_078_rules 0 ((0, came (codes "\r\nPUT /")) ∷ trace_078_01)
    ≡ trace_078_03
unfolding settled head_text digits date_at count_off is_name_byte trimmed front_length whole_head host_fits head_of verdict_of target_of framed is_utf8 chars encode
trace_078-03-settled = refl

trace_078-04-tick : tick_move trace_078_limits 20000 trace_078_03
    ≡ Some (caused cause.IdleTimeout ∷ broken ∷ [])
unfolding head_text digits date_at count_off is_name_byte
trace_078-04-tick = refl

trace_078-04-settled : settled trace_078_limits trace_078_rules 20000 ((20000, broken) ∷ (20000, caused cause.IdleTimeout) ∷ trace_078_03)
    ≡ trace_078_04
unfolding settled head_text digits date_at count_off is_name_byte trimmed front_length whole_head host_fits head_of verdict_of target_of framed is_utf8 chars encode
trace_078-04-settled = refl

trace_078-11-tick : tick_move trace_078_limits 20001 trace_078_04
    ≡ None
unfolding head_text digits date_at count_off is_name_byte
trace_078-11-tick = refl
