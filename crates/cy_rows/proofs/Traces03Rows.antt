-- Traces that another program made, with what it tells of them, computed from the definitions. Made by `cases/rows.py`.
use Rattle.std.proofs.Common.{◌≡◌, true, false, List, [], ◌∷◌, Some, None, codes, refl}
use Rattle.std.specs.Prelude.{pos}
use Rattle.std.specs.Fmt.{digits}
use Rattle.std.specs.Str.{is_utf8, chars}
use lib.Utf8.{encode}
use Rattle.cy_event.specs.declared.framing.Framing.TheVariants as framing
use Rattle.cy_event.specs.declared.limits.Limits.{Limits}
use Rattle.cy_event.specs.declared.steps.Act.TheVariants as act
use Rattle.cy_event.specs.declared.steps.Call.TheVariants as call
use Rattle.cy_event.specs.declared.steps.Job.TheVariants as job
use Rattle.cy_event.specs.declared.steps.Reply.TheVariants as reply
use Rattle.cy_event.specs.declared.steps.State.TheVariants as state
use Rattle.cy_event.specs.Answers.{head_text}
use Rattle.cy_event.specs.Dates.{date_at, count_off}
use Rattle.cy_event.specs.Framings.{framed}
use Rattle.cy_event.specs.Heads.{is_name_byte, trimmed, front_length, whole_head, host_fits, head_of}
use Rattle.cy_event.specs.Targets.{target_of}
use Rattle.cy_map.specs.declared.rule.Rule.{Rule}
use Rattle.cy_model.specs.Endings.{end_marks}
use Rattle.cy_model.specs.Entries.{on_act, reply_to}
use Rattle.cy_model.specs.Jobs.{next_job}
use Rattle.cy_model.specs.Marks.{Trace, output_side, opened, came, sent, began, called, started, parked, back, end_given, error_answer, over}
use Rattle.cy_model.specs.Replies.{plain}
use Rattle.cy_model.specs.Settling.{settled}
use Rattle.cy_model.specs.Verdicts.{verdict_of}
use Rattle.cy_rows.specs.Told.{answer_told, connection_told, open_told, request_told}

abbrev trace_011_limits : Limits
trace_011_limits = record { max_connections = 256; max_head = 256; max_fields = 100; max_keep_alive = pos 100; connection_timeout = 20000; async_timeout = 30000; max_swallow = 2097152; max_trailer = 8192; parts = 3 }

abbrev trace_011_rules : List Rule
trace_011_rules = record { pattern = (codes "/"); part = 0; can_async = true } ∷ record { pattern = (codes "/a"); part = 1; can_async = true } ∷ record { pattern = (codes "/x/*"); part = 2; can_async = false } ∷ []

abbrev trace_011_01 : Trace
trace_011_01 = (0, opened) ∷ []

abbrev trace_011_02 : Trace
trace_011_02 = (0, began (record { place = 0; size = 60; head = record { method = (codes "POST"); target = (codes "/x"); minor = 1; fields = record { name = (codes "Host"); value = (codes "a.b%41") } ∷ record { name = (codes "Content-Length"); value = (codes "00") } ∷ record { name = (codes "X"); value = (codes "l") } ∷ [] }; framing = (framing.Length 0); max_trailer = 8192; async_timeout = 30000; part = 2; can_async = false; keep = true; go_on = false })) ∷ (0, came (codes "POST /x HTTP/1.1\r\nHost: a.b%41\r\nContent-Length: 00\r\nX: l\r\n\r\n")) ∷ trace_011_01

abbrev trace_011_03 : Trace
trace_011_03 = (0, called call.Run None) ∷ (0, started (job.Service 2)) ∷ trace_011_02

abbrev trace_011_06 : Trace
trace_011_06 = (0, parked output_side) ∷ trace_011_03

abbrev trace_011_07 : Trace
trace_011_07 = (0, started job.Resume) ∷ trace_011_06

abbrev trace_011_08 : Trace
trace_011_08 = (0, came (codes "PO")) ∷ trace_011_07

abbrev trace_011_09 : Trace
trace_011_09 = (0, end_given) ∷ trace_011_08

abbrev trace_011_10 : Trace
trace_011_10 = (0, parked output_side) ∷ trace_011_09

abbrev trace_011_11 : Trace
trace_011_11 = (0, started job.Resume) ∷ trace_011_10

abbrev trace_011_12 : Trace
trace_011_12 = (0, over) ∷ (0, error_answer 500) ∷ (0, called call.Fail None) ∷ (0, back) ∷ trace_011_11

abbrev trace_011_13 : Trace
trace_011_13 = (0, sent 1) ∷ trace_011_12

abbrev trace_011_14 : Trace
trace_011_14 = (0, began (record { place = 60; size = 52; head = record { method = (codes "POST"); target = (codes "/"); minor = 1; fields = record { name = (codes "Host"); value = [] } ∷ record { name = (codes "Content-Length"); value = (codes "5") } ∷ record { name = (codes "A"); value = (codes "b") } ∷ [] }; framing = (framing.Length 5); max_trailer = 8192; async_timeout = 30000; part = 0; can_async = true; keep = true; go_on = false })) ∷ (0, came (codes "ST / HTTP/1.1\r\nHost: \r\nContent-Length: 5\r\nA: b\r\n\r\n")) ∷ trace_011_13

trace_011-connection : connection_told trace_011_14
    ≡ record {
      came = 112;
      consumed = 112;
      room = 16384;
      has_ended = false;
      cause = None;
      is_broken = false;
      is_gone = false;
      is_open = true;
      begun = 2;
      output = (codes "HTTP/1.1 500 \r\nContent-Type: text/plain\r\nContent-Length: 10\r\nDate: Thu, 01 Jan 1970 00:00:00 GMT\r\n\r\nError 500\n");
      took = 1;
      unsent = 109;
      idle_since = 0;
      next_job = (Some (job.Service 0));
      charts = (call.Run ∷ call.Fail ∷ []) ∷ ([]) ∷ [];
    }
unfolding head_text digits date_at count_off is_name_byte
trace_011-connection = refl

trace_011-request : request_told trace_011_14
    ≡ record {
      part = 0;
      state = state.Dispatched;
      running = None;
      parked = None;
      given = 0;
      is_end_told = false;
      waiting = 0;
      used = 0;
      swallowed = 0;
      has_whole_body = false;
      has_bad_body = false;
      listeners = [];
      owed = [];
      deadline = None;
      ready = record { read_set = false; read_armed = false; all_read_told = false; write_set = false; write_armed = false };
    }
unfolding is_name_byte
trace_011-request = refl

trace_011-answer : answer_told trace_011_14
    ≡ record {
      status = 200;
      fields = [];
      set_length = None;
      content = 0;
      is_aborted = false;
    }
unfolding digits
trace_011-answer = refl

trace_011-open : open_told trace_011_14
    ≡ record {
      is_committed = false;
      takes_one = true;
      has_to_cut = true;
    }
unfolding head_text digits date_at count_off is_name_byte
trace_011-open = refl

trace_011-01-settled : settled trace_011_limits trace_011_rules 0 ((0, opened) ∷ [])
    ≡ trace_011_01
unfolding settled head_text digits date_at count_off is_name_byte trimmed front_length whole_head host_fits head_of verdict_of target_of framed is_utf8 chars encode
trace_011-01-settled = refl

trace_011-02-settled : settled trace_011_limits trace_011_rules 0 ((0, came (codes "POST /x HTTP/1.1\r\nHost: a.b%41\r\nContent-Length: 00\r\nX: l\r\n\r\n")) ∷ trace_011_01)
    ≡ trace_011_02
unfolding settled head_text digits date_at count_off is_name_byte trimmed front_length whole_head host_fits head_of verdict_of target_of framed is_utf8 chars encode
trace_011-02-settled = refl

trace_011-03-next : next_job (trace_011_02)
    ≡ (Some (job.Service 2))
unfolding head_text digits date_at count_off is_name_byte
trace_011-03-next = refl

trace_011-06-settled : settled trace_011_limits trace_011_rules 0 ((0, parked output_side) ∷ trace_011_03)
    ≡ trace_011_06
unfolding settled head_text digits date_at count_off is_name_byte trimmed front_length whole_head host_fits head_of verdict_of target_of framed is_utf8 chars encode
trace_011-06-settled = refl

trace_011-07-next : next_job (trace_011_06)
    ≡ (Some job.Resume)
unfolding head_text digits date_at count_off is_name_byte
trace_011-07-next = refl

trace_011-08-settled : settled trace_011_limits trace_011_rules 0 ((0, came (codes "PO")) ∷ trace_011_07)
    ≡ trace_011_08
unfolding settled head_text digits date_at count_off is_name_byte trimmed front_length whole_head host_fits head_of verdict_of target_of framed is_utf8 chars encode
trace_011-08-settled = refl

trace_011-09-reply : reply_to trace_011_limits trace_011_rules 0 trace_011_08 (on_act (act.Read 2) [])
    ≡ plain reply.GotEnd
unfolding reply_to head_text digits date_at count_off is_name_byte
trace_011-09-reply = refl

trace_011-09-settled : settled trace_011_limits trace_011_rules 0 ((0, end_given) ∷ trace_011_08)
    ≡ trace_011_09
unfolding settled head_text digits date_at count_off is_name_byte trimmed front_length whole_head host_fits head_of verdict_of target_of framed is_utf8 chars encode
trace_011-09-settled = refl

trace_011-10-settled : settled trace_011_limits trace_011_rules 0 ((0, parked output_side) ∷ trace_011_09)
    ≡ trace_011_10
unfolding settled head_text digits date_at count_off is_name_byte trimmed front_length whole_head host_fits head_of verdict_of target_of framed is_utf8 chars encode
trace_011-10-settled = refl

trace_011-11-next : next_job (trace_011_10)
    ≡ (Some job.Resume)
unfolding head_text digits date_at count_off is_name_byte
trace_011-11-next = refl

trace_011-12-end : end_marks ((0, error_answer 500) ∷ (0, called call.Fail None) ∷ (0, back) ∷ trace_011_11)
    ≡ (over ∷ [])
unfolding head_text digits date_at count_off is_name_byte
trace_011-12-end = refl

trace_011-12-settled : settled trace_011_limits trace_011_rules 0 ((0, over) ∷ (0, error_answer 500) ∷ (0, called call.Fail None) ∷ (0, back) ∷ trace_011_11)
    ≡ trace_011_12
unfolding settled head_text digits date_at count_off is_name_byte trimmed front_length whole_head host_fits head_of verdict_of target_of framed is_utf8 chars encode
trace_011-12-settled = refl

trace_011-13-settled : settled trace_011_limits trace_011_rules 0 ((0, sent 1) ∷ trace_011_12)
    ≡ trace_011_13
unfolding settled head_text digits date_at count_off is_name_byte trimmed front_length whole_head host_fits head_of verdict_of target_of framed is_utf8 chars encode
trace_011-13-settled = refl

trace_011-14-settled : settled trace_011_limits trace_011_rules 0 ((0, came (codes "ST / HTTP/1.1\r\nHost: \r\nContent-Length: 5\r\nA: b\r\n\r\n")) ∷ trace_011_13)
    ≡ trace_011_14
unfolding settled head_text digits date_at count_off is_name_byte trimmed front_length whole_head host_fits head_of verdict_of target_of framed is_utf8 chars encode
trace_011-14-settled = refl
