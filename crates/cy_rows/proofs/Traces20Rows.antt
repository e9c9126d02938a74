-- Traces that another program made, with what it tells of them, computed from the definitions. Made by `cases/rows.py`.
use Rattle.std.proofs.Common.{◌≡◌, true, false, List, [], ◌∷◌, Some, None, codes, refl}
use Rattle.std.specs.Prelude.{pos}
use Rattle.std.specs.Fmt.{digits}
use Rattle.std.specs.Str.{is_utf8, chars}
use lib.Utf8.{encode}
use Rattle.cy_event.specs.declared.framing.Framing.TheVariants as framing
use Rattle.cy_event.specs.declared.limits.Limits.{Limits}
use Rattle.cy_event.specs.declared.steps.Call.TheVariants as call
use Rattle.cy_event.specs.declared.steps.Job.TheVariants as job
use Rattle.cy_event.specs.declared.steps.State.TheVariants as state
use Rattle.cy_event.specs.Answers.{head_text}
use Rattle.cy_event.specs.Dates.{date_at, count_off}
use Rattle.cy_event.specs.Framings.{framed}
use Rattle.cy_event.specs.Heads.{is_name_byte, trimmed, front_length, whole_head, host_fits, head_of}
use Rattle.cy_event.specs.Targets.{target_of}
use Rattle.cy_map.specs.declared.rule.Rule.{Rule}
use Rattle.cy_model.specs.Jobs.{next_job}
use Rattle.cy_model.specs.Marks.{Trace, opened, came, sent, began, called, started, listened, read_listener_set, field_added, answer_reset, put, flushed}
use Rattle.cy_model.specs.Settling.{settled}
use Rattle.cy_model.specs.Verdicts.{verdict_of}
use Rattle.cy_rows.specs.Told.{answer_told, connection_told, open_told, request_told}

abbrev trace_085_limits : Limits
trace_085_limits = record { max_connections = 1; max_head = 8192; max_fields = 100; max_keep_alive = pos 100; connection_timeout = 1000; async_timeout = 30000; max_swallow = 2097152; max_trailer = 8192; parts = 3 }

abbrev trace_085_rules : List Rule
trace_085_rules = record { pattern = (codes "/"); part = 0; can_async = true } ∷ record { pattern = (codes "/a"); part = 1; can_async = true } ∷ record { pattern = (codes "/x/*"); part = 2; can_async = false } ∷ []

abbrev trace_085_01 : Trace
trace_085_01 = (0, opened) ∷ []

abbrev trace_085_02 : Trace
trace_085_02 = (0, sent 0) ∷ trace_085_01

abbrev trace_085_03 : Trace
trace_085_03 = (0, began (record { place = 0; size = 69; head = record { method = (codes "GET"); target = (codes "/a"); minor = 1; fields = record { name = (codes "Host"); value = (codes "localhost:8080") } ∷ record { name = (codes "Transfer-Encoding"); value = (codes "chunked") } ∷ [] }; framing = framing.Chunked; max_trailer = 8192; async_timeout = 30000; part = 1; can_async = true; keep = true; go_on = false })) ∷ (0, came (codes "GET /a HTTP/1.1\r\nHost: localhost:8080\r\nTransfer-Encoding: chunked\r\n\r\n000a\r\nkmkkkmnpmm\r\n0\r\nT: w\r\na:\r\n\r\n\n\r\nPUT /a HTTP/1.1\r\nHost: [::1]:80\r\nContent-Length: 1\r\nCookie: x=1; y=2\r\n\r\nx")) ∷ trace_085_02

abbrev trace_085_04 : Trace
trace_085_04 = (0, sent 0) ∷ trace_085_03

abbrev trace_085_05 : Trace
trace_085_05 = (0, called call.Run None) ∷ (0, started (job.Service 1)) ∷ trace_085_04

abbrev trace_085_06 : Trace
trace_085_06 = (0, put (codes "aaaaaaaa")) ∷ trace_085_05

abbrev trace_085_07 : Trace
trace_085_07 = (0, called call.Start None) ∷ trace_085_06

abbrev trace_085_08 : Trace
trace_085_08 = (0, put (codes "        ")) ∷ trace_085_07

abbrev trace_085_09 : Trace
trace_085_09 = (0, read_listener_set) ∷ trace_085_08

abbrev trace_085_10 : Trace
trace_085_10 = (0, listened 20) ∷ trace_085_09

abbrev trace_085_11 : Trace
trace_085_11 = (0, called call.DispatchOther (Some 2)) ∷ trace_085_10

abbrev trace_085_12 : Trace
trace_085_12 = (0, answer_reset) ∷ trace_085_11

abbrev trace_085_13 : Trace
trace_085_13 = (0, field_added (record { name = (codes "X-Sum"); value = [] })) ∷ trace_085_12

abbrev trace_085_16 : Trace
trace_085_16 = (0, flushed) ∷ trace_085_13

abbrev trace_085_17 : Trace
trace_085_17 = (0, put (codes "dddddddddddddddddddddddddddddddddddddddddddddddddddddddddddddddddddddddddddddddddddddddddddddddddddd")) ∷ trace_085_16

abbrev trace_085_18 : Trace
trace_085_18 = (0, came (80 ∷ 85 ∷ 84 ∷ 32 ∷ 47 ∷ 32 ∷ 72 ∷ 84 ∷ 84 ∷ 80 ∷ 47 ∷ 49 ∷ 46 ∷ 49 ∷ 13 ∷ 10 ∷ 72 ∷ 111 ∷ 115 ∷ 116 ∷ 58 ∷ 32 ∷ 97 ∷ 46 ∷ 98 ∷ 37 ∷ 52 ∷ 49 ∷ 13 ∷ 10 ∷ 67 ∷ 111 ∷ 110 ∷ 116 ∷ 101 ∷ 110 ∷ 116 ∷ 45 ∷ 76 ∷ 101 ∷ 110 ∷ 103 ∷ 116 ∷ 104 ∷ 58 ∷ 32 ∷ 53 ∷ 13 ∷ 10 ∷ 85 ∷ 116 ∷ 102 ∷ 58 ∷ 32 ∷ 195 ∷ 169 ∷ 13 ∷ 10 ∷ 65 ∷ 58 ∷ 32 ∷ 98 ∷ 13 ∷ 10 ∷ 13 ∷ 10 ∷ [])) ∷ trace_085_17

trace_085-connection : connection_told trace_085_18
    ≡ record {
      came = 244;
      consumed = 69;
      room = 16209;
      has_ended = false;
      cause = None;
      is_broken = false;
      is_gone = false;
      is_open = true;
      begun = 1;
      output = (codes "HTTP/1.1 200 \r\nX-Sum: \r\nTransfer-Encoding: chunked\r\nDate: Thu, 01 Jan 1970 00:00:00 GMT\r\n\r\n");
      took = 0;
      unsent = 91;
      idle_since = 0;
      next_job = None;
      charts = (call.Run ∷ call.Start ∷ call.DispatchOther ∷ []) ∷ [];
    }
unfolding head_text digits date_at count_off is_name_byte
trace_085-connection = refl

trace_085-request : request_told trace_085_18
    ≡ record {
      part = 2;
      state = state.DispatchPending;
      running = (Some (job.Service 1));
      parked = None;
      given = 0;
      is_end_told = false;
      waiting = 10;
      used = 0;
      swallowed = 0;
      has_whole_body = true;
      has_bad_body = false;
      listeners = 20 ∷ [];
      owed = [];
      deadline = None;
      ready = record { read_set = true; read_armed = true; all_read_told = false; write_set = false; write_armed = false };
    }
unfolding is_name_byte
trace_085-request = refl

trace_085-answer : answer_told trace_085_18
    ≡ record {
      status = 200;
      fields = record { name = (codes "X-Sum"); value = [] } ∷ [];
      set_length = None;
      content = 100;
      is_aborted = false;
    }
unfolding digits
trace_085-answer = refl

trace_085-open : open_told trace_085_18
    ≡ record {
      is_committed = true;
      takes_one = true;
      has_to_cut = true;
    }
unfolding head_text digits date_at count_off is_name_byte
trace_085-open = refl

trace_085-01-settled : settled trace_085_limits trace_085_rules 0 ((0, opened) ∷ [])
    ≡ trace_085_01
unfolding settled head_text digits date_at count_off is_name_byte trimmed front_length whole_head host_fits head_of verdict_of target_of framed is_utf8 chars encode
trace_085-01-settled = refl

trace_085-02-settled : settled trace_085_limits trace_085_rules 0 ((0, sent 0) ∷ trace_085_01)
    ≡ trace_085_02
unfolding settled head_text digits date_at count_off is_name_byte trimmed front_length whole_head host_fits head_of verdict_of target_of framed is_utf8 chars encode
trace_085-02-settled = refl

trace_085-03-settled : settled trace_085_limits trace_085_rules 0 ((0, came (codes "GET /a HTTP/1.1\r\nHost: localhost:8080\r\nTransfer-Encoding: chunked\r\n\r\n000a\r\nkmkkkmnpmm\r\n0\r\nT: w\r\na:\r\n\r\n\n\r\nPUT /a HTTP/1.1\r\nHost: [::1]:80\r\nContent-Length: 1\r\nCookie: x=1; y=2\r\n\r\nx")) ∷ trace_085_02)
    ≡ trace_085_03
unfolding settled head_text digits date_at count_off is_name_byte trimmed front_length whole_head host_fits head_of verdict_of target_of framed is_utf8 chars encode
trace_085-03-settled = refl

trace_085-04-settled : settled trace_085_limits trace_085_rules 0 ((0, sent 0) ∷ trace_085_03)
    ≡ trace_085_04
unfolding settled head_text digits date_at count_off is_name_byte trimmed front_length whole_head host_fits head_of verdict_of target_of framed is_utf8 chars encode
trace_085-04-settled = refl

trace_085-05-next : next_job (trace_085_04)
    ≡ (Some (job.Service 1))
unfolding head_text digits date_at count_off is_name_byte
trace_085-05-next = refl

trace_085-06-settled : settled trace_085_limits trace_085_rules 0 ((0, put (codes "aaaaaaaa")) ∷ trace_085_05)
    ≡ trace_085_06
unfolding settled head_text digits date_at count_off is_name_byte trimmed front_length whole_head host_fits head_of verdict_of target_of framed is_utf8 chars encode
trace_085-06-settled = refl

trace_085-07-settled : settled trace_085_limits trace_085_rules 0 ((0, called call.Start None) ∷ trace_085_06)
    ≡ trace_085_07
unfolding settled head_text digits date_at count_off is_name_byte trimmed front_length whole_head host_fits head_of verdict_of target_of framed is_utf8 chars encode
trace_085-07-settled = refl

trace_085-08-settled : settled trace_085_limits trace_085_rules 0 ((0, put (codes "        ")) ∷ trace_085_07)
    ≡ trace_085_08
unfolding settled head_text digits date_at count_off is_name_byte trimmed front_length whole_head host_fits head_of verdict_of target_of framed is_utf8 chars encode
trace_085-08-settled = refl

trace_085-09-settled : settled trace_085_limits trace_085_rules 0 ((0, read_listener_set) ∷ trace_085_08)
    ≡ trace_085_09
unfolding settled head_text digits date_at count_off is_name_byte trimmed front_length whole_head host_fits head_of verdict_of target_of framed is_utf8 chars encode
trace_085-09-settled = refl

trace_085-10-settled : settled trace_085_limits trace_085_rules 0 ((0, listened 20) ∷ trace_085_09)
    ≡ trace_085_10
unfolding settled head_text digits date_at count_off is_name_byte trimmed front_length whole_head host_fits head_of verdict_of target_of framed is_utf8 chars encode
trace_085-10-settled = refl

trace_085-12-settled : settled trace_085_limits trace_085_rules 0 ((0, answer_reset) ∷ trace_085_11)
    ≡ trace_085_12
unfolding settled head_text digits date_at count_off is_name_byte trimmed front_length whole_head host_fits head_of verdict_of target_of framed is_utf8 chars encode
trace_085-12-settled = refl

trace_085-13-settled : settled trace_085_limits trace_085_rules 0 ((0, field_added (record { name = (codes "X-Sum"); value = [] })) ∷ trace_085_12)
    ≡ trace_085_13
unfolding settled head_text digits date_at count_off is_name_byte trimmed front_length whole_head host_fits head_of verdict_of target_of framed is_utf8 chars encode
trace_085-13-settled = refl

trace_085-16-settled : settled trace_085_limits trace_085_rules 0 ((0, flushed) ∷ trace_085_13)
    ≡ trace_085_16
unfolding settled head_text digits date_at count_off is_name_byte trimmed front_length whole_head host_fits head_of verdict_of target_of framed is_utf8 chars encode
trace_085-16-settled = refl

trace_085-17-settled : settled trace_085_limits trace_085_rules 0 ((0, put (codes "dddddddddddddddddddddddddddddddddddddddddddddddddddddddddddddddddddddddddddddddddddddddddddddddddddd")) ∷ trace_085_16)
    ≡ trace_085_17
unfolding settled head_text digits date_at count_off is_name_byte trimmed front_length whole_head host_fits head_of verdict_of target_of framed is_utf8 chars encode
trace_085-17-settled = refl

trace_085-18-settled : settled trace_085_limits trace_085_rules 0 ((0, came (80 ∷ 85 ∷ 84 ∷ 32 ∷ 47 ∷ 32 ∷ 72 ∷ 84 ∷ 84 ∷ 80 ∷ 47 ∷ 49 ∷ 46 ∷ 49 ∷ 13 ∷ 10 ∷ 72 ∷ 111 ∷ 115 ∷ 116 ∷ 58 ∷ 32 ∷ 97 ∷ 46 ∷ 98 ∷ 37 ∷ 52 ∷ 49 ∷ 13 ∷ 10 ∷ 67 ∷ 111 ∷ 110 ∷ 116 ∷ 101 ∷ 110 ∷ 116 ∷ 45 ∷ 76 ∷ 101 ∷ 110 ∷ 103 ∷ 116 ∷ 104 ∷ 58 ∷ 32 ∷ 53 ∷ 13 ∷ 10 ∷ 85 ∷ 116 ∷ 102 ∷ 58 ∷ 32 ∷ 195 ∷ 169 ∷ 13 ∷ 10 ∷ 65 ∷ 58 ∷ 32 ∷ 98 ∷ 13 ∷ 10 ∷ 13 ∷ 10 ∷ [])) ∷ trace_085_17)
    ≡ trace_085_18
unfolding settled head_text digits date_at count_off is_name_byte trimmed front_length whole_head host_fits head_of verdict_of target_of framed is_utf8 chars encode
trace_085-18-settled = refl
