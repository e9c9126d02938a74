-- Traces that another program made, with what it tells of them, computed from the definitions. Made by `cases/rows.py`.
use Rattle.std.proofs.Common.{◌≡◌, true, false, List, [], ◌∷◌, Some, None, codes, refl}
use Rattle.std.specs.Prelude.{pos}
use Rattle.std.specs.Fmt.{digits}
use Rattle.std.specs.Str.{is_utf8, chars}
use lib.Utf8.{encode}
use Rattle.cy_event.specs.declared.framing.Framing.TheVariants as framing
use Rattle.cy_event.specs.declared.limits.Limits.{Limits}
use Rattle.cy_event.specs.declared.steps.Act.TheVariants as act
use Rattle.cy_event.specs.declared.steps.Call.TheVariants as call
use Rattle.cy_event.specs.declared.steps.CloseCause.TheVariants as cause
use Rattle.cy_event.specs.declared.steps.Job.TheVariants as job
use Rattle.cy_event.specs.declared.steps.Reply.TheVariants as reply
use Rattle.cy_event.specs.declared.steps.State.TheVariants as state
use Rattle.cy_event.specs.Answers.{head_text}
use Rattle.cy_event.specs.Dates.{date_at, count_off}
use Rattle.cy_event.specs.Framings.{framed}
use Rattle.cy_event.specs.Heads.{is_name_byte, trimmed, front_length, whole_head, host_fits, head_of}
use Rattle.cy_event.specs.Targets.{target_of}
use Rattle.cy_map.specs.declared.rule.Rule.{Rule}
use Rattle.cy_model.specs.Endings.{end_marks}
use Rattle.cy_model.specs.Entries.{on_act, reply_to}
use Rattle.cy_model.specs.Jobs.{next_job}
use Rattle.cy_model.specs.Marks.{Trace, opened, came, sent, began, refused, called, started, back, end_given, listened, timeout_set, status_set, field_added, length_set, put, flushed, over, caused}
use Rattle.cy_model.specs.Replies.{plain}
use Rattle.cy_model.specs.Settling.{settled}
use Rattle.cy_model.specs.Verdicts.{verdict_of}
use Rattle.cy_rows.specs.Told.{answer_told, connection_told, open_told, request_told}

abbrev trace_121_limits : Limits
trace_121_limits = record { max_connections = 256; max_head = 8192; max_fields = 100; max_keep_alive = pos 3; connection_timeout = 20000; async_timeout = 30000; max_swallow = 2097152; max_trailer = 8192; parts = 3 }

abbrev trace_121_rules : List Rule
trace_121_rules = record { pattern = (codes "/"); part = 0; can_async = true } ∷ record { pattern = (codes "/a"); part = 1; can_async = true } ∷ record { pattern = (codes "/x/*"); part = 2; can_async = false } ∷ []

abbrev trace_121_01 : Trace
trace_121_01 = (0, opened) ∷ []

abbrev trace_121_02 : Trace
trace_121_02 = (0, caused cause.Refused) ∷ (0, refused 501 false) ∷ (0, came (codes "\r\nCONNECT / HTTP/1.1\r\nA: b\r\nContent-Length: 5\r\nHost: [::1]:80\r\n\r\n")) ∷ trace_121_01

abbrev trace_121_04 : Trace
trace_121_04 = (0, sent 129) ∷ trace_121_02

trace_121-connection : connection_told trace_121_04
    ≡ record {
      came = 65;
      consumed = 0;
      room = 16319;
      has_ended = false;
      cause = (Some cause.Refused);
      is_broken = false;
      is_gone = true;
      is_open = false;
      begun = 0;
      output = (codes "HTTP/1.1 501 \r\nContent-Type: text/plain\r\nContent-Length: 10\r\nDate: Thu, 01 Jan 1970 00:00:00 GMT\r\nConnection: close\r\n\r\nError 501\n");
      took = 129;
      unsent = 0;
      idle_since = 0;
      next_job = None;
      charts = [];
    }
unfolding head_text digits date_at count_off is_name_byte
trace_121-connection = refl

trace_121-01-settled : settled trace_121_limits trace_121_rules 0 ((0, opened) ∷ [])
    ≡ trace_121_01
unfolding settled head_text digits date_at count_off is_name_byte trimmed front_length whole_head host_fits head_of verdict_of target_of framed is_utf8 chars encode
trace_121-01-settled = refl

trace_121-02-settled : settled trace_121_limits trace_121_rules 0 ((0, came (codes "\r\nCONNECT / HTTP/1.1\r\nA: b\r\nContent-Length: 5\r\nHost: [::1]:80\r\n\r\n")) ∷ trace_121_01)
    ≡ trace_121_02
unfolding settled head_text digits date_at count_off is_name_byte trimmed front_length whole_head host_fits head_of verdict_of target_of framed is_utf8 chars encode
trace_121-02-settled = refl

trace_121-04-settled : settled trace_121_limits trace_121_rules 0 ((0, sent 129) ∷ trace_121_02)
    ≡ trace_121_04
unfolding settled head_text digits date_at count_off is_name_byte trimmed front_length whole_head host_fits head_of verdict_of target_of framed is_utf8 chars encode
trace_121-04-settled = refl

abbrev trace_122_limits : Limits
trace_122_limits = record { max_connections = 256; max_head = 257; max_fields = 100; max_keep_alive = pos 100; connection_timeout = 50; async_timeout = 30000; max_swallow = 10; max_trailer = 8192; parts = 3 }

abbrev trace_122_rules : List Rule
trace_122_rules = record { pattern = (codes "/"); part = 0; can_async = true } ∷ record { pattern = (codes "/a"); part = 1; can_async = true } ∷ record { pattern = (codes "/x/*"); part = 2; can_async = false } ∷ []

abbrev trace_122_01 : Trace
trace_122_01 = (0, opened) ∷ []

abbrev trace_122_02 : Trace
trace_122_02 = (0, began (record { place = 0; size = 35; head = record { method = (codes "GET"); target = (codes "/x"); minor = 1; fields = record { name = (codes "Host"); value = (codes "[::1]:80") } ∷ [] }; framing = framing.None; max_trailer = 8192; async_timeout = 30000; part = 2; can_async = false; keep = true; go_on = false })) ∷ (0, came (codes "GET /x HTTP/1.1\r\nHost: [::1]:80\r\n\r\n")) ∷ trace_122_01

abbrev trace_122_03 : Trace
trace_122_03 = (0, called call.Run None) ∷ (0, started (job.Service 2)) ∷ trace_122_02

abbrev trace_122_04 : Trace
trace_122_04 = (0, over) ∷ (0, called call.Return None) ∷ (0, back) ∷ trace_122_03

abbrev trace_122_05 : Trace
trace_122_05 = (0, sent 73) ∷ trace_122_04

abbrev trace_122_06 : Trace
trace_122_06 = (0, began (record { place = 35; size = 63; head = record { method = (codes "PUT"); target = (codes "/a%20b;p=1/c"); minor = 1; fields = record { name = (codes "Host"); value = (codes "[::1]:80") } ∷ record { name = (codes "X"); value = (codes "l") } ∷ record { name = (codes "Utf"); value = (195 ∷ 169 ∷ []) } ∷ [] }; framing = framing.None; max_trailer = 8192; async_timeout = 30000; part = 0; can_async = true; keep = true; go_on = false })) ∷ (0, came (10 ∷ 13 ∷ 10 ∷ 80 ∷ 85 ∷ 84 ∷ 32 ∷ 47 ∷ 97 ∷ 37 ∷ 50 ∷ 48 ∷ 98 ∷ 59 ∷ 112 ∷ 61 ∷ 49 ∷ 47 ∷ 99 ∷ 32 ∷ 72 ∷ 84 ∷ 84 ∷ 80 ∷ 47 ∷ 49 ∷ 46 ∷ 49 ∷ 13 ∷ 10 ∷ 72 ∷ 111 ∷ 115 ∷ 116 ∷ 58 ∷ 32 ∷ 91 ∷ 58 ∷ 58 ∷ 49 ∷ 93 ∷ 58 ∷ 56 ∷ 48 ∷ 13 ∷ 10 ∷ 88 ∷ 58 ∷ 32 ∷ 108 ∷ 13 ∷ 10 ∷ 85 ∷ 116 ∷ 102 ∷ 58 ∷ 32 ∷ 195 ∷ 169 ∷ 13 ∷ 10 ∷ 13 ∷ 10 ∷ [])) ∷ trace_122_05

abbrev trace_122_07 : Trace
trace_122_07 = (0, sent 0) ∷ trace_122_06

abbrev trace_122_08 : Trace
trace_122_08 = (0, called call.Run None) ∷ (0, started (job.Service 0)) ∷ trace_122_07

abbrev trace_122_09 : Trace
trace_122_09 = (0, came (codes "GET / HTTP/1.1\r\nHost: a\r\nExpect: \r\n\r\n")) ∷ trace_122_08

abbrev trace_122_10 : Trace
trace_122_10 = (0, called call.Start None) ∷ trace_122_09

abbrev trace_122_11 : Trace
trace_122_11 = (0, put []) ∷ trace_122_10

abbrev trace_122_12 : Trace
trace_122_12 = (0, listened 242) ∷ trace_122_11

abbrev trace_122_13 : Trace
trace_122_13 = (0, status_set 404) ∷ trace_122_12

abbrev trace_122_14 : Trace
trace_122_14 = (0, end_given) ∷ trace_122_13

abbrev trace_122_15 : Trace
trace_122_15 = (0, timeout_set 1) ∷ trace_122_14

abbrev trace_122_16 : Trace
trace_122_16 = (0, field_added (record { name = (codes "X-Sum"); value = (codes "xxxxxxxxxxxxxxxxxxxxxxxxxxxxxxxxxxxxxxxxxxxxxxxxxxxxxxxxxxxxxxxxxxxxxxxxxxxxxxxxxxxxxxxxxxxxxxxxxxxxxxxxxxxxxxxxxxxxxxxxxxxxxxxxxxxxxxxxxxxxxxxxxxxxxxxxxxxxxxxxxxxxxxxxxxxxxxxxxxxxxxxxxxxxxxxxxxxxxxxxxxxxxxxxxxxxxxxxxxxxxxxxxxxxxxxxxxxxxxxxxxxxxxxxxxxxxxxxxxxxxxxxxxxxxxxxxxxxxxxxxxxxxxxxxxxxxxxxxxxxxxxxxxxxxxxxxxxxxxxxxxxxxxxxxxxxxxxxxxxxxxxxxxxxxxxxxxxxxxxxxxxxxxxxxxxxxxxxxxxxxxxxxxxxxxxxxxxxxxxxxxxxxxxxxxxxxxxxxxxxxxxxxxxxxxxxxxxxxxxxxxxxxxxxxxxxxxxxxxxxxxxxxxxxxxxxxxxxxxxxxxxxxxxxxxxxxxxxxxx") })) ∷ trace_122_15

abbrev trace_122_17 : Trace
trace_122_17 = (0, length_set 0) ∷ trace_122_16

abbrev trace_122_18 : Trace
trace_122_18 = (0, flushed) ∷ trace_122_17

abbrev trace_122_19 : Trace
trace_122_19 = (0, called call.CompleteOther None) ∷ trace_122_18

abbrev trace_122_20 : Trace
trace_122_20 = (0, sent 581) ∷ trace_122_19

trace_122-connection : connection_told trace_122_20
    ≡ record {
      came = 135;
      consumed = 98;
      room = 16347;
      has_ended = false;
      cause = None;
      is_broken = false;
      is_gone = false;
      is_open = true;
      begun = 2;
      output = (codes "HTTP/1.1 200 \r\nContent-Length: 0\r\nDate: Thu, 01 Jan 1970 00:00:00 GMT\r\n\r\nHTTP/1.1 404 \r\nX-Sum: xxxxxxxxxxxxxxxxxxxxxxxxxxxxxxxxxxxxxxxxxxxxxxxxxxxxxxxxxxxxxxxxxxxxxxxxxxxxxxxxxxxxxxxxxxxxxxxxxxxxxxxxxxxxxxxxxxxxxxxxxxxxxxxxxxxxxxxxxxxxxxxxxxxxxxxxxxxxxxxxxxxxxxxxxxxxxxxxxxxxxxxxxxxxxxxxxxxxxxxxxxxxxxxxxxxxxxxxxxxxxxxxxxxxxxxxxxxxxxxxxxxxxxxxxxxxxxxxxxxxxxxxxxxxxxxxxxxxxxxxxxxxxxxxxxxxxxxxxxxxxxxxxxxxxxxxxxxxxxxxxxxxxxxxxxxxxxxxxxxxxxxxxxxxxxxxxxxxxxxxxxxxxxxxxxxxxxxxxxxxxxxxxxxxxxxxxxxxxxxxxxxxxxxxxxxxxxxxxxxxxxxxxxxxxxxxxxxxxxxxxxxxxxxxxxxxxxxxxxxxxxxxxxxxxxxxxxxxxxxxxxxxxxxxxxxxxxxxxxx\r\nContent-Length: 0\r\nDate: Thu, 01 Jan 1970 00:00:00 GMT\r\n\r\n");
      took = 654;
      unsent = 0;
      idle_since = 0;
      next_job = None;
      charts = (call.Run ∷ call.Return ∷ []) ∷ (call.Run ∷ call.Start ∷ call.CompleteOther ∷ []) ∷ [];
    }
unfolding head_text digits date_at count_off is_name_byte
trace_122-connection = refl

trace_122-request : request_told trace_122_20
    ≡ record {
      part = 0;
      state = state.CompletePending;
      running = (Some (job.Service 0));
      parked = None;
      given = 0;
      is_end_told = true;
      waiting = 0;
      used = 0;
      swallowed = 0;
      has_whole_body = true;
      has_bad_body = false;
      listeners = 242 ∷ [];
      owed = [];
      deadline = None;
      ready = record { read_set = false; read_armed = false; all_read_told = false; write_set = false; write_armed = false };
    }
unfolding is_name_byte
trace_122-request = refl

trace_122-answer : answer_told trace_122_20
    ≡ record {
      status = 404;
      fields = record { name = (codes "X-Sum"); value = (codes "xxxxxxxxxxxxxxxxxxxxxxxxxxxxxxxxxxxxxxxxxxxxxxxxxxxxxxxxxxxxxxxxxxxxxxxxxxxxxxxxxxxxxxxxxxxxxxxxxxxxxxxxxxxxxxxxxxxxxxxxxxxxxxxxxxxxxxxxxxxxxxxxxxxxxxxxxxxxxxxxxxxxxxxxxxxxxxxxxxxxxxxxxxxxxxxxxxxxxxxxxxxxxxxxxxxxxxxxxxxxxxxxxxxxxxxxxxxxxxxxxxxxxxxxxxxxxxxxxxxxxxxxxxxxxxxxxxxxxxxxxxxxxxxxxxxxxxxxxxxxxxxxxxxxxxxxxxxxxxxxxxxxxxxxxxxxxxxxxxxxxxxxxxxxxxxxxxxxxxxxxxxxxxxxxxxxxxxxxxxxxxxxxxxxxxxxxxxxxxxxxxxxxxxxxxxxxxxxxxxxxxxxxxxxxxxxxxxxxxxxxxxxxxxxxxxxxxxxxxxxxxxxxxxxxxxxxxxxxxxxxxxxxxxxxxxxxxxxxxx") } ∷ [];
      set_length = (Some 0);
      content = 0;
      is_aborted = false;
    }
unfolding digits
trace_122-answer = refl

trace_122-open : open_told trace_122_20
    ≡ record {
      is_committed = true;
      takes_one = true;
      has_to_cut = false;
    }
unfolding head_text digits date_at count_off is_name_byte
trace_122-open = refl

trace_122-01-settled : settled trace_122_limits trace_122_rules 0 ((0, opened) ∷ [])
    ≡ trace_122_01
unfolding settled head_text digits date_at count_off is_name_byte trimmed front_length whole_head host_fits head_of verdict_of target_of framed is_utf8 chars encode
trace_122-01-settled = refl

trace_122-02-settled : settled trace_122_limits trace_122_rules 0 ((0, came (codes "GET /x HTTP/1.1\r\nHost: [::1]:80\r\n\r\n")) ∷ trace_122_01)
    ≡ trace_122_02
unfolding settled head_text digits date_at count_off is_name_byte trimmed front_length whole_head host_fits head_of verdict_of target_of framed is_utf8 chars encode
trace_122-02-settled = refl

trace_122-03-next : next_job (trace_122_02)
    ≡ (Some (job.Service 2))
unfolding head_text digits date_at count_off is_name_byte
trace_122-03-next = refl

trace_122-04-end : end_marks ((0, called call.Return None) ∷ (0, back) ∷ trace_122_03)
    ≡ (over ∷ [])
unfolding head_text digits date_at count_off is_name_byte
trace_122-04-end = refl

trace_122-04-settled : settled trace_122_limits trace_122_rules 0 ((0, over) ∷ (0, called call.Return None) ∷ (0, back) ∷ trace_122_03)
    ≡ trace_122_04
unfolding settled head_text digits date_at count_off is_name_byte trimmed front_length whole_head host_fits head_of verdict_of target_of framed is_utf8 chars encode
trace_122-04-settled = refl

trace_122-05-settled : settled trace_122_limits trace_122_rules 0 ((0, sent 73) ∷ trace_122_04)
    ≡ trace_122_05
unfolding settled head_text digits date_at count_off is_name_byte trimmed front_length whole_head host_fits head_of verdict_of target_of framed is_utf8 chars encode
trace_122-05-settled = refl

trace_122-06-settled : settled trace_122_limits trace_122_rules 0 ((0, came (10 ∷ 13 ∷ 10 ∷ 80 ∷ 85 ∷ 84 ∷ 32 ∷ 47 ∷ 97 ∷ 37 ∷ 50 ∷ 48 ∷ 98 ∷ 59 ∷ 112 ∷ 61 ∷ 49 ∷ 47 ∷ 99 ∷ 32 ∷ 72 ∷ 84 ∷ 84 ∷ 80 ∷ 47 ∷ 49 ∷ 46 ∷ 49 ∷ 13 ∷ 10 ∷ 72 ∷ 111 ∷ 115 ∷ 116 ∷ 58 ∷ 32 ∷ 91 ∷ 58 ∷ 58 ∷ 49 ∷ 93 ∷ 58 ∷ 56 ∷ 48 ∷ 13 ∷ 10 ∷ 88 ∷ 58 ∷ 32 ∷ 108 ∷ 13 ∷ 10 ∷ 85 ∷ 116 ∷ 102 ∷ 58 ∷ 32 ∷ 195 ∷ 169 ∷ 13 ∷ 10 ∷ 13 ∷ 10 ∷ [])) ∷ trace_122_05)
    ≡ trace_122_06
unfolding settled head_text digits date_at count_off is_name_byte trimmed front_length whole_head host_fits head_of verdict_of target_of framed is_utf8 chars encode
trace_122-06-settled = refl

trace_122-07-settled : settled trace_122_limits trace_122_rules 0 ((0, sent 0) ∷ trace_122_06)
    ≡ trace_122_07
unfolding settled head_text digits date_at count_off is_name_byte trimmed front_length whole_head host_fits head_of verdict_of target_of framed is_utf8 chars encode
trace_122-07-settled = refl

trace_122-08-next : next_job (trace_122_07)
    ≡ (Some (job.Service 0))
unfolding head_text digits date_at count_off is_name_byte
trace_122-08-next = refl

trace_122-09-settled : settled trace_122_limits trace_122_rules 0 ((0, came (codes "GET / HTTP/1.1\r\nHost: a\r\nExpect: \r\n\r\n")) ∷ trace_122_08)
    ≡ trace_122_09
unfolding settled head_text digits date_at count_off is_name_byte trimmed front_length whole_head host_fits head_of verdict_of target_of framed is_utf8 chars encode
trace_122-09-settled = refl

trace_122-10-settled : settled trace_122_limits trace_122_rules 0 ((0, called call.Start None) ∷ trace_122_09)
    ≡ trace_122_10
unfolding settled head_text digits date_at count_off is_name_byte trimmed front_length whole_head host_fits head_of verdict_of target_of framed is_utf8 chars encode
trace_122-10-settled = refl

trace_122-11-settled : settled trace_122_limits trace_122_rules 0 ((0, put []) ∷ trace_122_10)
    ≡ trace_122_11
unfolding settled head_text digits date_at count_off is_name_byte trimmed front_length whole_head host_fits head_of verdict_of target_of framed is_utf8 chars encode
trace_122-11-settled = refl

trace_122-12-settled : settled trace_122_limits trace_122_rules 0 ((0, listened 242) ∷ trace_122_11)
    ≡ trace_122_12
unfolding settled head_text digits date_at count_off is_name_byte trimmed front_length whole_head host_fits head_of verdict_of target_of framed is_utf8 chars encode
trace_122-12-settled = refl

trace_122-13-settled : settled trace_122_limits trace_122_rules 0 ((0, status_set 404) ∷ trace_122_12)
    ≡ trace_122_13
unfolding settled head_text digits date_at count_off is_name_byte trimmed front_length whole_head host_fits head_of verdict_of target_of framed is_utf8 chars encode
trace_122-13-settled = refl

trace_122-14-reply : reply_to trace_122_limits trace_122_rules 0 trace_122_13 (on_act (act.Read 8192) [])
    ≡ plain reply.GotEnd
unfolding reply_to head_text digits date_at count_off is_name_byte
trace_122-14-reply = refl

trace_122-14-settled : settled trace_122_limits trace_122_rules 0 ((0, end_given) ∷ trace_122_13)
    ≡ trace_122_14
unfolding settled head_text digits date_at count_off is_name_byte trimmed front_length whole_head host_fits head_of verdict_of target_of framed is_utf8 chars encode
trace_122-14-settled = refl

trace_122-15-settled : settled trace_122_limits trace_122_rules 0 ((0, timeout_set 1) ∷ trace_122_14)
    ≡ trace_122_15
unfolding settled head_text digits date_at count_off is_name_byte trimmed front_length whole_head host_fits head_of verdict_of target_of framed is_utf8 chars encode
trace_122-15-settled = refl

trace_122-16-settled : settled trace_122_limits trace_122_rules 0 ((0, field_added (record { name = (codes "X-Sum"); value = (codes "xxxxxxxxxxxxxxxxxxxxxxxxxxxxxxxxxxxxxxxxxxxxxxxxxxxxxxxxxxxxxxxxxxxxxxxxxxxxxxxxxxxxxxxxxxxxxxxxxxxxxxxxxxxxxxxxxxxxxxxxxxxxxxxxxxxxxxxxxxxxxxxxxxxxxxxxxxxxxxxxxxxxxxxxxxxxxxxxxxxxxxxxxxxxxxxxxxxxxxxxxxxxxxxxxxxxxxxxxxxxxxxxxxxxxxxxxxxxxxxxxxxxxxxxxxxxxxxxxxxxxxxxxxxxxxxxxxxxxxxxxxxxxxxxxxxxxxxxxxxxxxxxxxxxxxxxxxxxxxxxxxxxxxxxxxxxxxxxxxxxxxxxxxxxxxxxxxxxxxxxxxxxxxxxxxxxxxxxxxxxxxxxxxxxxxxxxxxxxxxxxxxxxxxxxxxxxxxxxxxxxxxxxxxxxxxxxxxxxxxxxxxxxxxxxxxxxxxxxxxxxxxxxxxxxxxxxxxxxxxxxxxxxxxxxxxxxxxxxxx") })) ∷ trace_122_15)
    ≡ trace_122_16
unfolding settled head_text digits date_at count_off is_name_byte trimmed front_length whole_head host_fits head_of verdict_of target_of framed is_utf8 chars encode
trace_122-16-settled = refl

trace_122-17-settled : settled trace_122_limits trace_122_rules 0 ((0, length_set 0) ∷ trace_122_16)
    ≡ trace_122_17
unfolding settled head_text digits date_at count_off is_name_byte trimmed front_length whole_head host_fits head_of verdict_of target_of framed is_utf8 chars encode
trace_122-17-settled = refl

trace_122-20-settled : settled trace_122_limits trace_122_rules 0 ((0, sent 581) ∷ trace_122_19)
    ≡ trace_122_20
unfolding settled head_text digits date_at count_off is_name_byte trimmed front_length whole_head host_fits head_of verdict_of target_of framed is_utf8 chars encode
trace_122-20-settled = refl
