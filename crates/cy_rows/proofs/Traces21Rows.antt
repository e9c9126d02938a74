-- Traces that another program made, with what it tells of them, computed from the definitions. Made by `cases/rows.py`.
use Rattle.std.proofs.Common.{◌≡◌, true, false, List, [], ◌∷◌, Some, None, codes, refl}
use Rattle.std.specs.Prelude.{pos}
use Rattle.std.specs.Fmt.{digits}
use Rattle.std.specs.Str.{is_utf8, chars}
use lib.Utf8.{encode}
use Rattle.cy_event.specs.declared.framing.Framing.TheVariants as framing
use Rattle.cy_event.specs.declared.limits.Limits.{Limits}
use Rattle.cy_event.specs.declared.steps.Act.TheVariants as act
use Rattle.cy_event.specs.declared.steps.Call.TheVariants as call
use Rattle.cy_event.specs.declared.steps.CloseCause.TheVariants as cause
use Rattle.cy_event.specs.declared.steps.Job.TheVariants as job
use Rattle.cy_event.specs.declared.steps.Reply.TheVariants as reply
use Rattle.cy_event.specs.declared.steps.State.TheVariants as state
use Rattle.cy_event.specs.Answers.{head_text}
use Rattle.cy_event.specs.Dates.{date_at, count_off}
use Rattle.cy_event.specs.Framings.{framed}
use Rattle.cy_event.specs.Heads.{is_name_byte, trimmed, front_length, whole_head, host_fits, head_of}
use Rattle.cy_event.specs.Targets.{target_of}
use Rattle.cy_map.specs.declared.rule.Rule.{Rule}
use Rattle.cy_model.specs.Entries.{on_act, reply_to}
use Rattle.cy_model.specs.Jobs.{next_job}
use Rattle.cy_model.specs.Marks.{Trace, opened, came, sent, began, refused, called, started, back, timeout_set, read_listener_set, write_listener_set, error_answer, over, caused, broken}
use Rattle.cy_model.specs.Replies.{plain}
use Rattle.cy_model.specs.Settling.{settled}
use Rattle.cy_model.specs.Ticks.{tick_move}
use Rattle.cy_model.specs.Verdicts.{verdict_of}
use Rattle.cy_rows.specs.Told.{answer_told, connection_told, request_told}

abbrev trace_086_limits : Limits
trace_086_limits = record { max_connections = 256; max_head = 8192; max_fields = 100; max_keep_alive = pos 100; connection_timeout = 20000; async_timeout = 30000; max_swallow = 2097152; max_trailer = 8192; parts = 3 }

abbrev trace_086_rules : List Rule
trace_086_rules = record { pattern = (codes "/"); part = 0; can_async = true } ∷ record { pattern = (codes "/a"); part = 1; can_async = true } ∷ record { pattern = (codes "/x/*"); part = 2; can_async = false } ∷ []

abbrev trace_086_01 : Trace
trace_086_01 = (0, opened) ∷ []

abbrev trace_086_03 : Trace
trace_086_03 = (1, sent 0) ∷ trace_086_01

abbrev trace_086_04 : Trace
trace_086_04 = (1, began (record { place = 0; size = 27; head = record { method = (codes "GET"); target = (codes "/"); minor = 1; fields = record { name = (codes "Host"); value = (codes "a") } ∷ [] }; framing = framing.None; max_trailer = 8192; async_timeout = 30000; part = 0; can_async = true; keep = true; go_on = false })) ∷ (1, came (codes "GET / HTTP/1.1\r\nHost: a\r\n\r\n")) ∷ trace_086_03

abbrev trace_086_05 : Trace
trace_086_05 = (1, came (codes "HEAD /x/y/z HTTP/1.1\r\nHost: a\r\nContent-Length: 5\r\nCookie: x=1; y=2\r\n\r\naaczz")) ∷ trace_086_04

abbrev trace_086_06 : Trace
trace_086_06 = (1, broken) ∷ (1, caused cause.OutFault) ∷ trace_086_05

abbrev trace_086_09 : Trace
trace_086_09 = (2, called call.Run None) ∷ (2, started (job.Service 0)) ∷ trace_086_06

abbrev trace_086_10 : Trace
trace_086_10 = (2, called call.Start None) ∷ trace_086_09

abbrev trace_086_11 : Trace
trace_086_11 = (2, write_listener_set) ∷ trace_086_10

abbrev trace_086_12 : Trace
trace_086_12 = (2, timeout_set 20) ∷ trace_086_11

abbrev trace_086_13 : Trace
trace_086_13 = (2, read_listener_set) ∷ trace_086_12

abbrev trace_086_14 : Trace
trace_086_14 = (2, called call.Return None) ∷ (2, back) ∷ trace_086_13

abbrev trace_086_15 : Trace
trace_086_15 = (2, called call.Run None) ∷ (2, started job.AllRead) ∷ trace_086_14

abbrev trace_086_16 : Trace
trace_086_16 = (2, called call.Return None) ∷ (2, back) ∷ trace_086_15

abbrev trace_086_19 : Trace
trace_086_19 = (3, called call.Run None) ∷ (3, started job.Writable) ∷ trace_086_16

abbrev trace_086_20 : Trace
trace_086_20 = (3, error_answer 500) ∷ (3, called call.Fail None) ∷ (3, back) ∷ trace_086_19

abbrev trace_086_21 : Trace
trace_086_21 = (3, started job.ReadError) ∷ trace_086_20

abbrev trace_086_22 : Trace
trace_086_22 = (3, back) ∷ trace_086_21

abbrev trace_086_25 : Trace
trace_086_25 = (3, started job.WriteError) ∷ trace_086_22

abbrev trace_086_29 : Trace
trace_086_29 = (13, over) ∷ (13, called call.Return None) ∷ (13, error_answer 500) ∷ (13, called call.Return None) ∷ (13, back) ∷ trace_086_25

trace_086-connection : connection_told trace_086_29
    ≡ record {
      came = 102;
      consumed = 27;
      room = 16309;
      has_ended = false;
      cause = (Some cause.OutFault);
      is_broken = true;
      is_gone = true;
      is_open = false;
      begun = 1;
      output = [];
      took = 0;
      unsent = 0;
      idle_since = 13;
      next_job = None;
      charts = (call.Run ∷ call.Start ∷ call.Return ∷ call.Run ∷ call.Return ∷ call.Run ∷ call.Fail ∷ call.Return ∷ call.Return ∷ []) ∷ [];
    }
unfolding head_text digits date_at count_off is_name_byte
trace_086-connection = refl

trace_086-request : request_told trace_086_29
    ≡ record {
      part = 0;
      state = state.Completing;
      running = None;
      parked = None;
      given = 0;
      is_end_told = false;
      waiting = 0;
      used = 0;
      swallowed = 0;
      has_whole_body = true;
      has_bad_body = false;
      listeners = [];
      owed = [];
      deadline = (Some 22);
      ready = record { read_set = true; read_armed = true; all_read_told = true; write_set = true; write_armed = false };
    }
unfolding is_name_byte
trace_086-request = refl

trace_086-answer : answer_told trace_086_29
    ≡ record {
      status = 500;
      fields = record { name = (codes "Content-Type"); value = (codes "text/plain") } ∷ [];
      set_length = None;
      content = 10;
      is_aborted = false;
    }
unfolding digits
trace_086-answer = refl

trace_086-01-settled : settled trace_086_limits trace_086_rules 0 ((0, opened) ∷ [])
    ≡ trace_086_01
unfolding settled head_text digits date_at count_off is_name_byte trimmed front_length whole_head host_fits head_of verdict_of target_of framed is_utf8 chars encode
trace_086-01-settled = refl

trace_086-02-tick : tick_move trace_086_limits 1 trace_086_01
    ≡ None
unfolding head_text digits date_at count_off is_name_byte
trace_086-02-tick = refl

trace_086-03-settled : settled trace_086_limits trace_086_rules 1 ((1, sent 0) ∷ trace_086_01)
    ≡ trace_086_03
unfolding settled head_text digits date_at count_off is_name_byte trimmed front_length whole_head host_fits head_of verdict_of target_of framed is_utf8 chars encode
trace_086-03-settled = refl

trace_086-04-settled : settled trace_086_limits trace_086_rules 1 ((1, came (codes "GET / HTTP/1.1\r\nHost: a\r\n\r\n")) ∷ trace_086_03)
    ≡ trace_086_04
unfolding settled head_text digits date_at count_off is_name_byte trimmed front_length whole_head host_fits head_of verdict_of target_of framed is_utf8 chars encode
trace_086-04-settled = refl

trace_086-05-settled : settled trace_086_limits trace_086_rules 1 ((1, came (codes "HEAD /x/y/z HTTP/1.1\r\nHost: a\r\nContent-Length: 5\r\nCookie: x=1; y=2\r\n\r\naaczz")) ∷ trace_086_04)
    ≡ trace_086_05
unfolding settled head_text digits date_at count_off is_name_byte trimmed front_length whole_head host_fits head_of verdict_of target_of framed is_utf8 chars encode
trace_086-05-settled = refl

trace_086-06-settled : settled trace_086_limits trace_086_rules 1 ((1, broken) ∷ (1, caused cause.OutFault) ∷ trace_086_05)
    ≡ trace_086_06
unfolding settled head_text digits date_at count_off is_name_byte trimmed front_length whole_head host_fits head_of verdict_of target_of framed is_utf8 chars encode
trace_086-06-settled = refl

trace_086-07-tick : tick_move trace_086_limits 1 trace_086_06
    ≡ None
unfolding head_text digits date_at count_off is_name_byte
trace_086-07-tick = refl

trace_086-08-tick : tick_move trace_086_limits 2 trace_086_06
    ≡ None
unfolding head_text digits date_at count_off is_name_byte
trace_086-08-tick = refl

trace_086-09-next : next_job (trace_086_06)
    ≡ (Some (job.Service 0))
unfolding head_text digits date_at count_off is_name_byte
trace_086-09-next = refl

trace_086-10-settled : settled trace_086_limits trace_086_rules 2 ((2, called call.Start None) ∷ trace_086_09)
    ≡ trace_086_10
unfolding settled head_text digits date_at count_off is_name_byte trimmed front_length whole_head host_fits head_of verdict_of target_of framed is_utf8 chars encode
trace_086-10-settled = refl

trace_086-11-settled : settled trace_086_limits trace_086_rules 2 ((2, write_listener_set) ∷ trace_086_10)
    ≡ trace_086_11
unfolding settled head_text digits date_at count_off is_name_byte trimmed front_length whole_head host_fits head_of verdict_of target_of framed is_utf8 chars encode
trace_086-11-settled = refl

trace_086-12-settled : settled trace_086_limits trace_086_rules 2 ((2, timeout_set 20) ∷ trace_086_11)
    ≡ trace_086_12
unfolding settled head_text digits date_at count_off is_name_byte trimmed front_length whole_head host_fits head_of verdict_of target_of framed is_utf8 chars encode
trace_086-12-settled = refl

trace_086-13-settled : settled trace_086_limits trace_086_rules 2 ((2, read_listener_set) ∷ trace_086_12)
    ≡ trace_086_13
unfolding settled head_text digits date_at count_off is_name_byte trimmed front_length whole_head host_fits head_of verdict_of target_of framed is_utf8 chars encode
trace_086-13-settled = refl

trace_086-14-settled : settled trace_086_limits trace_086_rules 2 ((2, called call.Return None) ∷ (2, back) ∷ trace_086_13)
    ≡ trace_086_14
unfolding settled head_text digits date_at count_off is_name_byte trimmed front_length whole_head host_fits head_of verdict_of target_of framed is_utf8 chars encode
trace_086-14-settled = refl

trace_086-15-next : next_job (trace_086_14)
    ≡ (Some job.AllRead)
unfolding head_text digits date_at count_off is_name_byte
trace_086-15-next = refl

trace_086-16-settled : settled trace_086_limits trace_086_rules 2 ((2, called call.Return None) ∷ (2, back) ∷ trace_086_15)
    ≡ trace_086_16
unfolding settled head_text digits date_at count_off is_name_byte trimmed front_length whole_head host_fits head_of verdict_of target_of framed is_utf8 chars encode
trace_086-16-settled = refl

trace_086-18-tick : tick_move trace_086_limits 3 trace_086_16
    ≡ None
unfolding head_text digits date_at count_off is_name_byte
trace_086-18-tick = refl

trace_086-19-next : next_job (trace_086_16)
    ≡ (Some job.Writable)
unfolding head_text digits date_at count_off is_name_byte
trace_086-19-next = refl

trace_086-20-settled : settled trace_086_limits trace_086_rules 3 ((3, error_answer 500) ∷ (3, called call.Fail None) ∷ (3, back) ∷ trace_086_19)
    ≡ trace_086_20
unfolding settled head_text digits date_at count_off is_name_byte trimmed front_length whole_head host_fits head_of verdict_of target_of framed is_utf8 chars encode
trace_086-20-settled = refl

trace_086-21-next : next_job (trace_086_20)
    ≡ (Some job.ReadError)
unfolding head_text digits date_at count_off is_name_byte
trace_086-21-next = refl

trace_086-22-settled : settled trace_086_limits trace_086_rules 3 ((3, back) ∷ trace_086_21)
    ≡ trace_086_22
unfolding settled head_text digits date_at count_off is_name_byte trimmed front_length whole_head host_fits head_of verdict_of target_of framed is_utf8 chars encode
trace_086-22-settled = refl

trace_086-25-next : next_job (trace_086_22)
    ≡ (Some job.WriteError)
unfolding head_text digits date_at count_off is_name_byte
trace_086-25-next = refl

trace_086-27-tick : tick_move trace_086_limits 13 trace_086_25
    ≡ None
unfolding head_text digits date_at count_off is_name_byte
trace_086-27-tick = refl

trace_086-28-reply : reply_to trace_086_limits trace_086_rules 0 trace_086_25 (on_act (act.Read 0) [])
    ≡ plain reply.Closed
unfolding reply_to head_text digits date_at count_off is_name_byte
trace_086-28-reply = refl

trace_086-29-settled : settled trace_086_limits trace_086_rules 13 ((13, back) ∷ trace_086_25)
    ≡ trace_086_29
unfolding settled head_text digits date_at count_off is_name_byte trimmed front_length whole_head host_fits head_of verdict_of target_of framed is_utf8 chars encode
trace_086-29-settled = refl

abbrev trace_088_limits : Limits
trace_088_limits = record { max_connections = 256; max_head = 256; max_fields = 2; max_keep_alive = pos 100; connection_timeout = 20000; async_timeout = 20; max_swallow = 2097152; max_trailer = 8192; parts = 0 }

abbrev trace_088_rules : List Rule
trace_088_rules = []

abbrev trace_088_01 : Trace
trace_088_01 = (0, opened) ∷ []

abbrev trace_088_02 : Trace
trace_088_02 = (0, sent 0) ∷ trace_088_01

abbrev trace_088_03 : Trace
trace_088_03 = (0, caused cause.Refused) ∷ (0, refused 400 false) ∷ (0, over) ∷ (0, error_answer 404) ∷ (0, began (record { place = 0; size = 60; head = record { method = (codes "GET"); target = (codes "/a"); minor = 1; fields = record { name = (codes "Host"); value = (codes "localhost:8080") } ∷ record { name = (codes "Content-Length"); value = (codes "3") } ∷ [] }; framing = (framing.Length 3); max_trailer = 8192; async_timeout = 20; part = 0; can_async = false; keep = true; go_on = false })) ∷ (0, came (71 ∷ 69 ∷ 84 ∷ 32 ∷ 47 ∷ 97 ∷ 32 ∷ 72 ∷ 84 ∷ 84 ∷ 80 ∷ 47 ∷ 49 ∷ 46 ∷ 49 ∷ 13 ∷ 10 ∷ 72 ∷ 111 ∷ 115 ∷ 116 ∷ 58 ∷ 32 ∷ 108 ∷ 111 ∷ 99 ∷ 97 ∷ 108 ∷ 104 ∷ 111 ∷ 115 ∷ 116 ∷ 58 ∷ 56 ∷ 48 ∷ 56 ∷ 48 ∷ 13 ∷ 10 ∷ 67 ∷ 111 ∷ 110 ∷ 116 ∷ 101 ∷ 110 ∷ 116 ∷ 45 ∷ 76 ∷ 101 ∷ 110 ∷ 103 ∷ 116 ∷ 104 ∷ 58 ∷ 32 ∷ 51 ∷ 13 ∷ 10 ∷ 13 ∷ 10 ∷ 122 ∷ 98 ∷ 98 ∷ 80 ∷ 79 ∷ 83 ∷ 84 ∷ 32 ∷ 47 ∷ 97 ∷ 37 ∷ 50 ∷ 48 ∷ 98 ∷ 59 ∷ 112 ∷ 61 ∷ 49 ∷ 47 ∷ 99 ∷ 32 ∷ 72 ∷ 84 ∷ 84 ∷ 80 ∷ 47 ∷ 49 ∷ 46 ∷ 49 ∷ 13 ∷ 10 ∷ 84 ∷ 114 ∷ 97 ∷ 110 ∷ 115 ∷ 102 ∷ 101 ∷ 114 ∷ 45 ∷ 69 ∷ 110 ∷ 99 ∷ 111 ∷ 100 ∷ 105 ∷ 110 ∷ 103 ∷ 58 ∷ 32 ∷ 67 ∷ 104 ∷ 117 ∷ 110 ∷ 107 ∷ 101 ∷ 100 ∷ 13 ∷ 10 ∷ 67 ∷ 111 ∷ 111 ∷ 107 ∷ 105 ∷ 101 ∷ 58 ∷ 32 ∷ 120 ∷ 61 ∷ 49 ∷ 59 ∷ 32 ∷ 121 ∷ 61 ∷ 50 ∷ 13 ∷ 10 ∷ 72 ∷ 111 ∷ 115 ∷ 116 ∷ 58 ∷ 32 ∷ 97 ∷ 13 ∷ 10 ∷ 13 ∷ 10 ∷ 49 ∷ 50 ∷ 99 ∷ 59 ∷ 120 ∷ 61 ∷ 49 ∷ 13 ∷ 10 ∷ 109 ∷ 112 ∷ 110 ∷ 107 ∷ 107 ∷ 110 ∷ 109 ∷ 108 ∷ 108 ∷ 112 ∷ 112 ∷ 110 ∷ 112 ∷ 107 ∷ 111 ∷ 110 ∷ 109 ∷ 110 ∷ 112 ∷ 112 ∷ 111 ∷ 110 ∷ 108 ∷ 108 ∷ 112 ∷ 108 ∷ 109 ∷ 110 ∷ 112 ∷ 112 ∷ 107 ∷ 107 ∷ 112 ∷ 112 ∷ 109 ∷ 107 ∷ 109 ∷ 109 ∷ 107 ∷ 110 ∷ 107 ∷ 109 ∷ 109 ∷ 108 ∷ 110 ∷ 108 ∷ 107 ∷ 108 ∷ 110 ∷ 108 ∷ 112 ∷ 112 ∷ 108 ∷ 112 ∷ 112 ∷ 111 ∷ 107 ∷ 110 ∷ 109 ∷ 107 ∷ 112 ∷ 109 ∷ 109 ∷ 109 ∷ 107 ∷ 108 ∷ 108 ∷ 112 ∷ 112 ∷ 109 ∷ 109 ∷ 112 ∷ 110 ∷ 107 ∷ 112 ∷ 112 ∷ 109 ∷ 111 ∷ 111 ∷ 107 ∷ 111 ∷ 110 ∷ 112 ∷ 109 ∷ 109 ∷ 109 ∷ 109 ∷ 107 ∷ 112 ∷ 112 ∷ 108 ∷ 112 ∷ 111 ∷ 111 ∷ 111 ∷ 107 ∷ 107 ∷ 107 ∷ 107 ∷ 110 ∷ 112 ∷ 109 ∷ 112 ∷ 111 ∷ 112 ∷ 108 ∷ 108 ∷ 110 ∷ 110 ∷ 109 ∷ 107 ∷ 109 ∷ 110 ∷ 110 ∷ 111 ∷ 109 ∷ 109 ∷ 112 ∷ 110 ∷ 111 ∷ 108 ∷ 112 ∷ 110 ∷ 108 ∷ 108 ∷ 110 ∷ 110 ∷ 108 ∷ 111 ∷ 110 ∷ 111 ∷ 110 ∷ 112 ∷ 109 ∷ 111 ∷ 112 ∷ 108 ∷ 109 ∷ 109 ∷ 110 ∷ 111 ∷ 107 ∷ 111 ∷ 110 ∷ 108 ∷ 109 ∷ 111 ∷ 112 ∷ 111 ∷ 110 ∷ 112 ∷ 111 ∷ 110 ∷ 112 ∷ 110 ∷ 110 ∷ 111 ∷ 110 ∷ 110 ∷ 111 ∷ 108 ∷ 108 ∷ 107 ∷ 110 ∷ 109 ∷ 109 ∷ 108 ∷ 111 ∷ 110 ∷ 111 ∷ 110 ∷ 109 ∷ 110 ∷ 110 ∷ 111 ∷ 112 ∷ 107 ∷ 112 ∷ 107 ∷ 108 ∷ 108 ∷ 112 ∷ 108 ∷ 107 ∷ 109 ∷ 109 ∷ 110 ∷ 107 ∷ 108 ∷ 108 ∷ 110 ∷ 109 ∷ 109 ∷ 110 ∷ 111 ∷ 107 ∷ 107 ∷ 112 ∷ 109 ∷ 109 ∷ 111 ∷ 107 ∷ 107 ∷ 107 ∷ 112 ∷ 110 ∷ 107 ∷ 107 ∷ 111 ∷ 109 ∷ 109 ∷ 109 ∷ 110 ∷ 107 ∷ 112 ∷ 107 ∷ 110 ∷ 109 ∷ 108 ∷ 110 ∷ 110 ∷ 111 ∷ 107 ∷ 109 ∷ 111 ∷ 110 ∷ 111 ∷ 108 ∷ 111 ∷ 111 ∷ 112 ∷ 107 ∷ 107 ∷ 109 ∷ 107 ∷ 111 ∷ 108 ∷ 110 ∷ 112 ∷ 112 ∷ 111 ∷ 108 ∷ 108 ∷ 111 ∷ 110 ∷ 111 ∷ 107 ∷ 110 ∷ 112 ∷ 109 ∷ 112 ∷ 111 ∷ 110 ∷ 107 ∷ 108 ∷ 111 ∷ 108 ∷ 110 ∷ 107 ∷ 112 ∷ 111 ∷ 110 ∷ 109 ∷ 110 ∷ 111 ∷ 112 ∷ 112 ∷ 107 ∷ 109 ∷ 109 ∷ 111 ∷ 108 ∷ 107 ∷ 107 ∷ 108 ∷ 110 ∷ 109 ∷ 112 ∷ 112 ∷ 109 ∷ 110 ∷ 112 ∷ 111 ∷ 109 ∷ 109 ∷ 110 ∷ 112 ∷ 112 ∷ 111 ∷ 108 ∷ 107 ∷ 110 ∷ 109 ∷ 111 ∷ 110 ∷ 109 ∷ 109 ∷ 112 ∷ 110 ∷ 112 ∷ 13 ∷ 10 ∷ 48 ∷ 13 ∷ 10 ∷ 13 ∷ 10 ∷ 80 ∷ 79 ∷ 83 ∷ 84 ∷ 32 ∷ 47 ∷ 97 ∷ 47 ∷ 46 ∷ 47 ∷ 98 ∷ 47 ∷ 46 ∷ 46 ∷ 47 ∷ 99 ∷ 63 ∷ 113 ∷ 61 ∷ 49 ∷ 32 ∷ 72 ∷ 84 ∷ 84 ∷ 80 ∷ 47 ∷ 49 ∷ 46 ∷ 49 ∷ 13 ∷ 10 ∷ 72 ∷ 111 ∷ 115 ∷ 116 ∷ 58 ∷ 32 ∷ 97 ∷ 13 ∷ 10 ∷ 84 ∷ 114 ∷ 97 ∷ 110 ∷ 115 ∷ 102 ∷ 101 ∷ 114 ∷ 45 ∷ 69 ∷ 110 ∷ 99 ∷ 111 ∷ 100 ∷ 105 ∷ 110 ∷ 103 ∷ 58 ∷ 32 ∷ 99 ∷ 104 ∷ 117 ∷ 110 ∷ 107 ∷ 101 ∷ 100 ∷ 13 ∷ 10 ∷ 85 ∷ 116 ∷ 102 ∷ 58 ∷ 32 ∷ 195 ∷ 169 ∷ 13 ∷ 10 ∷ 13 ∷ 10 ∷ 48 ∷ 59 ∷ 108 ∷ 97 ∷ 115 ∷ 116 ∷ 13 ∷ 10 ∷ 84 ∷ 58 ∷ 32 ∷ 119 ∷ 13 ∷ 10 ∷ 13 ∷ 10 ∷ [])) ∷ trace_088_02

abbrev trace_088_04 : Trace
trace_088_04 = (0, sent 239) ∷ trace_088_03

trace_088-connection : connection_told trace_088_04
    ≡ record {
      came = 559;
      consumed = 63;
      room = 15888;
      has_ended = false;
      cause = (Some cause.Refused);
      is_broken = false;
      is_gone = true;
      is_open = false;
      begun = 1;
      output = (codes "HTTP/1.1 404 \r\nContent-Type: text/plain\r\nContent-Length: 10\r\nDate: Thu, 01 Jan 1970 00:00:00 GMT\r\n\r\nError 404\nHTTP/1.1 400 \r\nContent-Type: text/plain\r\nContent-Length: 10\r\nDate: Thu, 01 Jan 1970 00:00:00 GMT\r\nConnection: close\r\n\r\nError 400\n");
      took = 239;
      unsent = 0;
      idle_since = 0;
      next_job = None;
      charts = ([]) ∷ [];
    }
unfolding head_text digits date_at count_off is_name_byte
trace_088-connection = refl

trace_088-01-settled : settled trace_088_limits trace_088_rules 0 ((0, opened) ∷ [])
    ≡ trace_088_01
unfolding settled head_text digits date_at count_off is_name_byte trimmed front_length whole_head host_fits head_of verdict_of target_of framed is_utf8 chars encode
trace_088-01-settled = refl

trace_088-02-settled : settled trace_088_limits trace_088_rules 0 ((0, sent 0) ∷ trace_088_01)
    ≡ trace_088_02
unfolding settled head_text digits date_at count_off is_name_byte trimmed front_length whole_head host_fits head_of verdict_of target_of framed is_utf8 chars encode
trace_088-02-settled = refl

trace_088-03-settled : settled trace_088_limits trace_088_rules 0 ((0, came (71 ∷ 69 ∷ 84 ∷ 32 ∷ 47 ∷ 97 ∷ 32 ∷ 72 ∷ 84 ∷ 84 ∷ 80 ∷ 47 ∷ 49 ∷ 46 ∷ 49 ∷ 13 ∷ 10 ∷ 72 ∷ 111 ∷ 115 ∷ 116 ∷ 58 ∷ 32 ∷ 108 ∷ 111 ∷ 99 ∷ 97 ∷ 108 ∷ 104 ∷ 111 ∷ 115 ∷ 116 ∷ 58 ∷ 56 ∷ 48 ∷ 56 ∷ 48 ∷ 13 ∷ 10 ∷ 67 ∷ 111 ∷ 110 ∷ 116 ∷ 101 ∷ 110 ∷ 116 ∷ 45 ∷ 76 ∷ 101 ∷ 110 ∷ 103 ∷ 116 ∷ 104 ∷ 58 ∷ 32 ∷ 51 ∷ 13 ∷ 10 ∷ 13 ∷ 10 ∷ 122 ∷ 98 ∷ 98 ∷ 80 ∷ 79 ∷ 83 ∷ 84 ∷ 32 ∷ 47 ∷ 97 ∷ 37 ∷ 50 ∷ 48 ∷ 98 ∷ 59 ∷ 112 ∷ 61 ∷ 49 ∷ 47 ∷ 99 ∷ 32 ∷ 72 ∷ 84 ∷ 84 ∷ 80 ∷ 47 ∷ 49 ∷ 46 ∷ 49 ∷ 13 ∷ 10 ∷ 84 ∷ 114 ∷ 97 ∷ 110 ∷ 115 ∷ 102 ∷ 101 ∷ 114 ∷ 45 ∷ 69 ∷ 110 ∷ 99 ∷ 111 ∷ 100 ∷ 105 ∷ 110 ∷ 103 ∷ 58 ∷ 32 ∷ 67 ∷ 104 ∷ 117 ∷ 110 ∷ 107 ∷ 101 ∷ 100 ∷ 13 ∷ 10 ∷ 67 ∷ 111 ∷ 111 ∷ 107 ∷ 105 ∷ 101 ∷ 58 ∷ 32 ∷ 120 ∷ 61 ∷ 49 ∷ 59 ∷ 32 ∷ 121 ∷ 61 ∷ 50 ∷ 13 ∷ 10 ∷ 72 ∷ 111 ∷ 115 ∷ 116 ∷ 58 ∷ 32 ∷ 97 ∷ 13 ∷ 10 ∷ 13 ∷ 10 ∷ 49 ∷ 50 ∷ 99 ∷ 59 ∷ 120 ∷ 61 ∷ 49 ∷ 13 ∷ 10 ∷ 109 ∷ 112 ∷ 110 ∷ 107 ∷ 107 ∷ 110 ∷ 109 ∷ 108 ∷ 108 ∷ 112 ∷ 112 ∷ 110 ∷ 112 ∷ 107 ∷ 111 ∷ 110 ∷ 109 ∷ 110 ∷ 112 ∷ 112 ∷ 111 ∷ 110 ∷ 108 ∷ 108 ∷ 112 ∷ 108 ∷ 109 ∷ 110 ∷ 112 ∷ 112 ∷ 107 ∷ 107 ∷ 112 ∷ 112 ∷ 109 ∷ 107 ∷ 109 ∷ 109 ∷ 107 ∷ 110 ∷ 107 ∷ 109 ∷ 109 ∷ 108 ∷ 110 ∷ 108 ∷ 107 ∷ 108 ∷ 110 ∷ 108 ∷ 112 ∷ 112 ∷ 108 ∷ 112 ∷ 112 ∷ 111 ∷ 107 ∷ 110 ∷ 109 ∷ 107 ∷ 112 ∷ 109 ∷ 109 ∷ 109 ∷ 107 ∷ 108 ∷ 108 ∷ 112 ∷ 112 ∷ 109 ∷ 109 ∷ 112 ∷ 110 ∷ 107 ∷ 112 ∷ 112 ∷ 109 ∷ 111 ∷ 111 ∷ 107 ∷ 111 ∷ 110 ∷ 112 ∷ 109 ∷ 109 ∷ 109 ∷ 109 ∷ 107 ∷ 112 ∷ 112 ∷ 108 ∷ 112 ∷ 111 ∷ 111 ∷ 111 ∷ 107 ∷ 107 ∷ 107 ∷ 107 ∷ 110 ∷ 112 ∷ 109 ∷ 112 ∷ 111 ∷ 112 ∷ 108 ∷ 108 ∷ 110 ∷ 110 ∷ 109 ∷ 107 ∷ 109 ∷ 110 ∷ 110 ∷ 111 ∷ 109 ∷ 109 ∷ 112 ∷ 110 ∷ 111 ∷ 108 ∷ 112 ∷ 110 ∷ 108 ∷ 108 ∷ 110 ∷ 110 ∷ 108 ∷ 111 ∷ 110 ∷ 111 ∷ 110 ∷ 112 ∷ 109 ∷ 111 ∷ 112 ∷ 108 ∷ 109 ∷ 109 ∷ 110 ∷ 111 ∷ 107 ∷ 111 ∷ 110 ∷ 108 ∷ 109 ∷ 111 ∷ 112 ∷ 111 ∷ 110 ∷ 112 ∷ 111 ∷ 110 ∷ 112 ∷ 110 ∷ 110 ∷ 111 ∷ 110 ∷ 110 ∷ 111 ∷ 108 ∷ 108 ∷ 107 ∷ 110 ∷ 109 ∷ 109 ∷ 108 ∷ 111 ∷ 110 ∷ 111 ∷ 110 ∷ 109 ∷ 110 ∷ 110 ∷ 111 ∷ 112 ∷ 107 ∷ 112 ∷ 107 ∷ 108 ∷ 108 ∷ 112 ∷ 108 ∷ 107 ∷ 109 ∷ 109 ∷ 110 ∷ 107 ∷ 108 ∷ 108 ∷ 110 ∷ 109 ∷ 109 ∷ 110 ∷ 111 ∷ 107 ∷ 107 ∷ 112 ∷ 109 ∷ 109 ∷ 111 ∷ 107 ∷ 107 ∷ 107 ∷ 112 ∷ 110 ∷ 107 ∷ 107 ∷ 111 ∷ 109 ∷ 109 ∷ 109 ∷ 110 ∷ 107 ∷ 112 ∷ 107 ∷ 110 ∷ 109 ∷ 108 ∷ 110 ∷ 110 ∷ 111 ∷ 107 ∷ 109 ∷ 111 ∷ 110 ∷ 111 ∷ 108 ∷ 111 ∷ 111 ∷ 112 ∷ 107 ∷ 107 ∷ 109 ∷ 107 ∷ 111 ∷ 108 ∷ 110 ∷ 112 ∷ 112 ∷ 111 ∷ 108 ∷ 108 ∷ 111 ∷ 110 ∷ 111 ∷ 107 ∷ 110 ∷ 112 ∷ 109 ∷ 112 ∷ 111 ∷ 110 ∷ 107 ∷ 108 ∷ 111 ∷ 108 ∷ 110 ∷ 107 ∷ 112 ∷ 111 ∷ 110 ∷ 109 ∷ 110 ∷ 111 ∷ 112 ∷ 112 ∷ 107 ∷ 109 ∷ 109 ∷ 111 ∷ 108 ∷ 107 ∷ 107 ∷ 108 ∷ 110 ∷ 109 ∷ 112 ∷ 112 ∷ 109 ∷ 110 ∷ 112 ∷ 111 ∷ 109 ∷ 109 ∷ 110 ∷ 112 ∷ 112 ∷ 111 ∷ 108 ∷ 107 ∷ 110 ∷ 109 ∷ 111 ∷ 110 ∷ 109 ∷ 109 ∷ 112 ∷ 110 ∷ 112 ∷ 13 ∷ 10 ∷ 48 ∷ 13 ∷ 10 ∷ 13 ∷ 10 ∷ 80 ∷ 79 ∷ 83 ∷ 84 ∷ 32 ∷ 47 ∷ 97 ∷ 47 ∷ 46 ∷ 47 ∷ 98 ∷ 47 ∷ 46 ∷ 46 ∷ 47 ∷ 99 ∷ 63 ∷ 113 ∷ 61 ∷ 49 ∷ 32 ∷ 72 ∷ 84 ∷ 84 ∷ 80 ∷ 47 ∷ 49 ∷ 46 ∷ 49 ∷ 13 ∷ 10 ∷ 72 ∷ 111 ∷ 115 ∷ 116 ∷ 58 ∷ 32 ∷ 97 ∷ 13 ∷ 10 ∷ 84 ∷ 114 ∷ 97 ∷ 110 ∷ 115 ∷ 102 ∷ 101 ∷ 114 ∷ 45 ∷ 69 ∷ 110 ∷ 99 ∷ 111 ∷ 100 ∷ 105 ∷ 110 ∷ 103 ∷ 58 ∷ 32 ∷ 99 ∷ 104 ∷ 117 ∷ 110 ∷ 107 ∷ 101 ∷ 100 ∷ 13 ∷ 10 ∷ 85 ∷ 116 ∷ 102 ∷ 58 ∷ 32 ∷ 195 ∷ 169 ∷ 13 ∷ 10 ∷ 13 ∷ 10 ∷ 48 ∷ 59 ∷ 108 ∷ 97 ∷ 115 ∷ 116 ∷ 13 ∷ 10 ∷ 84 ∷ 58 ∷ 32 ∷ 119 ∷ 13 ∷ 10 ∷ 13 ∷ 10 ∷ [])) ∷ trace_088_02)
    ≡ trace_088_03
unfolding settled head_text digits date_at count_off is_name_byte trimmed front_length whole_head host_fits head_of verdict_of target_of framed is_utf8 chars encode
trace_088-03-settled = refl

trace_088-04-settled : settled trace_088_limits trace_088_rules 0 ((0, sent 239) ∷ trace_088_03)
    ≡ trace_088_04
unfolding settled head_text digits date_at count_off is_name_byte trimmed front_length whole_head host_fits head_of verdict_of target_of framed is_utf8 chars encode
trace_088-04-settled = refl
