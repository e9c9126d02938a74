-- Traces that another program made, with what it tells of them, computed from the definitions. Made by `cases/rows.py`.
use Rattle.std.proofs.Common.{◌≡◌, true, false, List, [], ◌∷◌, Some, None, codes, refl}
use Rattle.std.specs.Prelude.{pos}
use Rattle.std.specs.Fmt.{digits}
use Rattle.std.specs.Str.{is_utf8, chars}
use lib.Utf8.{encode}
use Rattle.cy_event.specs.declared.framing.Framing.TheVariants as framing
use Rattle.cy_event.specs.declared.limits.Limits.{Limits}
use Rattle.cy_event.specs.declared.steps.Act.TheVariants as act
use Rattle.cy_event.specs.declared.steps.Call.TheVariants as call
use Rattle.cy_event.specs.declared.steps.CloseCause.TheVariants as cause
use Rattle.cy_event.specs.declared.steps.Job.TheVariants as job
use Rattle.cy_event.specs.declared.steps.Reply.TheVariants as reply
use Rattle.cy_event.specs.declared.steps.State.TheVariants as state
use Rattle.cy_event.specs.Answers.{head_text}
use Rattle.cy_event.specs.Dates.{date_at, count_off}
use Rattle.cy_event.specs.Framings.{framed}
use Rattle.cy_event.specs.Heads.{is_name_byte, trimmed, front_length, whole_head, host_fits, head_of}
use Rattle.cy_event.specs.Targets.{target_of}
use Rattle.cy_map.specs.declared.rule.Rule.{Rule}
use Rattle.cy_model.specs.Entries.{on_act, reply_to}
use Rattle.cy_model.specs.Jobs.{next_job}
use Rattle.cy_model.specs.Marks.{Trace, opened, came, sent, began, called, started, back, end_given, listened, read_listener_set, write_listener_set, put, flushed, aborted, over, caused}
use Rattle.cy_model.specs.Replies.{plain}
use Rattle.cy_model.specs.Settling.{settled}
use Rattle.cy_model.specs.Ticks.{tick_move}
use Rattle.cy_model.specs.Verdicts.{verdict_of}
use Rattle.cy_rows.specs.Told.{answer_told, connection_told, request_told}

abbrev trace_125_limits : Limits
trace_125_limits = record { max_connections = 256; max_head = 8192; max_fields = 100; max_keep_alive = pos 100; connection_timeout = 20000; async_timeout = 30000; max_swallow = 2097152; max_trailer = 8192; parts = 5 }

abbrev trace_125_rules : List Rule
trace_125_rules = record { pattern = (codes "/"); part = 0; can_async = false } ∷ record { pattern = (codes "/*"); part = 4; can_async = true } ∷ record { pattern = (codes "*.do"); part = 3; can_async = true } ∷ record { pattern = (codes "/x/*"); part = 2; can_async = false } ∷ record { pattern = (codes "/a"); part = 1; can_async = true } ∷ []

abbrev trace_125_01 : Trace
trace_125_01 = (0, opened) ∷ []

abbrev trace_125_02 : Trace
trace_125_02 = (0, sent 0) ∷ trace_125_01

abbrev trace_125_03 : Trace
trace_125_03 = (0, began (record { place = 0; size = 68; head = record { method = (codes "GET"); target = (codes "//a//b/"); minor = 1; fields = record { name = (codes "Transfer-Encoding"); value = (codes ", chunked") } ∷ record { name = (codes "Host"); value = (codes "a.b%41") } ∷ [] }; framing = framing.Chunked; max_trailer = 8192; async_timeout = 30000; part = 4; can_async = true; keep = true; go_on = false })) ∷ (0, came (71 ∷ 69 ∷ 84 ∷ 32 ∷ 47 ∷ 47 ∷ 97 ∷ 47 ∷ 47 ∷ 98 ∷ 47 ∷ 32 ∷ 72 ∷ 84 ∷ 84 ∷ 80 ∷ 47 ∷ 49 ∷ 46 ∷ 49 ∷ 13 ∷ 10 ∷ 84 ∷ 114 ∷ 97 ∷ 110 ∷ 115 ∷ 102 ∷ 101 ∷ 114 ∷ 45 ∷ 69 ∷ 110 ∷ 99 ∷ 111 ∷ 100 ∷ 105 ∷ 110 ∷ 103 ∷ 58 ∷ 32 ∷ 44 ∷ 32 ∷ 99 ∷ 104 ∷ 117 ∷ 110 ∷ 107 ∷ 101 ∷ 100 ∷ 13 ∷ 10 ∷ 72 ∷ 111 ∷ 115 ∷ 116 ∷ 58 ∷ 32 ∷ 97 ∷ 46 ∷ 98 ∷ 37 ∷ 52 ∷ 49 ∷ 13 ∷ 10 ∷ 13 ∷ 10 ∷ 48 ∷ 48 ∷ 13 ∷ 10 ∷ 84 ∷ 58 ∷ 32 ∷ 118 ∷ 13 ∷ 10 ∷ 86 ∷ 101 ∷ 114 ∷ 121 ∷ 45 ∷ 76 ∷ 111 ∷ 110 ∷ 103 ∷ 45 ∷ 78 ∷ 97 ∷ 109 ∷ 101 ∷ 58 ∷ 32 ∷ 118 ∷ 118 ∷ 13 ∷ 10 ∷ 13 ∷ 10 ∷ 72 ∷ 69 ∷ 65 ∷ 68 ∷ 32 ∷ 47 ∷ 113 ∷ 46 ∷ 100 ∷ 111 ∷ 32 ∷ 72 ∷ 84 ∷ 84 ∷ 80 ∷ 47 ∷ 49 ∷ 46 ∷ 49 ∷ 13 ∷ 10 ∷ 72 ∷ 111 ∷ 115 ∷ 116 ∷ 58 ∷ 32 ∷ 97 ∷ 13 ∷ 10 ∷ 84 ∷ 114 ∷ 97 ∷ 110 ∷ 115 ∷ 102 ∷ 101 ∷ 114 ∷ 45 ∷ 69 ∷ 110 ∷ 99 ∷ 111 ∷ 100 ∷ 105 ∷ 110 ∷ 103 ∷ 58 ∷ 32 ∷ 99 ∷ 104 ∷ 117 ∷ 110 ∷ 107 ∷ 101 ∷ 100 ∷ 13 ∷ 10 ∷ 13 ∷ 10 ∷ 97 ∷ 9 ∷ 32 ∷ 59 ∷ 32 ∷ 122 ∷ 61 ∷ 34 ∷ 113 ∷ 34 ∷ 13 ∷ 10 ∷ 111 ∷ 109 ∷ 111 ∷ 109 ∷ 112 ∷ 112 ∷ 110 ∷ 109 ∷ 112 ∷ 111 ∷ 13 ∷ 10 ∷ 48 ∷ 97 ∷ 13 ∷ 10 ∷ 109 ∷ 110 ∷ 108 ∷ 110 ∷ 111 ∷ 112 ∷ 110 ∷ 111 ∷ 107 ∷ 108 ∷ 13 ∷ 10 ∷ 48 ∷ 97 ∷ 13 ∷ 10 ∷ 111 ∷ 109 ∷ 109 ∷ 107 ∷ 110 ∷ 110 ∷ 110 ∷ 107 ∷ 107 ∷ 108 ∷ 13 ∷ 10 ∷ 50 ∷ 9 ∷ 32 ∷ 59 ∷ 32 ∷ 122 ∷ 61 ∷ 34 ∷ 113 ∷ 34 ∷ 13 ∷ 10 ∷ 109 ∷ 111 ∷ 13 ∷ 10 ∷ 48 ∷ 51 ∷ 32 ∷ 13 ∷ 10 ∷ 107 ∷ 107 ∷ 112 ∷ 13 ∷ 10 ∷ 48 ∷ 48 ∷ 13 ∷ 10 ∷ 97 ∷ 58 ∷ 13 ∷ 10 ∷ 13 ∷ 10 ∷ 71 ∷ 69 ∷ 84 ∷ 32 ∷ 47 ∷ 97 ∷ 32 ∷ 72 ∷ 84 ∷ 84 ∷ 80 ∷ 47 ∷ 49 ∷ 46 ∷ 49 ∷ 13 ∷ 10 ∷ 72 ∷ 111 ∷ 115 ∷ 116 ∷ 58 ∷ 32 ∷ 91 ∷ 58 ∷ 58 ∷ 49 ∷ 93 ∷ 58 ∷ 56 ∷ 48 ∷ 13 ∷ 10 ∷ 13 ∷ 10 ∷ [])) ∷ trace_125_02

abbrev trace_125_04 : Trace
trace_125_04 = (0, called call.Run None) ∷ (0, started (job.Service 4)) ∷ trace_125_03

abbrev trace_125_05 : Trace
trace_125_05 = (0, called call.Start None) ∷ trace_125_04

abbrev trace_125_06 : Trace
trace_125_06 = (0, write_listener_set) ∷ trace_125_05

abbrev trace_125_07 : Trace
trace_125_07 = (0, listened 85) ∷ trace_125_06

abbrev trace_125_08 : Trace
trace_125_08 = (0, read_listener_set) ∷ trace_125_07

abbrev trace_125_09 : Trace
trace_125_09 = (0, called call.Return None) ∷ (0, back) ∷ trace_125_08

abbrev trace_125_10 : Trace
trace_125_10 = (0, called call.Run None) ∷ (0, started job.AllRead) ∷ trace_125_09

abbrev trace_125_11 : Trace
trace_125_11 = (0, put (codes "g")) ∷ trace_125_10

abbrev trace_125_13 : Trace
trace_125_13 = (1, end_given) ∷ trace_125_11

abbrev trace_125_14 : Trace
trace_125_14 = (1, flushed) ∷ trace_125_13

abbrev trace_125_15 : Trace
trace_125_15 = (1, called call.Return None) ∷ (1, back) ∷ trace_125_14

abbrev trace_125_16 : Trace
trace_125_16 = (1, came (codes "POST /x/y/z HTTP/1.1\r\nHost: a\r\nNo-Colon\r\nContent-Length: 010\r\n\r\n")) ∷ trace_125_15

abbrev trace_125_17 : Trace
trace_125_17 = (1, came (codes "dyzxdbaxyd")) ∷ trace_125_16

abbrev trace_125_18 : Trace
trace_125_18 = (1, put (codes "\r")) ∷ trace_125_17

abbrev trace_125_19 : Trace
trace_125_19 = (1, came (codes "HEAD /x")) ∷ trace_125_18

abbrev trace_125_20 : Trace
trace_125_20 = (1, flushed) ∷ trace_125_19

abbrev trace_125_22 : Trace
trace_125_22 = (1, called call.Run None) ∷ (1, started job.Writable) ∷ trace_125_20

abbrev trace_125_23 : Trace
trace_125_23 = (1, called call.Return None) ∷ (1, back) ∷ trace_125_22

abbrev trace_125_26 : Trace
trace_125_26 = (2, came (codes " HTTP/1.1\r\nHost: a\r\nContent-Length: 10\r\nCookie: x=1; y=2\r\n\r\nazacxczabc")) ∷ trace_125_23

abbrev trace_125_27 : Trace
trace_125_27 = (2, came (codes "\r\n")) ∷ trace_125_26

abbrev trace_125_28 : Trace
trace_125_28 = (2, put (codes "a")) ∷ trace_125_27

abbrev trace_125_29 : Trace
trace_125_29 = (2, came (codes "PU")) ∷ trace_125_28

abbrev trace_125_30 : Trace
trace_125_30 = (2, came (codes "T / HTTP/1.1\r\nHost: a.b%41\r\ntransfer-encoding:chunked\r\n\r\n")) ∷ trace_125_29

abbrev trace_125_31 : Trace
trace_125_31 = (2, came (codes "5\r\nmkonl\r\n3\r\nplm\r\n00\r\n\r\n")) ∷ trace_125_30

abbrev trace_125_32 : Trace
trace_125_32 = (2, flushed) ∷ trace_125_31

abbrev trace_125_36 : Trace
trace_125_36 = (2, sent 100) ∷ trace_125_32

abbrev trace_125_37 : Trace
trace_125_37 = (30001, called call.Timeout None) ∷ trace_125_36

abbrev trace_125_38 : Trace
trace_125_38 = (30001, started (job.OnTimeout 0 85)) ∷ trace_125_37

abbrev trace_125_39 : Trace
trace_125_39 = (30001, aborted) ∷ (30001, called call.Return None) ∷ (30001, called call.Return None) ∷ (30001, back) ∷ trace_125_38

abbrev trace_125_40 : Trace
trace_125_40 = (30001, started (job.OnComplete 0 85)) ∷ trace_125_39

abbrev trace_125_41 : Trace
trace_125_41 = (30001, caused cause.FailedAnswer) ∷ (30001, over) ∷ (30001, called call.Return None) ∷ (30001, back) ∷ trace_125_40

trace_125-connection : connection_told trace_125_41
    ≡ record {
      came = 523;
      consumed = 100;
      room = 15961;
      has_ended = false;
      cause = (Some cause.FailedAnswer);
      is_broken = false;
      is_gone = true;
      is_open = false;
      begun = 1;
      output = (codes "HTTP/1.1 200 \r\nTransfer-Encoding: chunked\r\nDate: Thu, 01 Jan 1970 00:00:00 GMT\r\n\r\n1\r\ng\r\n1\r\n\r\r\n1\r\na\r\n");
      took = 100;
      unsent = 0;
      idle_since = 30001;
      next_job = None;
      charts = (call.Run ∷ call.Start ∷ call.Return ∷ call.Run ∷ call.Return ∷ call.Run ∷ call.Return ∷ call.Timeout ∷ call.Return ∷ call.Return ∷ call.Return ∷ []) ∷ [];
    }
unfolding head_text digits date_at count_off is_name_byte
trace_125-connection = refl

trace_125-request : request_told trace_125_41
    ≡ record {
      part = 4;
      state = state.Completing;
      running = None;
      parked = None;
      given = 0;
      is_end_told = true;
      waiting = 0;
      used = 32;
      swallowed = 0;
      has_whole_body = true;
      has_bad_body = false;
      listeners = 85 ∷ [];
      owed = [];
      deadline = (Some 30000);
      ready = record { read_set = true; read_armed = true; all_read_told = true; write_set = true; write_armed = false };
    }
unfolding is_name_byte
trace_125-request = refl

trace_125-answer : answer_told trace_125_41
    ≡ record {
      status = 200;
      fields = [];
      set_length = None;
      content = 3;
      is_aborted = true;
    }
unfolding digits
trace_125-answer = refl

trace_125-01-settled : settled trace_125_limits trace_125_rules 0 ((0, opened) ∷ [])
    ≡ trace_125_01
unfolding settled head_text digits date_at count_off is_name_byte trimmed front_length whole_head host_fits head_of verdict_of target_of framed is_utf8 chars encode
trace_125-01-settled = refl

trace_125-02-settled : settled trace_125_limits trace_125_rules 0 ((0, sent 0) ∷ trace_125_01)
    ≡ trace_125_02
unfolding settled head_text digits date_at count_off is_name_byte trimmed front_length whole_head host_fits head_of verdict_of target_of framed is_utf8 chars encode
trace_125-02-settled = refl

trace_125-03-settled : settled trace_125_limits trace_125_rules 0 ((0, came (71 ∷ 69 ∷ 84 ∷ 32 ∷ 47 ∷ 47 ∷ 97 ∷ 47 ∷ 47 ∷ 98 ∷ 47 ∷ 32 ∷ 72 ∷ 84 ∷ 84 ∷ 80 ∷ 47 ∷ 49 ∷ 46 ∷ 49 ∷ 13 ∷ 10 ∷ 84 ∷ 114 ∷ 97 ∷ 110 ∷ 115 ∷ 102 ∷ 101 ∷ 114 ∷ 45 ∷ 69 ∷ 110 ∷ 99 ∷ 111 ∷ 100 ∷ 105 ∷ 110 ∷ 103 ∷ 58 ∷ 32 ∷ 44 ∷ 32 ∷ 99 ∷ 104 ∷ 117 ∷ 110 ∷ 107 ∷ 101 ∷ 100 ∷ 13 ∷ 10 ∷ 72 ∷ 111 ∷ 115 ∷ 116 ∷ 58 ∷ 32 ∷ 97 ∷ 46 ∷ 98 ∷ 37 ∷ 52 ∷ 49 ∷ 13 ∷ 10 ∷ 13 ∷ 10 ∷ 48 ∷ 48 ∷ 13 ∷ 10 ∷ 84 ∷ 58 ∷ 32 ∷ 118 ∷ 13 ∷ 10 ∷ 86 ∷ 101 ∷ 114 ∷ 121 ∷ 45 ∷ 76 ∷ 111 ∷ 110 ∷ 103 ∷ 45 ∷ 78 ∷ 97 ∷ 109 ∷ 101 ∷ 58 ∷ 32 ∷ 118 ∷ 118 ∷ 13 ∷ 10 ∷ 13 ∷ 10 ∷ 72 ∷ 69 ∷ 65 ∷ 68 ∷ 32 ∷ 47 ∷ 113 ∷ 46 ∷ 100 ∷ 111 ∷ 32 ∷ 72 ∷ 84 ∷ 84 ∷ 80 ∷ 47 ∷ 49 ∷ 46 ∷ 49 ∷ 13 ∷ 10 ∷ 72 ∷ 111 ∷ 115 ∷ 116 ∷ 58 ∷ 32 ∷ 97 ∷ 13 ∷ 10 ∷ 84 ∷ 114 ∷ 97 ∷ 110 ∷ 115 ∷ 102 ∷ 101 ∷ 114 ∷ 45 ∷ 69 ∷ 110 ∷ 99 ∷ 111 ∷ 100 ∷ 105 ∷ 110 ∷ 103 ∷ 58 ∷ 32 ∷ 99 ∷ 104 ∷ 117 ∷ 110 ∷ 107 ∷ 101 ∷ 100 ∷ 13 ∷ 10 ∷ 13 ∷ 10 ∷ 97 ∷ 9 ∷ 32 ∷ 59 ∷ 32 ∷ 122 ∷ 61 ∷ 34 ∷ 113 ∷ 34 ∷ 13 ∷ 10 ∷ 111 ∷ 109 ∷ 111 ∷ 109 ∷ 112 ∷ 112 ∷ 110 ∷ 109 ∷ 112 ∷ 111 ∷ 13 ∷ 10 ∷ 48 ∷ 97 ∷ 13 ∷ 10 ∷ 109 ∷ 110 ∷ 108 ∷ 110 ∷ 111 ∷ 112 ∷ 110 ∷ 111 ∷ 107 ∷ 108 ∷ 13 ∷ 10 ∷ 48 ∷ 97 ∷ 13 ∷ 10 ∷ 111 ∷ 109 ∷ 109 ∷ 107 ∷ 110 ∷ 110 ∷ 110 ∷ 107 ∷ 107 ∷ 108 ∷ 13 ∷ 10 ∷ 50 ∷ 9 ∷ 32 ∷ 59 ∷ 32 ∷ 122 ∷ 61 ∷ 34 ∷ 113 ∷ 34 ∷ 13 ∷ 10 ∷ 109 ∷ 111 ∷ 13 ∷ 10 ∷ 48 ∷ 51 ∷ 32 ∷ 13 ∷ 10 ∷ 107 ∷ 107 ∷ 112 ∷ 13 ∷ 10 ∷ 48 ∷ 48 ∷ 13 ∷ 10 ∷ 97 ∷ 58 ∷ 13 ∷ 10 ∷ 13 ∷ 10 ∷ 71 ∷ 69 ∷ 84 ∷ 32 ∷ 47 ∷ 97 ∷ 32 ∷ 72 ∷ 84 ∷ 84 ∷ 80 ∷ 47 ∷ 49 ∷ 46 ∷ 49 ∷ 13 ∷ 10 ∷ 72 ∷ 111 ∷ 115 ∷ 116 ∷ 58 ∷ 32 ∷ 91 ∷ 58 ∷ 58 ∷ 49 ∷ 93 ∷ 58 ∷ 56 ∷ 48 ∷ 13 ∷ 10 ∷ 13 ∷ 10 ∷ [])) ∷ trace_125_02)
    ≡ trace_125_03
unfolding settled head_text digits date_at count_off is_name_byte trimmed front_length whole_head host_fits head_of verdict_of target_of framed is_utf8 chars encode
trace_125-03-settled = refl

trace_125-04-next : next_job (trace_125_03)
    ≡ (Some (job.Service 4))
unfolding head_text digits date_at count_off is_name_byte
trace_125-04-next = refl

trace_125-05-settled : settled trace_125_limits trace_125_rules 0 ((0, called call.Start None) ∷ trace_125_04)
    ≡ trace_125_05
unfolding settled head_text digits date_at count_off is_name_byte trimmed front_length whole_head host_fits head_of verdict_of target_of framed is_utf8 chars encode
trace_125-05-settled = refl

trace_125-06-settled : settled trace_125_limits trace_125_rules 0 ((0, write_listener_set) ∷ trace_125_05)
    ≡ trace_125_06
unfolding settled head_text digits date_at count_off is_name_byte trimmed front_length whole_head host_fits head_of verdict_of target_of framed is_utf8 chars encode
trace_125-06-settled = refl

trace_125-07-settled : settled trace_125_limits trace_125_rules 0 ((0, listened 85) ∷ trace_125_06)
    ≡ trace_125_07
unfolding settled head_text digits date_at count_off is_name_byte trimmed front_length whole_head host_fits head_of verdict_of target_of framed is_utf8 chars encode
trace_125-07-settled = refl

trace_125-08-settled : settled trace_125_limits trace_125_rules 0 ((0, read_listener_set) ∷ trace_125_07)
    ≡ trace_125_08
unfolding settled head_text digits date_at count_off is_name_byte trimmed front_length whole_head host_fits head_of verdict_of target_of framed is_utf8 chars encode
trace_125-08-settled = refl

trace_125-09-settled : settled trace_125_limits trace_125_rules 0 ((0, called call.Return None) ∷ (0, back) ∷ trace_125_08)
    ≡ trace_125_09
unfolding settled head_text digits date_at count_off is_name_byte trimmed front_length whole_head host_fits head_of verdict_of target_of framed is_utf8 chars encode
trace_125-09-settled = refl

trace_125-10-next : next_job (trace_125_09)
    ≡ (Some job.AllRead)
unfolding head_text digits date_at count_off is_name_byte
trace_125-10-next = refl

trace_125-11-settled : settled trace_125_limits trace_125_rules 0 ((0, put (codes "g")) ∷ trace_125_10)
    ≡ trace_125_11
unfolding settled head_text digits date_at count_off is_name_byte trimmed front_length whole_head host_fits head_of verdict_of target_of framed is_utf8 chars encode
trace_125-11-settled = refl

trace_125-12-tick : tick_move trace_125_limits 1 trace_125_11
    ≡ None
unfolding head_text digits date_at count_off is_name_byte
trace_125-12-tick = refl

trace_125-13-reply : reply_to trace_125_limits trace_125_rules 0 trace_125_11 (on_act (act.Read 1) [])
    ≡ plain reply.GotEnd
unfolding reply_to head_text digits date_at count_off is_name_byte
trace_125-13-reply = refl

trace_125-13-settled : settled trace_125_limits trace_125_rules 1 ((1, end_given) ∷ trace_125_11)
    ≡ trace_125_13
unfolding settled head_text digits date_at count_off is_name_byte trimmed front_length whole_head host_fits head_of verdict_of target_of framed is_utf8 chars encode
trace_125-13-settled = refl

trace_125-15-settled : settled trace_125_limits trace_125_rules 1 ((1, called call.Return None) ∷ (1, back) ∷ trace_125_14)
    ≡ trace_125_15
unfolding settled head_text digits date_at count_off is_name_byte trimmed front_length whole_head host_fits head_of verdict_of target_of framed is_utf8 chars encode
trace_125-15-settled = refl

trace_125-16-settled : settled trace_125_limits trace_125_rules 1 ((1, came (codes "POST /x/y/z HTTP/1.1\r\nHost: a\r\nNo-Colon\r\nContent-Length: 010\r\n\r\n")) ∷ trace_125_15)
    ≡ trace_125_16
unfolding settled head_text digits date_at count_off is_name_byte trimmed front_length whole_head host_fits head_of verdict_of target_of framed is_utf8 chars encode
trace_125-16-settled = refl

trace_125-17-settled : settled trace_125_limits trace_125_rules 1 ((1, came (codes "dyzxdbaxyd")) ∷ trace_125_16)
    ≡ trace_125_17
unfolding settled head_text digits date_at count_off is_name_byte trimmed front_length whole_head host_fits head_of verdict_of target_of framed is_utf8 chars encode
trace_125-17-settled = refl

trace_125-19-settled : settled trace_125_limits trace_125_rules 1 ((1, came (codes "HEAD /x")) ∷ trace_125_18)
    ≡ trace_125_19
unfolding settled head_text digits date_at count_off is_name_byte trimmed front_length whole_head host_fits head_of verdict_of target_of framed is_utf8 chars encode
trace_125-19-settled = refl

trace_125-22-next : next_job (trace_125_20)
    ≡ (Some job.Writable)
unfolding head_text digits date_at count_off is_name_byte
trace_125-22-next = refl

trace_125-23-settled : settled trace_125_limits trace_125_rules 1 ((1, called call.Return None) ∷ (1, back) ∷ trace_125_22)
    ≡ trace_125_23
unfolding settled head_text digits date_at count_off is_name_byte trimmed front_length whole_head host_fits head_of verdict_of target_of framed is_utf8 chars encode
trace_125-23-settled = refl

trace_125-25-tick : tick_move trace_125_limits 2 trace_125_23
    ≡ None
unfolding head_text digits date_at count_off is_name_byte
trace_125-25-tick = refl

trace_125-26-settled : settled trace_125_limits trace_125_rules 2 ((2, came (codes " HTTP/1.1\r\nHost: a\r\nContent-Length: 10\r\nCookie: x=1; y=2\r\n\r\nazacxczabc")) ∷ trace_125_23)
    ≡ trace_125_26
unfolding settled head_text digits date_at count_off is_name_byte trimmed front_length whole_head host_fits head_of verdict_of target_of framed is_utf8 chars encode
trace_125-26-settled = refl

trace_125-27-settled : settled trace_125_limits trace_125_rules 2 ((2, came (codes "\r\n")) ∷ trace_125_26)
    ≡ trace_125_27
unfolding settled head_text digits date_at count_off is_name_byte trimmed front_length whole_head host_fits head_of verdict_of target_of framed is_utf8 chars encode
trace_125-27-settled = refl

trace_125-29-settled : settled trace_125_limits trace_125_rules 2 ((2, came (codes "PU")) ∷ trace_125_28)
    ≡ trace_125_29
unfolding settled head_text digits date_at count_off is_name_byte trimmed front_length whole_head host_fits head_of verdict_of target_of framed is_utf8 chars encode
trace_125-29-settled = refl

trace_125-30-settled : settled trace_125_limits trace_125_rules 2 ((2, came (codes "T / HTTP/1.1\r\nHost: a.b%41\r\ntransfer-encoding:chunked\r\n\r\n")) ∷ trace_125_29)
    ≡ trace_125_30
unfolding settled head_text digits date_at count_off is_name_byte trimmed front_length whole_head host_fits head_of verdict_of target_of framed is_utf8 chars encode
trace_125-30-settled = refl

trace_125-31-settled : settled trace_125_limits trace_125_rules 2 ((2, came (codes "5\r\nmkonl\r\n3\r\nplm\r\n00\r\n\r\n")) ∷ trace_125_30)
    ≡ trace_125_31
unfolding settled head_text digits date_at count_off is_name_byte trimmed front_length whole_head host_fits head_of verdict_of target_of framed is_utf8 chars encode
trace_125-31-settled = refl

trace_125-36-settled : settled trace_125_limits trace_125_rules 2 ((2, sent 100) ∷ trace_125_32)
    ≡ trace_125_36
unfolding settled head_text digits date_at count_off is_name_byte trimmed front_length whole_head host_fits head_of verdict_of target_of framed is_utf8 chars encode
trace_125-36-settled = refl

trace_125-37-tick : tick_move trace_125_limits 30001 trace_125_36
    ≡ Some (called call.Timeout None ∷ [])
unfolding head_text digits date_at count_off is_name_byte
trace_125-37-tick = refl

trace_125-37-settled : settled trace_125_limits trace_125_rules 30001 ((30001, called call.Timeout None) ∷ trace_125_36)
    ≡ trace_125_37
unfolding settled head_text digits date_at count_off is_name_byte trimmed front_length whole_head host_fits head_of verdict_of target_of framed is_utf8 chars encode
trace_125-37-settled = refl

trace_125-38-next : next_job (trace_125_37)
    ≡ (Some (job.OnTimeout 0 85))
unfolding head_text digits date_at count_off is_name_byte
trace_125-38-next = refl

trace_125-39-settled : settled trace_125_limits trace_125_rules 30001 ((30001, back) ∷ trace_125_38)
    ≡ trace_125_39
unfolding settled head_text digits date_at count_off is_name_byte trimmed front_length whole_head host_fits head_of verdict_of target_of framed is_utf8 chars encode
trace_125-39-settled = refl

trace_125-40-next : next_job (trace_125_39)
    ≡ (Some (job.OnComplete 0 85))
unfolding head_text digits date_at count_off is_name_byte
trace_125-40-next = refl

trace_125-41-settled : settled trace_125_limits trace_125_rules 30001 ((30001, back) ∷ trace_125_40)
    ≡ trace_125_41
unfolding settled head_text digits date_at count_off is_name_byte trimmed front_length whole_head host_fits head_of verdict_of target_of framed is_utf8 chars encode
trace_125-41-settled = refl
