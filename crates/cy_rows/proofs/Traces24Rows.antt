-- Traces that another program made, with what it tells of them, computed from the definitions. Made by `cases/rows.py`.
use Rattle.std.proofs.Common.{◌≡◌, true, false, List, [], ◌∷◌, Some, None, codes, refl}
use Rattle.std.specs.Prelude.{pos}
use Rattle.std.specs.Fmt.{digits}
use Rattle.std.specs.Str.{is_utf8, chars}
use lib.Utf8.{encode}
use Rattle.cy_event.specs.declared.framing.Framing.TheVariants as framing
use Rattle.cy_event.specs.declared.limits.Limits.{Limits}
use Rattle.cy_event.specs.declared.steps.Act.TheVariants as act
use Rattle.cy_event.specs.declared.steps.Call.TheVariants as call
use Rattle.cy_event.specs.declared.steps.Job.TheVariants as job
use Rattle.cy_event.specs.declared.steps.Reply.TheVariants as reply
use Rattle.cy_event.specs.declared.steps.State.TheVariants as state
use Rattle.cy_event.specs.Answers.{head_text}
use Rattle.cy_event.specs.Dates.{date_at, count_off}
use Rattle.cy_event.specs.Framings.{framed}
use Rattle.cy_event.specs.Heads.{is_name_byte, trimmed, front_length, whole_head, host_fits, head_of}
use Rattle.cy_event.specs.Targets.{target_of}
use Rattle.cy_map.specs.declared.rule.Rule.{Rule}
use Rattle.cy_model.specs.Endings.{end_marks}
use Rattle.cy_model.specs.Entries.{on_act, reply_to}
use Rattle.cy_model.specs.Jobs.{next_job}
use Rattle.cy_model.specs.Marks.{Trace, output_side, opened, came, sent, began, called, started, parked, back, given, end_given, listened, field_added, answer_reset, put, flushed, nothing_to_flush, error_answer, over}
use Rattle.cy_model.specs.Replies.{plain}
use Rattle.cy_model.specs.Settling.{settled}
use Rattle.cy_model.specs.Verdicts.{verdict_of}
use Rattle.cy_rows.specs.Told.{answer_told, connection_told, open_told, request_told}

abbrev trace_100_limits : Limits
trace_100_limits = record { max_connections = 256; max_head = 8192; max_fields = 100; max_keep_alive = pos 100; connection_timeout = 20000; async_timeout = 30000; max_swallow = 2097152; max_trailer = 8192; parts = 3 }

abbrev trace_100_rules : List Rule
trace_100_rules = record { pattern = (codes "/"); part = 0; can_async = true } ∷ record { pattern = (codes "/a"); part = 1; can_async = true } ∷ record { pattern = (codes "/x/*"); part = 2; can_async = false } ∷ []

abbrev trace_100_01 : Trace
trace_100_01 = (0, opened) ∷ []

abbrev trace_100_02 : Trace
trace_100_02 = (0, began (record { place = 0; size = 49; head = record { method = (codes "POST"); target = (codes "/x"); minor = 1; fields = record { name = (codes "Host"); value = (codes "a") } ∷ record { name = (codes "Content-Length"); value = (codes "05") } ∷ [] }; framing = (framing.Length 5); max_trailer = 8192; async_timeout = 30000; part = 2; can_async = false; keep = true; go_on = false })) ∷ (0, came (codes "POST /x HTTP/1.1\r\nHost: a\r\nContent-Length: 05\r\n\r\nzxyyd")) ∷ trace_100_01

abbrev trace_100_03 : Trace
trace_100_03 = (0, came (codes "GET /a%20b;p=1/c HTTP/1.0\r\nHost: a\r\n\r\n")) ∷ trace_100_02

abbrev trace_100_04 : Trace
trace_100_04 = (0, called call.Run None) ∷ (0, started (job.Service 2)) ∷ trace_100_03

abbrev trace_100_05 : Trace
trace_100_05 = (0, given 5) ∷ trace_100_04

abbrev trace_100_07 : Trace
trace_100_07 = (0, answer_reset) ∷ trace_100_05

abbrev trace_100_08 : Trace
trace_100_08 = (0, put []) ∷ trace_100_07

abbrev trace_100_09 : Trace
trace_100_09 = (0, began (record { place = 54; size = 38; head = record { method = (codes "GET"); target = (codes "/a%20b;p=1/c"); minor = 0; fields = record { name = (codes "Host"); value = (codes "a") } ∷ [] }; framing = framing.None; max_trailer = 8192; async_timeout = 30000; part = 0; can_async = true; keep = false; go_on = false })) ∷ (0, over) ∷ (0, called call.Return None) ∷ (0, back) ∷ trace_100_08

abbrev trace_100_10 : Trace
trace_100_10 = (0, came (codes "PUT /a%20b;p=1/c HTTP/1.0\r\nContent-Length: 0\r\n\r\n")) ∷ trace_100_09

abbrev trace_100_11 : Trace
trace_100_11 = (0, called call.Run None) ∷ (0, started (job.Service 0)) ∷ trace_100_10

abbrev trace_100_12 : Trace
trace_100_12 = (0, answer_reset) ∷ trace_100_11

abbrev trace_100_13 : Trace
trace_100_13 = (0, called call.Start None) ∷ trace_100_12

abbrev trace_100_14 : Trace
trace_100_14 = (0, listened 149) ∷ trace_100_13

abbrev trace_100_15 : Trace
trace_100_15 = (0, put (codes "ggggg")) ∷ trace_100_14

abbrev trace_100_17 : Trace
trace_100_17 = (0, parked output_side) ∷ trace_100_15

abbrev trace_100_18 : Trace
trace_100_18 = (0, started job.Resume) ∷ trace_100_17

abbrev trace_100_19 : Trace
trace_100_19 = (0, error_answer 500) ∷ (0, called call.Fail None) ∷ (0, back) ∷ trace_100_18

abbrev trace_100_20 : Trace
trace_100_20 = (0, put (codes "\\\\\\\\\\\\\\\\\\\\\\\\\\\\\\\\\\\\\\\\\\\\\\\\\\\\\\\\\\\\\\\\\\\\\\\\\\\\\\\\\\\\\\\\\\\\\\\\\\\\\\\\\\\\\\\\\\\\\\\\\\\\\\\\\\\\\\\\\\\\\\\\\\\\\\\\\\\\\\\\\\\\\\\\\\\\\\\\\\\\\\\\\\\\\\\\\\\\\\\\")) ∷ trace_100_19

abbrev trace_100_21 : Trace
trace_100_21 = (0, put (codes "ccccc")) ∷ trace_100_20

abbrev trace_100_22 : Trace
trace_100_22 = (0, started (job.OnError 0 149)) ∷ trace_100_21

abbrev trace_100_23 : Trace
trace_100_23 = (0, put []) ∷ trace_100_22

abbrev trace_100_24 : Trace
trace_100_24 = (0, answer_reset) ∷ trace_100_23

abbrev trace_100_25 : Trace
trace_100_25 = (0, put (codes "a")) ∷ trace_100_24

abbrev trace_100_26 : Trace
trace_100_26 = (0, sent 73) ∷ trace_100_25

abbrev trace_100_27 : Trace
trace_100_27 = (0, put (codes "b")) ∷ trace_100_26

abbrev trace_100_28 : Trace
trace_100_28 = (0, called call.DispatchOwn (Some 0)) ∷ trace_100_27

abbrev trace_100_29 : Trace
trace_100_29 = (0, sent 0) ∷ trace_100_28

abbrev trace_100_30 : Trace
trace_100_30 = (0, end_given) ∷ trace_100_29

abbrev trace_100_31 : Trace
trace_100_31 = (0, field_added (record { name = (codes "Set-Cookie"); value = (codes "v v") })) ∷ trace_100_30

abbrev trace_100_32 : Trace
trace_100_32 = (0, put (255 ∷ 255 ∷ [])) ∷ trace_100_31

abbrev trace_100_33 : Trace
trace_100_33 = (0, sent 0) ∷ trace_100_32

abbrev trace_100_34 : Trace
trace_100_34 = (0, flushed) ∷ trace_100_33

abbrev trace_100_36 : Trace
trace_100_36 = (0, nothing_to_flush) ∷ trace_100_34

abbrev trace_100_37 : Trace
trace_100_37 = (0, put (codes " ")) ∷ trace_100_36

abbrev trace_100_38 : Trace
trace_100_38 = (0, end_given) ∷ trace_100_37

abbrev trace_100_39 : Trace
trace_100_39 = (0, back) ∷ trace_100_38

abbrev trace_100_40 : Trace
trace_100_40 = (0, called call.Run None) ∷ (0, started (job.Again 0)) ∷ trace_100_39

abbrev trace_100_41 : Trace
trace_100_41 = (0, called call.Start None) ∷ trace_100_40

abbrev trace_100_42 : Trace
trace_100_42 = (0, called call.DispatchOwn None) ∷ trace_100_41

abbrev trace_100_43 : Trace
trace_100_43 = (0, put (codes "ccc")) ∷ trace_100_42

abbrev trace_100_45 : Trace
trace_100_45 = (0, put (codes "     ")) ∷ trace_100_43

trace_100-connection : connection_told trace_100_45
    ≡ record {
      came = 140;
      consumed = 92;
      room = 16336;
      has_ended = false;
      cause = None;
      is_broken = false;
      is_gone = false;
      is_open = true;
      begun = 2;
      output = (72 ∷ 84 ∷ 84 ∷ 80 ∷ 47 ∷ 49 ∷ 46 ∷ 49 ∷ 32 ∷ 50 ∷ 48 ∷ 48 ∷ 32 ∷ 13 ∷ 10 ∷ 67 ∷ 111 ∷ 110 ∷ 116 ∷ 101 ∷ 110 ∷ 116 ∷ 45 ∷ 76 ∷ 101 ∷ 110 ∷ 103 ∷ 116 ∷ 104 ∷ 58 ∷ 32 ∷ 48 ∷ 13 ∷ 10 ∷ 68 ∷ 97 ∷ 116 ∷ 101 ∷ 58 ∷ 32 ∷ 84 ∷ 104 ∷ 117 ∷ 44 ∷ 32 ∷ 48 ∷ 49 ∷ 32 ∷ 74 ∷ 97 ∷ 110 ∷ 32 ∷ 49 ∷ 57 ∷ 55 ∷ 48 ∷ 32 ∷ 48 ∷ 48 ∷ 58 ∷ 48 ∷ 48 ∷ 58 ∷ 48 ∷ 48 ∷ 32 ∷ 71 ∷ 77 ∷ 84 ∷ 13 ∷ 10 ∷ 13 ∷ 10 ∷ 72 ∷ 84 ∷ 84 ∷ 80 ∷ 47 ∷ 49 ∷ 46 ∷ 49 ∷ 32 ∷ 50 ∷ 48 ∷ 48 ∷ 32 ∷ 13 ∷ 10 ∷ 83 ∷ 101 ∷ 116 ∷ 45 ∷ 67 ∷ 111 ∷ 111 ∷ 107 ∷ 105 ∷ 101 ∷ 58 ∷ 32 ∷ 118 ∷ 32 ∷ 118 ∷ 13 ∷ 10 ∷ 68 ∷ 97 ∷ 116 ∷ 101 ∷ 58 ∷ 32 ∷ 84 ∷ 104 ∷ 117 ∷ 44 ∷ 32 ∷ 48 ∷ 49 ∷ 32 ∷ 74 ∷ 97 ∷ 110 ∷ 32 ∷ 49 ∷ 57 ∷ 55 ∷ 48 ∷ 32 ∷ 48 ∷ 48 ∷ 58 ∷ 48 ∷ 48 ∷ 58 ∷ 48 ∷ 48 ∷ 32 ∷ 71 ∷ 77 ∷ 84 ∷ 13 ∷ 10 ∷ 67 ∷ 111 ∷ 110 ∷ 110 ∷ 101 ∷ 99 ∷ 116 ∷ 105 ∷ 111 ∷ 110 ∷ 58 ∷ 32 ∷ 99 ∷ 108 ∷ 111 ∷ 115 ∷ 101 ∷ 13 ∷ 10 ∷ 13 ∷ 10 ∷ 97 ∷ 98 ∷ 255 ∷ 255 ∷ []);
      took = 73;
      unsent = 94;
      idle_since = 0;
      next_job = None;
      charts = (call.Run ∷ call.Return ∷ []) ∷ (call.Run ∷ call.Start ∷ call.Fail ∷ call.DispatchOwn ∷ call.Run ∷ call.Start ∷ call.DispatchOwn ∷ []) ∷ [];
    }
unfolding head_text digits date_at count_off is_name_byte
trace_100-connection = refl

trace_100-request : request_told trace_100_45
    ≡ record {
      part = 0;
      state = state.MustDispatch;
      running = (Some (job.Again 0));
      parked = None;
      given = 0;
      is_end_told = true;
      waiting = 0;
      used = 0;
      swallowed = 0;
      has_whole_body = true;
      has_bad_body = false;
      listeners = [];
      owed = [];
      deadline = None;
      ready = record { read_set = false; read_armed = false; all_read_told = false; write_set = false; write_armed = false };
    }
unfolding is_name_byte
trace_100-request = refl

trace_100-answer : answer_told trace_100_45
    ≡ record {
      status = 200;
      fields = record { name = (codes "Set-Cookie"); value = (codes "v v") } ∷ [];
      set_length = None;
      content = 13;
      is_aborted = false;
    }
unfolding digits
trace_100-answer = refl

trace_100-open : open_told trace_100_45
    ≡ record {
      is_committed = true;
      takes_one = true;
      has_to_cut = true;
    }
unfolding head_text digits date_at count_off is_name_byte
trace_100-open = refl

trace_100-01-settled : settled trace_100_limits trace_100_rules 0 ((0, opened) ∷ [])
    ≡ trace_100_01
unfolding settled head_text digits date_at count_off is_name_byte trimmed front_length whole_head host_fits head_of verdict_of target_of framed is_utf8 chars encode
trace_100-01-settled = refl

trace_100-02-settled : settled trace_100_limits trace_100_rules 0 ((0, came (codes "POST /x HTTP/1.1\r\nHost: a\r\nContent-Length: 05\r\n\r\nzxyyd")) ∷ trace_100_01)
    ≡ trace_100_02
unfolding settled head_text digits date_at count_off is_name_byte trimmed front_length whole_head host_fits head_of verdict_of target_of framed is_utf8 chars encode
trace_100-02-settled = refl

trace_100-03-settled : settled trace_100_limits trace_100_rules 0 ((0, came (codes "GET /a%20b;p=1/c HTTP/1.0\r\nHost: a\r\n\r\n")) ∷ trace_100_02)
    ≡ trace_100_03
unfolding settled head_text digits date_at count_off is_name_byte trimmed front_length whole_head host_fits head_of verdict_of target_of framed is_utf8 chars encode
trace_100-03-settled = refl

trace_100-04-next : next_job (trace_100_03)
    ≡ (Some (job.Service 2))
unfolding head_text digits date_at count_off is_name_byte
trace_100-04-next = refl

trace_100-05-reply : reply_to trace_100_limits trace_100_rules 0 trace_100_04 (on_act (act.Read 8192) [])
    ≡ record { reply = reply.Got 5; got = (codes "zxyyd") }
unfolding reply_to head_text digits date_at count_off is_name_byte
trace_100-05-reply = refl

trace_100-05-settled : settled trace_100_limits trace_100_rules 0 ((0, given 5) ∷ trace_100_04)
    ≡ trace_100_05
unfolding settled head_text digits date_at count_off is_name_byte trimmed front_length whole_head host_fits head_of verdict_of target_of framed is_utf8 chars encode
trace_100-05-settled = refl

trace_100-07-settled : settled trace_100_limits trace_100_rules 0 ((0, answer_reset) ∷ trace_100_05)
    ≡ trace_100_07
unfolding settled head_text digits date_at count_off is_name_byte trimmed front_length whole_head host_fits head_of verdict_of target_of framed is_utf8 chars encode
trace_100-07-settled = refl

trace_100-08-settled : settled trace_100_limits trace_100_rules 0 ((0, put []) ∷ trace_100_07)
    ≡ trace_100_08
unfolding settled head_text digits date_at count_off is_name_byte trimmed front_length whole_head host_fits head_of verdict_of target_of framed is_utf8 chars encode
trace_100-08-settled = refl

trace_100-09-end : end_marks ((0, called call.Return None) ∷ (0, back) ∷ trace_100_08)
    ≡ (over ∷ [])
unfolding head_text digits date_at count_off is_name_byte
trace_100-09-end = refl

trace_100-09-settled : settled trace_100_limits trace_100_rules 0 ((0, over) ∷ (0, called call.Return None) ∷ (0, back) ∷ trace_100_08)
    ≡ trace_100_09
unfolding settled head_text digits date_at count_off is_name_byte trimmed front_length whole_head host_fits head_of verdict_of target_of framed is_utf8 chars encode
trace_100-09-settled = refl

trace_100-10-settled : settled trace_100_limits trace_100_rules 0 ((0, came (codes "PUT /a%20b;p=1/c HTTP/1.0\r\nContent-Length: 0\r\n\r\n")) ∷ trace_100_09)
    ≡ trace_100_10
unfolding settled head_text digits date_at count_off is_name_byte trimmed front_length whole_head host_fits head_of verdict_of target_of framed is_utf8 chars encode
trace_100-10-settled = refl

trace_100-11-next : next_job (trace_100_10)
    ≡ (Some (job.Service 0))
unfolding head_text digits date_at count_off is_name_byte
trace_100-11-next = refl

trace_100-12-settled : settled trace_100_limits trace_100_rules 0 ((0, answer_reset) ∷ trace_100_11)
    ≡ trace_100_12
unfolding settled head_text digits date_at count_off is_name_byte trimmed front_length whole_head host_fits head_of verdict_of target_of framed is_utf8 chars encode
trace_100-12-settled = refl

trace_100-13-settled : settled trace_100_limits trace_100_rules 0 ((0, called call.Start None) ∷ trace_100_12)
    ≡ trace_100_13
unfolding settled head_text digits date_at count_off is_name_byte trimmed front_length whole_head host_fits head_of verdict_of target_of framed is_utf8 chars encode
trace_100-13-settled = refl

trace_100-14-settled : settled trace_100_limits trace_100_rules 0 ((0, listened 149) ∷ trace_100_13)
    ≡ trace_100_14
unfolding settled head_text digits date_at count_off is_name_byte trimmed front_length whole_head host_fits head_of verdict_of target_of framed is_utf8 chars encode
trace_100-14-settled = refl

trace_100-15-settled : settled trace_100_limits trace_100_rules 0 ((0, put (codes "ggggg")) ∷ trace_100_14)
    ≡ trace_100_15
unfolding settled head_text digits date_at count_off is_name_byte trimmed front_length whole_head host_fits head_of verdict_of target_of framed is_utf8 chars encode
trace_100-15-settled = refl

trace_100-17-settled : settled trace_100_limits trace_100_rules 0 ((0, parked output_side) ∷ trace_100_15)
    ≡ trace_100_17
unfolding settled head_text digits date_at count_off is_name_byte trimmed front_length whole_head host_fits head_of verdict_of target_of framed is_utf8 chars encode
trace_100-17-settled = refl

trace_100-18-next : next_job (trace_100_17)
    ≡ (Some job.Resume)
unfolding head_text digits date_at count_off is_name_byte
trace_100-18-next = refl

trace_100-19-settled : settled trace_100_limits trace_100_rules 0 ((0, error_answer 500) ∷ (0, called call.Fail None) ∷ (0, back) ∷ trace_100_18)
    ≡ trace_100_19
unfolding settled head_text digits date_at count_off is_name_byte trimmed front_length whole_head host_fits head_of verdict_of target_of framed is_utf8 chars encode
trace_100-19-settled = refl

trace_100-22-next : next_job (trace_100_21)
    ≡ (Some (job.OnError 0 149))
unfolding head_text digits date_at count_off is_name_byte
trace_100-22-next = refl

trace_100-23-settled : settled trace_100_limits trace_100_rules 0 ((0, put []) ∷ trace_100_22)
    ≡ trace_100_23
unfolding settled head_text digits date_at count_off is_name_byte trimmed front_length whole_head host_fits head_of verdict_of target_of framed is_utf8 chars encode
trace_100-23-settled = refl

trace_100-24-settled : settled trace_100_limits trace_100_rules 0 ((0, answer_reset) ∷ trace_100_23)
    ≡ trace_100_24
unfolding settled head_text digits date_at count_off is_name_byte trimmed front_length whole_head host_fits head_of verdict_of target_of framed is_utf8 chars encode
trace_100-24-settled = refl

trace_100-25-settled : settled trace_100_limits trace_100_rules 0 ((0, put (codes "a")) ∷ trace_100_24)
    ≡ trace_100_25
unfolding settled head_text digits date_at count_off is_name_byte trimmed front_length whole_head host_fits head_of verdict_of target_of framed is_utf8 chars encode
trace_100-25-settled = refl

trace_100-26-settled : settled trace_100_limits trace_100_rules 0 ((0, sent 73) ∷ trace_100_25)
    ≡ trace_100_26
unfolding settled head_text digits date_at count_off is_name_byte trimmed front_length whole_head host_fits head_of verdict_of target_of framed is_utf8 chars encode
trace_100-26-settled = refl

trace_100-27-settled : settled trace_100_limits trace_100_rules 0 ((0, put (codes "b")) ∷ trace_100_26)
    ≡ trace_100_27
unfolding settled head_text digits date_at count_off is_name_byte trimmed front_length whole_head host_fits head_of verdict_of target_of framed is_utf8 chars encode
trace_100-27-settled = refl

trace_100-28-settled : settled trace_100_limits trace_100_rules 0 ((0, called call.DispatchOwn (Some 0)) ∷ trace_100_27)
    ≡ trace_100_28
unfolding settled head_text digits date_at count_off is_name_byte trimmed front_length whole_head host_fits head_of verdict_of target_of framed is_utf8 chars encode
trace_100-28-settled = refl

trace_100-29-settled : settled trace_100_limits trace_100_rules 0 ((0, sent 0) ∷ trace_100_28)
    ≡ trace_100_29
unfolding settled head_text digits date_at count_off is_name_byte trimmed front_length whole_head host_fits head_of verdict_of target_of framed is_utf8 chars encode
trace_100-29-settled = refl

trace_100-30-reply : reply_to trace_100_limits trace_100_rules 0 trace_100_29 (on_act (act.Read 0) [])
    ≡ plain reply.GotEnd
unfolding reply_to head_text digits date_at count_off is_name_byte
trace_100-30-reply = refl

trace_100-30-settled : settled trace_100_limits trace_100_rules 0 ((0, end_given) ∷ trace_100_29)
    ≡ trace_100_30
unfolding settled head_text digits date_at count_off is_name_byte trimmed front_length whole_head host_fits head_of verdict_of target_of framed is_utf8 chars encode
trace_100-30-settled = refl

trace_100-31-settled : settled trace_100_limits trace_100_rules 0 ((0, field_added (record { name = (codes "Set-Cookie"); value = (codes "v v") })) ∷ trace_100_30)
    ≡ trace_100_31
unfolding settled head_text digits date_at count_off is_name_byte trimmed front_length whole_head host_fits head_of verdict_of target_of framed is_utf8 chars encode
trace_100-31-settled = refl

trace_100-32-settled : settled trace_100_limits trace_100_rules 0 ((0, put (255 ∷ 255 ∷ [])) ∷ trace_100_31)
    ≡ trace_100_32
unfolding settled head_text digits date_at count_off is_name_byte trimmed front_length whole_head host_fits head_of verdict_of target_of framed is_utf8 chars encode
trace_100-32-settled = refl

trace_100-33-settled : settled trace_100_limits trace_100_rules 0 ((0, sent 0) ∷ trace_100_32)
    ≡ trace_100_33
unfolding settled head_text digits date_at count_off is_name_byte trimmed front_length whole_head host_fits head_of verdict_of target_of framed is_utf8 chars encode
trace_100-33-settled = refl

trace_100-34-settled : settled trace_100_limits trace_100_rules 0 ((0, flushed) ∷ trace_100_33)
    ≡ trace_100_34
unfolding settled head_text digits date_at count_off is_name_byte trimmed front_length whole_head host_fits head_of verdict_of target_of framed is_utf8 chars encode
trace_100-34-settled = refl

trace_100-36-settled : settled trace_100_limits trace_100_rules 0 ((0, nothing_to_flush) ∷ trace_100_34)
    ≡ trace_100_36
unfolding settled head_text digits date_at count_off is_name_byte trimmed front_length whole_head host_fits head_of verdict_of target_of framed is_utf8 chars encode
trace_100-36-settled = refl

trace_100-37-settled : settled trace_100_limits trace_100_rules 0 ((0, put (codes " ")) ∷ trace_100_36)
    ≡ trace_100_37
unfolding settled head_text digits date_at count_off is_name_byte trimmed front_length whole_head host_fits head_of verdict_of target_of framed is_utf8 chars encode
trace_100-37-settled = refl

trace_100-38-reply : reply_to trace_100_limits trace_100_rules 0 trace_100_37 (on_act (act.Read 0) [])
    ≡ plain reply.GotEnd
unfolding reply_to head_text digits date_at count_off is_name_byte
trace_100-38-reply = refl

trace_100-38-settled : settled trace_100_limits trace_100_rules 0 ((0, end_given) ∷ trace_100_37)
    ≡ trace_100_38
unfolding settled head_text digits date_at count_off is_name_byte trimmed front_length whole_head host_fits head_of verdict_of target_of framed is_utf8 chars encode
trace_100-38-settled = refl

trace_100-39-settled : settled trace_100_limits trace_100_rules 0 ((0, back) ∷ trace_100_38)
    ≡ trace_100_39
unfolding settled head_text digits date_at count_off is_name_byte trimmed front_length whole_head host_fits head_of verdict_of target_of framed is_utf8 chars encode
trace_100-39-settled = refl

trace_100-40-next : next_job (trace_100_39)
    ≡ (Some (job.Again 0))
unfolding head_text digits date_at count_off is_name_byte
trace_100-40-next = refl

trace_100-41-settled : settled trace_100_limits trace_100_rules 0 ((0, called call.Start None) ∷ trace_100_40)
    ≡ trace_100_41
unfolding settled head_text digits date_at count_off is_name_byte trimmed front_length whole_head host_fits head_of verdict_of target_of framed is_utf8 chars encode
trace_100-41-settled = refl

trace_100-42-settled : settled trace_100_limits trace_100_rules 0 ((0, called call.DispatchOwn None) ∷ trace_100_41)
    ≡ trace_100_42
unfolding settled head_text digits date_at count_off is_name_byte trimmed front_length whole_head host_fits head_of verdict_of target_of framed is_utf8 chars encode
trace_100-42-settled = refl

trace_100-43-settled : settled trace_100_limits trace_100_rules 0 ((0, put (codes "ccc")) ∷ trace_100_42)
    ≡ trace_100_43
unfolding settled head_text digits date_at count_off is_name_byte trimmed front_length whole_head host_fits head_of verdict_of target_of framed is_utf8 chars encode
trace_100-43-settled = refl

trace_100-45-settled : settled trace_100_limits trace_100_rules 0 ((0, put (codes "     ")) ∷ trace_100_43)
    ≡ trace_100_45
unfolding settled head_text digits date_at count_off is_name_byte trimmed front_length whole_head host_fits head_of verdict_of target_of framed is_utf8 chars encode
trace_100-45-settled = refl
