-- Traces that another program made, with what it tells of them, computed from the definitions. Made by `cases/rows.py`.
use Rattle.std.proofs.Common.{◌≡◌, true, false, List, [], ◌∷◌, Some, None, codes, refl}
use Rattle.std.specs.Prelude.{pos}
use Rattle.std.specs.Fmt.{digits}
use Rattle.std.specs.Str.{is_utf8, chars}
use lib.Utf8.{encode}
use Rattle.cy_event.specs.declared.framing.Framing.TheVariants as framing
use Rattle.cy_event.specs.declared.limits.Limits.{Limits}
use Rattle.cy_event.specs.declared.steps.Call.TheVariants as call
use Rattle.cy_event.specs.declared.steps.CloseCause.TheVariants as cause
use Rattle.cy_event.specs.declared.steps.Job.TheVariants as job
use Rattle.cy_event.specs.declared.steps.State.TheVariants as state
use Rattle.cy_event.specs.Answers.{head_text}
use Rattle.cy_event.specs.Dates.{date_at, count_off}
use Rattle.cy_event.specs.Framings.{framed}
use Rattle.cy_event.specs.Heads.{is_name_byte, trimmed, front_length, whole_head, host_fits, head_of}
use Rattle.cy_event.specs.Targets.{target_of}
use Rattle.cy_map.specs.declared.rule.Rule.{Rule}
use Rattle.cy_model.specs.Jobs.{next_job}
use Rattle.cy_model.specs.Marks.{Trace, opened, came, sent, began, called, started, back, read_listener_set, write_listener_set, status_set, length_set, answer_reset, put, flushed, over, caused, broken}
use Rattle.cy_model.specs.Settling.{settled}
use Rattle.cy_model.specs.Verdicts.{verdict_of}
use Rattle.cy_rows.specs.Told.{answer_told, connection_told, open_told, request_told}

abbrev trace_134_limits : Limits
trace_134_limits = record { max_connections = 256; max_head = 8192; max_fields = 100; max_keep_alive = pos 100; connection_timeout = 20000; async_timeout = 30000; max_swallow = 2097152; max_trailer = 8192; parts = 1 }

abbrev trace_134_rules : List Rule
trace_134_rules = record { pattern = (codes "/"); part = 0; can_async = true } ∷ []

abbrev trace_134_01 : Trace
trace_134_01 = (0, opened) ∷ []

abbrev trace_134_02 : Trace
trace_134_02 = (0, came (codes "GET")) ∷ trace_134_01

abbrev trace_134_03 : Trace
trace_134_03 = (0, began (record { place = 0; size = 59; head = record { method = (codes "GET"); target = (codes "/x"); minor = 1; fields = record { name = (codes "Host"); value = (codes "[::1]:80") } ∷ record { name = (codes "Connection"); value = (codes "keep-alive") } ∷ [] }; framing = framing.None; max_trailer = 8192; async_timeout = 30000; part = 0; can_async = true; keep = true; go_on = false })) ∷ (0, came (codes " /x HTTP/1.1\r\nHost: [::1]:80\r\nConnection: keep-alive\r\n\r\n")) ∷ trace_134_02

abbrev trace_134_04 : Trace
trace_134_04 = (0, called call.Run None) ∷ (0, started (job.Service 0)) ∷ trace_134_03

abbrev trace_134_05 : Trace
trace_134_05 = (0, called call.Start None) ∷ trace_134_04

abbrev trace_134_06 : Trace
trace_134_06 = (0, called call.Return None) ∷ (0, back) ∷ trace_134_05

abbrev trace_134_07 : Trace
trace_134_07 = (0, came (71 ∷ 69 ∷ 84 ∷ 32 ∷ 47 ∷ 32 ∷ 72 ∷ 84 ∷ 84 ∷ 80 ∷ 47 ∷ 49 ∷ 46 ∷ 49 ∷ 13 ∷ 10 ∷ 72 ∷ 111 ∷ 115 ∷ 116 ∷ 58 ∷ 32 ∷ 13 ∷ 10 ∷ 85 ∷ 116 ∷ 102 ∷ 58 ∷ 32 ∷ 195 ∷ 169 ∷ 13 ∷ 10 ∷ 13 ∷ 10 ∷ 80 ∷ 79 ∷ 83 ∷ 84 ∷ 32 ∷ 47 ∷ 97 ∷ 32 ∷ 72 ∷ 84 ∷ 84 ∷ 80 ∷ 47 ∷ 49 ∷ 46 ∷ 49 ∷ 13 ∷ 10 ∷ 72 ∷ 111 ∷ 115 ∷ 116 ∷ 58 ∷ 32 ∷ 108 ∷ 111 ∷ 99 ∷ 97 ∷ 108 ∷ 104 ∷ 111 ∷ 115 ∷ 116 ∷ 58 ∷ 56 ∷ 48 ∷ 56 ∷ 48 ∷ 13 ∷ 10 ∷ 67 ∷ 111 ∷ 110 ∷ 116 ∷ 101 ∷ 110 ∷ 116 ∷ 45 ∷ 76 ∷ 101 ∷ 110 ∷ 103 ∷ 116 ∷ 104 ∷ 58 ∷ 32 ∷ 48 ∷ 51 ∷ 13 ∷ 10 ∷ 69 ∷ 120 ∷ 112 ∷ 101 ∷ 99 ∷ [])) ∷ trace_134_06

abbrev trace_134_09 : Trace
trace_134_09 = (0, came (codes "t: 100-")) ∷ trace_134_07

abbrev trace_134_11 : Trace
trace_134_11 = (0, flushed) ∷ trace_134_09

abbrev trace_134_12 : Trace
trace_134_12 = (0, sent 82) ∷ trace_134_11

abbrev trace_134_14 : Trace
trace_134_14 = (0, came (codes "Continue\r\n\r\n")) ∷ trace_134_12

abbrev trace_134_15 : Trace
trace_134_15 = (0, sent 0) ∷ trace_134_14

abbrev trace_134_16 : Trace
trace_134_16 = (0, came (codes "aay")) ∷ trace_134_15

abbrev trace_134_17 : Trace
trace_134_17 = (0, came (codes "GET / HTTP/1.1\r\nHost: a.b%41\r\nConnection: close\r\n\r\n")) ∷ trace_134_16

abbrev trace_134_18 : Trace
trace_134_18 = (0, came (codes "\r\nGET / HTTP/1.1\r\nHost: [::1]:80\r\nA: b\r\nA: b\r\n\r\n")) ∷ trace_134_17

abbrev trace_134_19 : Trace
trace_134_19 = (0, put (codes "cccccccc")) ∷ trace_134_18

abbrev trace_134_20 : Trace
trace_134_20 = (0, sent 0) ∷ trace_134_19

abbrev trace_134_21 : Trace
trace_134_21 = (0, called call.CompleteOther None) ∷ trace_134_20

abbrev trace_134_22 : Trace
trace_134_22 = (0, began (record { place = 59; size = 35; head = record { method = (codes "GET"); target = (codes "/"); minor = 1; fields = record { name = (codes "Host"); value = [] } ∷ record { name = (codes "Utf"); value = (195 ∷ 169 ∷ []) } ∷ [] }; framing = framing.None; max_trailer = 8192; async_timeout = 30000; part = 0; can_async = true; keep = true; go_on = false })) ∷ (0, over) ∷ (0, called call.Return None) ∷ (0, sent 0) ∷ trace_134_21

abbrev trace_134_23 : Trace
trace_134_23 = (0, called call.Run None) ∷ (0, started (job.Service 0)) ∷ trace_134_22

abbrev trace_134_25 : Trace
trace_134_25 = (0, called call.Start None) ∷ trace_134_23

abbrev trace_134_26 : Trace
trace_134_26 = (0, write_listener_set) ∷ trace_134_25

abbrev trace_134_27 : Trace
trace_134_27 = (0, read_listener_set) ∷ trace_134_26

abbrev trace_134_28 : Trace
trace_134_28 = (0, called call.Return None) ∷ (0, back) ∷ trace_134_27

abbrev trace_134_29 : Trace
trace_134_29 = (0, called call.Run None) ∷ (0, started job.AllRead) ∷ trace_134_28

abbrev trace_134_30 : Trace
trace_134_30 = (0, called call.Return None) ∷ (0, back) ∷ trace_134_29

abbrev trace_134_31 : Trace
trace_134_31 = (0, called call.Fault None) ∷ (0, broken) ∷ (0, caused cause.OutFault) ∷ trace_134_30

abbrev trace_134_32 : Trace
trace_134_32 = (0, started job.ReadError) ∷ trace_134_31

abbrev trace_134_33 : Trace
trace_134_33 = (0, status_set 503) ∷ trace_134_32

abbrev trace_134_34 : Trace
trace_134_34 = (0, length_set 9) ∷ trace_134_33

abbrev trace_134_35 : Trace
trace_134_35 = (0, length_set 12) ∷ trace_134_34

abbrev trace_134_40 : Trace
trace_134_40 = (0, back) ∷ trace_134_35

abbrev trace_134_41 : Trace
trace_134_41 = (0, started job.WriteError) ∷ trace_134_40

abbrev trace_134_43 : Trace
trace_134_43 = (0, answer_reset) ∷ trace_134_41

abbrev trace_134_44 : Trace
trace_134_44 = (0, status_set 503) ∷ trace_134_43

trace_134-connection : connection_told trace_134_44
    ≡ record {
      came = 280;
      consumed = 94;
      room = 16198;
      has_ended = false;
      cause = (Some cause.OutFault);
      is_broken = true;
      is_gone = false;
      is_open = true;
      begun = 2;
      output = (codes "HTTP/1.1 200 \r\nTransfer-Encoding: chunked\r\nDate: Thu, 01 Jan 1970 00:00:00 GMT\r\n\r\n8\r\ncccccccc\r\n0\r\n\r\n");
      took = 82;
      unsent = 0;
      idle_since = 0;
      next_job = None;
      charts = (call.Run ∷ call.Start ∷ call.Return ∷ call.CompleteOther ∷ call.Return ∷ []) ∷ (call.Run ∷ call.Start ∷ call.Return ∷ call.Run ∷ call.Return ∷ call.Fault ∷ []) ∷ [];
    }
unfolding head_text digits date_at count_off is_name_byte
trace_134-connection = refl

trace_134-request : request_told trace_134_44
    ≡ record {
      part = 0;
      state = state.Error;
      running = (Some job.WriteError);
      parked = None;
      given = 0;
      is_end_told = false;
      waiting = 0;
      used = 0;
      swallowed = 0;
      has_whole_body = true;
      has_bad_body = false;
      listeners = [];
      owed = [];
      deadline = (Some 30000);
      ready = record { read_set = true; read_armed = true; all_read_told = true; write_set = true; write_armed = true };
    }
unfolding is_name_byte
trace_134-request = refl

trace_134-answer : answer_told trace_134_44
    ≡ record {
      status = 503;
      fields = [];
      set_length = None;
      content = 0;
      is_aborted = false;
    }
unfolding digits
trace_134-answer = refl

trace_134-open : open_told trace_134_44
    ≡ record {
      is_committed = false;
      takes_one = true;
      has_to_cut = true;
    }
unfolding head_text digits date_at count_off is_name_byte
trace_134-open = refl

trace_134-01-settled : settled trace_134_limits trace_134_rules 0 ((0, opened) ∷ [])
    ≡ trace_134_01
unfolding settled head_text digits date_at count_off is_name_byte trimmed front_length whole_head host_fits head_of verdict_of target_of framed is_utf8 chars encode
trace_134-01-settled = refl

trace_134-02-settled : settled trace_134_limits trace_134_rules 0 ((0, came (codes "GET")) ∷ trace_134_01)
    ≡ trace_134_02
unfolding settled head_text digits date_at count_off is_name_byte trimmed front_length whole_head host_fits head_of verdict_of target_of framed is_utf8 chars encode
trace_134-02-settled = refl

trace_134-03-settled : settled trace_134_limits trace_134_rules 0 ((0, came (codes " /x HTTP/1.1\r\nHost: [::1]:80\r\nConnection: keep-alive\r\n\r\n")) ∷ trace_134_02)
    ≡ trace_134_03
unfolding settled head_text digits date_at count_off is_name_byte trimmed front_length whole_head host_fits head_of verdict_of target_of framed is_utf8 chars encode
trace_134-03-settled = refl

trace_134-04-next : next_job (trace_134_03)
    ≡ (Some (job.Service 0))
unfolding head_text digits date_at count_off is_name_byte
trace_134-04-next = refl

trace_134-05-settled : settled trace_134_limits trace_134_rules 0 ((0, called call.Start None) ∷ trace_134_04)
    ≡ trace_134_05
unfolding settled head_text digits date_at count_off is_name_byte trimmed front_length whole_head host_fits head_of verdict_of target_of framed is_utf8 chars encode
trace_134-05-settled = refl

trace_134-06-settled : settled trace_134_limits trace_134_rules 0 ((0, called call.Return None) ∷ (0, back) ∷ trace_134_05)
    ≡ trace_134_06
unfolding settled head_text digits date_at count_off is_name_byte trimmed front_length whole_head host_fits head_of verdict_of target_of framed is_utf8 chars encode
trace_134-06-settled = refl

trace_134-07-settled : settled trace_134_limits trace_134_rules 0 ((0, came (71 ∷ 69 ∷ 84 ∷ 32 ∷ 47 ∷ 32 ∷ 72 ∷ 84 ∷ 84 ∷ 80 ∷ 47 ∷ 49 ∷ 46 ∷ 49 ∷ 13 ∷ 10 ∷ 72 ∷ 111 ∷ 115 ∷ 116 ∷ 58 ∷ 32 ∷ 13 ∷ 10 ∷ 85 ∷ 116 ∷ 102 ∷ 58 ∷ 32 ∷ 195 ∷ 169 ∷ 13 ∷ 10 ∷ 13 ∷ 10 ∷ 80 ∷ 79 ∷ 83 ∷ 84 ∷ 32 ∷ 47 ∷ 97 ∷ 32 ∷ 72 ∷ 84 ∷ 84 ∷ 80 ∷ 47 ∷ 49 ∷ 46 ∷ 49 ∷ 13 ∷ 10 ∷ 72 ∷ 111 ∷ 115 ∷ 116 ∷ 58 ∷ 32 ∷ 108 ∷ 111 ∷ 99 ∷ 97 ∷ 108 ∷ 104 ∷ 111 ∷ 115 ∷ 116 ∷ 58 ∷ 56 ∷ 48 ∷ 56 ∷ 48 ∷ 13 ∷ 10 ∷ 67 ∷ 111 ∷ 110 ∷ 116 ∷ 101 ∷ 110 ∷ 116 ∷ 45 ∷ 76 ∷ 101 ∷ 110 ∷ 103 ∷ 116 ∷ 104 ∷ 58 ∷ 32 ∷ 48 ∷ 51 ∷ 13 ∷ 10 ∷ 69 ∷ 120 ∷ 112 ∷ 101 ∷ 99 ∷ [])) ∷ trace_134_06)
    ≡ trace_134_07
unfolding settled head_text digits date_at count_off is_name_byte trimmed front_length whole_head host_fits head_of verdict_of target_of framed is_utf8 chars encode
trace_134-07-settled = refl

trace_134-09-settled : settled trace_134_limits trace_134_rules 0 ((0, came (codes "t: 100-")) ∷ trace_134_07)
    ≡ trace_134_09
unfolding settled head_text digits date_at count_off is_name_byte trimmed front_length whole_head host_fits head_of verdict_of target_of framed is_utf8 chars encode
trace_134-09-settled = refl

trace_134-12-settled : settled trace_134_limits trace_134_rules 0 ((0, sent 82) ∷ trace_134_11)
    ≡ trace_134_12
unfolding settled head_text digits date_at count_off is_name_byte trimmed front_length whole_head host_fits head_of verdict_of target_of framed is_utf8 chars encode
trace_134-12-settled = refl

trace_134-14-settled : settled trace_134_limits trace_134_rules 0 ((0, came (codes "Continue\r\n\r\n")) ∷ trace_134_12)
    ≡ trace_134_14
unfolding settled head_text digits date_at count_off is_name_byte trimmed front_length whole_head host_fits head_of verdict_of target_of framed is_utf8 chars encode
trace_134-14-settled = refl

trace_134-15-settled : settled trace_134_limits trace_134_rules 0 ((0, sent 0) ∷ trace_134_14)
    ≡ trace_134_15
unfolding settled head_text digits date_at count_off is_name_byte trimmed front_length whole_head host_fits head_of verdict_of target_of framed is_utf8 chars encode
trace_134-15-settled = refl

trace_134-16-settled : settled trace_134_limits trace_134_rules 0 ((0, came (codes "aay")) ∷ trace_134_15)
    ≡ trace_134_16
unfolding settled head_text digits date_at count_off is_name_byte trimmed front_length whole_head host_fits head_of verdict_of target_of framed is_utf8 chars encode
trace_134-16-settled = refl

trace_134-17-settled : settled trace_134_limits trace_134_rules 0 ((0, came (codes "GET / HTTP/1.1\r\nHost: a.b%41\r\nConnection: close\r\n\r\n")) ∷ trace_134_16)
    ≡ trace_134_17
unfolding settled head_text digits date_at count_off is_name_byte trimmed front_length whole_head host_fits head_of verdict_of target_of framed is_utf8 chars encode
trace_134-17-settled = refl

trace_134-18-settled : settled trace_134_limits trace_134_rules 0 ((0, came (codes "\r\nGET / HTTP/1.1\r\nHost: [::1]:80\r\nA: b\r\nA: b\r\n\r\n")) ∷ trace_134_17)
    ≡ trace_134_18
unfolding settled head_text digits date_at count_off is_name_byte trimmed front_length whole_head host_fits head_of verdict_of target_of framed is_utf8 chars encode
trace_134-18-settled = refl

trace_134-20-settled : settled trace_134_limits trace_134_rules 0 ((0, sent 0) ∷ trace_134_19)
    ≡ trace_134_20
unfolding settled head_text digits date_at count_off is_name_byte trimmed front_length whole_head host_fits head_of verdict_of target_of framed is_utf8 chars encode
trace_134-20-settled = refl

trace_134-22-settled : settled trace_134_limits trace_134_rules 0 ((0, sent 0) ∷ trace_134_21)
    ≡ trace_134_22
unfolding settled head_text digits date_at count_off is_name_byte trimmed front_length whole_head host_fits head_of verdict_of target_of framed is_utf8 chars encode
trace_134-22-settled = refl

trace_134-23-next : next_job (trace_134_22)
    ≡ (Some (job.Service 0))
unfolding head_text digits date_at count_off is_name_byte
trace_134-23-next = refl

trace_134-25-settled : settled trace_134_limits trace_134_rules 0 ((0, called call.Start None) ∷ trace_134_23)
    ≡ trace_134_25
unfolding settled head_text digits date_at count_off is_name_byte trimmed front_length whole_head host_fits head_of verdict_of target_of framed is_utf8 chars encode
trace_134-25-settled = refl

trace_134-26-settled : settled trace_134_limits trace_134_rules 0 ((0, write_listener_set) ∷ trace_134_25)
    ≡ trace_134_26
unfolding settled head_text digits date_at count_off is_name_byte trimmed front_length whole_head host_fits head_of verdict_of target_of framed is_utf8 chars encode
trace_134-26-settled = refl

trace_134-27-settled : settled trace_134_limits trace_134_rules 0 ((0, read_listener_set) ∷ trace_134_26)
    ≡ trace_134_27
unfolding settled head_text digits date_at count_off is_name_byte trimmed front_length whole_head host_fits head_of verdict_of target_of framed is_utf8 chars encode
trace_134-27-settled = refl

trace_134-28-settled : settled trace_134_limits trace_134_rules 0 ((0, called call.Return None) ∷ (0, back) ∷ trace_134_27)
    ≡ trace_134_28
unfolding settled head_text digits date_at count_off is_name_byte trimmed front_length whole_head host_fits head_of verdict_of target_of framed is_utf8 chars encode
trace_134-28-settled = refl

trace_134-29-next : next_job (trace_134_28)
    ≡ (Some job.AllRead)
unfolding head_text digits date_at count_off is_name_byte
trace_134-29-next = refl

trace_134-30-settled : settled trace_134_limits trace_134_rules 0 ((0, called call.Return None) ∷ (0, back) ∷ trace_134_29)
    ≡ trace_134_30
unfolding settled head_text digits date_at count_off is_name_byte trimmed front_length whole_head host_fits head_of verdict_of target_of framed is_utf8 chars encode
trace_134-30-settled = refl

trace_134-31-settled : settled trace_134_limits trace_134_rules 0 ((0, called call.Fault None) ∷ (0, broken) ∷ (0, caused cause.OutFault) ∷ trace_134_30)
    ≡ trace_134_31
unfolding settled head_text digits date_at count_off is_name_byte trimmed front_length whole_head host_fits head_of verdict_of target_of framed is_utf8 chars encode
trace_134-31-settled = refl

trace_134-32-next : next_job (trace_134_31)
    ≡ (Some job.ReadError)
unfolding head_text digits date_at count_off is_name_byte
trace_134-32-next = refl

trace_134-33-settled : settled trace_134_limits trace_134_rules 0 ((0, status_set 503) ∷ trace_134_32)
    ≡ trace_134_33
unfolding settled head_text digits date_at count_off is_name_byte trimmed front_length whole_head host_fits head_of verdict_of target_of framed is_utf8 chars encode
trace_134-33-settled = refl

trace_134-34-settled : settled trace_134_limits trace_134_rules 0 ((0, length_set 9) ∷ trace_134_33)
    ≡ trace_134_34
unfolding settled head_text digits date_at count_off is_name_byte trimmed front_length whole_head host_fits head_of verdict_of target_of framed is_utf8 chars encode
trace_134-34-settled = refl

trace_134-35-settled : settled trace_134_limits trace_134_rules 0 ((0, length_set 12) ∷ trace_134_34)
    ≡ trace_134_35
unfolding settled head_text digits date_at count_off is_name_byte trimmed front_length whole_head host_fits head_of verdict_of target_of framed is_utf8 chars encode
trace_134-35-settled = refl

trace_134-40-settled : settled trace_134_limits trace_134_rules 0 ((0, back) ∷ trace_134_35)
    ≡ trace_134_40
unfolding settled head_text digits date_at count_off is_name_byte trimmed front_length whole_head host_fits head_of verdict_of target_of framed is_utf8 chars encode
trace_134-40-settled = refl

trace_134-41-next : next_job (trace_134_40)
    ≡ (Some job.WriteError)
unfolding head_text digits date_at count_off is_name_byte
trace_134-41-next = refl

trace_134-43-settled : settled trace_134_limits trace_134_rules 0 ((0, answer_reset) ∷ trace_134_41)
    ≡ trace_134_43
unfolding settled head_text digits date_at count_off is_name_byte trimmed front_length whole_head host_fits head_of verdict_of target_of framed is_utf8 chars encode
trace_134-43-settled = refl

trace_134-44-settled : settled trace_134_limits trace_134_rules 0 ((0, status_set 503) ∷ trace_134_43)
    ≡ trace_134_44
unfolding settled head_text digits date_at count_off is_name_byte trimmed front_length whole_head host_fits head_of verdict_of target_of framed is_utf8 chars encode
trace_134-44-settled = refl
