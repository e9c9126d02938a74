-- Traces that another program made, with what it tells of them, computed from the definitions. Made by `cases/rows.py`.
use Rattle.std.proofs.Common.{◌≡◌, true, false, List, [], ◌∷◌, Some, None, codes, refl}
use Rattle.std.specs.Prelude.{pos}
use Rattle.std.specs.Fmt.{digits}
use Rattle.std.specs.Str.{is_utf8, chars}
use lib.Utf8.{encode}
use Rattle.cy_event.specs.declared.framing.Framing.TheVariants as framing
use Rattle.cy_event.specs.declared.limits.Limits.{Limits}
use Rattle.cy_event.specs.declared.steps.Act.TheVariants as act
use Rattle.cy_event.specs.declared.steps.Call.TheVariants as call
use Rattle.cy_event.specs.declared.steps.CloseCause.TheVariants as cause
use Rattle.cy_event.specs.declared.steps.Job.TheVariants as job
use Rattle.cy_event.specs.declared.steps.Reply.TheVariants as reply
use Rattle.cy_event.specs.declared.steps.State.TheVariants as state
use Rattle.cy_event.specs.Answers.{head_text}
use Rattle.cy_event.specs.Dates.{date_at, count_off}
use Rattle.cy_event.specs.Framings.{framed}
use Rattle.cy_event.specs.Heads.{is_name_byte, trimmed, front_length, whole_head, host_fits, head_of}
use Rattle.cy_event.specs.Targets.{target_of}
use Rattle.cy_map.specs.declared.rule.Rule.{Rule}
use Rattle.cy_model.specs.Endings.{end_marks}
use Rattle.cy_model.specs.Entries.{on_act, reply_to}
use Rattle.cy_model.specs.Jobs.{next_job}
use Rattle.cy_model.specs.Marks.{Trace, input_side, opened, came, began, called, started, parked, back, given, end_given, read_listener_set, over, caused}
use Rattle.cy_model.specs.Replies.{plain}
use Rattle.cy_model.specs.Settling.{settled}
use Rattle.cy_model.specs.Verdicts.{verdict_of}
use Rattle.cy_rows.specs.Told.{answer_told, connection_told, open_told, request_told}

abbrev trace_112_limits : Limits
trace_112_limits = record { max_connections = 256; max_head = 1000; max_fields = 100; max_keep_alive = pos 100; connection_timeout = 20000; async_timeout = 20; max_swallow = 2097152; max_trailer = 6; parts = 3 }

abbrev trace_112_rules : List Rule
trace_112_rules = record { pattern = (codes "/"); part = 0; can_async = true } ∷ record { pattern = (codes "/x/*"); part = 2; can_async = false } ∷ record { pattern = (codes "/a"); part = 1; can_async = true } ∷ []

abbrev trace_112_01 : Trace
trace_112_01 = (0, opened) ∷ []

abbrev trace_112_02 : Trace
trace_112_02 = (0, began (record { place = 0; size = 64; head = record { method = (codes "POST"); target = (codes "/"); minor = 1; fields = record { name = (codes "Host"); value = (codes "localhost:8080") } ∷ record { name = (codes "Content-Length"); value = (codes "01000") } ∷ [] }; framing = (framing.Length 1000); max_trailer = 6; async_timeout = 20; part = 0; can_async = true; keep = true; go_on = false })) ∷ (0, came (codes "POST / HTTP/1.1\r\nHost: localhost:8080\r\nContent-Length: 01000\r\n\r\ny")) ∷ trace_112_01

abbrev trace_112_03 : Trace
trace_112_03 = (0, called call.Run None) ∷ (0, started (job.Service 0)) ∷ trace_112_02

abbrev trace_112_04 : Trace
trace_112_04 = (0, called call.Start None) ∷ trace_112_03

abbrev trace_112_05 : Trace
trace_112_05 = (0, read_listener_set) ∷ trace_112_04

abbrev trace_112_06 : Trace
trace_112_06 = (0, parked input_side) ∷ trace_112_05

abbrev trace_112_07 : Trace
trace_112_07 = (0, came (codes "aaczbzzdadcdbbxdcxadcaxbxxcyaxdyczdccyzcxxzyaazbcbdccayadbzxazxzbzyxxzbbxbcaxcddacacbdacabyyxzxaxadxzbayayzbcbbyadzzdbxzbzxccyxcxccyzaydbacxdcczbdabcdczyyxcxbbxyabczcyyyxadaczdyxyydzxydcdzycbzacaydybxdzdaxxcabydbcyyxbbbzyddddyccaazyzybayzdzdxzxbzxzzxaxbbycdcczczxcyzdzaybbdbcadzbybxybcyzxbczzbaxabxzzyzydxbxaaacdxzcczcxyzzyaxdxzbabxyaxzaxacadayxcxxcdbcdccczdxaxxbzcbyyxzzacadacaxyaabbxcabcadyzbaybdbcyxyxaxccxaczxbdbbdabxccxbdxzcxzdxdzzacaxyxbcacxaazxbabcadzaazaxbadxazbxdzbzyzcczaydxbdaddcxbxbxxdbcazdaxdzzbcxbbyydzcabdazbbbzadbdyayycdydczaabccyzbzdayzzzbzcadcaabddcayazzxcxxcbcxyaazbdccyccxzybzdxaazybcyczybdzbaabcdbxayzacbdacbxbyazddcdzzxczadcyddxcxxdcyayczadxabzbzdxzxbdzdbybxcdxbaccxcxzzyyyzabbdacyaxzaccxzxddaxacayayzzxyczbzayxcxabbbyzabaacxbbbaazbdyzaaazddydaacxcyyxayxcbzxzbzbczazbdybadyxdyzybdbdycxydbayaaccbabydzzyxccbbdccaayabbczdzxcdacaxxcdcccxxabbyyaxczcxbzacydaccaybacbxyyzxxazyczbyxdzxaycxyydaadaczzzbcxzycbyaazcdabzzdyxayaxydczcdcxaddabzyxzcadaxaaxcxzcbdbzydacxcaybyyazydddxxzbcxbyzy\r\nHEAD /x HTTP/1.1\r\nHost: a\r\ntransfer-encoding:Chunked\r\nExpect: 100-Continue\r\nCookie: x=1; y=2\r\n\r\n")) ∷ trace_112_06

abbrev trace_112_08 : Trace
trace_112_08 = (0, started job.Resume) ∷ trace_112_07

abbrev trace_112_09 : Trace
trace_112_09 = (0, called call.Return None) ∷ (0, back) ∷ trace_112_08

abbrev trace_112_10 : Trace
trace_112_10 = (0, came (50 ∷ 56 ∷ 9 ∷ 32 ∷ 59 ∷ 32 ∷ 122 ∷ 61 ∷ 34 ∷ 113 ∷ 34 ∷ 13 ∷ 10 ∷ 110 ∷ 109 ∷ 110 ∷ 110 ∷ 109 ∷ 111 ∷ 109 ∷ 111 ∷ 107 ∷ 109 ∷ 112 ∷ 110 ∷ 108 ∷ 109 ∷ 109 ∷ 112 ∷ 110 ∷ 112 ∷ 111 ∷ 110 ∷ 110 ∷ 110 ∷ 111 ∷ 107 ∷ 111 ∷ 110 ∷ 110 ∷ 107 ∷ 108 ∷ 109 ∷ 112 ∷ 107 ∷ 111 ∷ 112 ∷ 109 ∷ 109 ∷ 109 ∷ 108 ∷ 112 ∷ 109 ∷ 13 ∷ 10 ∷ 48 ∷ 48 ∷ 13 ∷ 10 ∷ 86 ∷ 101 ∷ 114 ∷ 121 ∷ 45 ∷ 76 ∷ 111 ∷ 110 ∷ 103 ∷ 45 ∷ 78 ∷ 97 ∷ 109 ∷ 101 ∷ 58 ∷ 32 ∷ 118 ∷ 118 ∷ 118 ∷ 118 ∷ 118 ∷ 118 ∷ 118 ∷ 118 ∷ 118 ∷ 118 ∷ 118 ∷ 118 ∷ 118 ∷ 118 ∷ 118 ∷ 118 ∷ 118 ∷ 118 ∷ 118 ∷ 118 ∷ 118 ∷ 118 ∷ 118 ∷ 118 ∷ 118 ∷ 118 ∷ 118 ∷ 118 ∷ 118 ∷ 118 ∷ 13 ∷ 10 ∷ 86 ∷ 101 ∷ 114 ∷ 121 ∷ 45 ∷ 76 ∷ 111 ∷ 110 ∷ 103 ∷ 45 ∷ 78 ∷ 97 ∷ 109 ∷ 101 ∷ 58 ∷ 32 ∷ 118 ∷ 118 ∷ 118 ∷ 118 ∷ 118 ∷ 118 ∷ 118 ∷ 118 ∷ 13 ∷ 10 ∷ 86 ∷ 101 ∷ 114 ∷ 121 ∷ 45 ∷ 76 ∷ 111 ∷ 110 ∷ 103 ∷ 45 ∷ 78 ∷ 97 ∷ 109 ∷ 101 ∷ 58 ∷ 32 ∷ 118 ∷ 118 ∷ 118 ∷ 118 ∷ 118 ∷ 118 ∷ 118 ∷ 118 ∷ 118 ∷ 118 ∷ 118 ∷ 118 ∷ 118 ∷ 118 ∷ 118 ∷ 118 ∷ 118 ∷ 118 ∷ 118 ∷ 118 ∷ 118 ∷ 118 ∷ 118 ∷ 118 ∷ 118 ∷ 118 ∷ 118 ∷ 118 ∷ 118 ∷ 118 ∷ 13 ∷ 10 ∷ 13 ∷ 10 ∷ [])) ∷ trace_112_09

abbrev trace_112_11 : Trace
trace_112_11 = (0, called call.Run None) ∷ (0, started job.Readable) ∷ trace_112_10

abbrev trace_112_12 : Trace
trace_112_12 = (0, given 1000) ∷ trace_112_11

abbrev trace_112_14 : Trace
trace_112_14 = (0, called call.DispatchOwn None) ∷ trace_112_12

abbrev trace_112_15 : Trace
trace_112_15 = (0, called call.Return None) ∷ (0, back) ∷ trace_112_14

abbrev trace_112_16 : Trace
trace_112_16 = (0, came (codes "HEAD /x HTTP/1.1\r\nExpect: 100-continue\r\nConnection: close\r\nContent-Length: 5\r\nA: b\r\nHost: a\r\n\r\n")) ∷ trace_112_15

abbrev trace_112_17 : Trace
trace_112_17 = (0, called call.Run None) ∷ (0, started (job.Again 0)) ∷ trace_112_16

abbrev trace_112_18 : Trace
trace_112_18 = (0, end_given) ∷ trace_112_17

abbrev trace_112_20 : Trace
trace_112_20 = (0, caused cause.BadBody) ∷ (0, began (record { place = 1064; size = 98; head = record { method = (codes "HEAD"); target = (codes "/x"); minor = 1; fields = record { name = (codes "Host"); value = (codes "a") } ∷ record { name = (codes "transfer-encoding"); value = (codes "Chunked") } ∷ record { name = (codes "Expect"); value = (codes "100-Continue") } ∷ record { name = (codes "Cookie"); value = (codes "x=1; y=2") } ∷ [] }; framing = framing.Chunked; max_trailer = 6; async_timeout = 20; part = 2; can_async = false; keep = true; go_on = true })) ∷ (0, over) ∷ (0, called call.Return None) ∷ (0, back) ∷ trace_112_18

trace_112-connection : connection_told trace_112_20
    ≡ record {
      came = 1440;
      consumed = 1162;
      room = 16106;
      has_ended = false;
      cause = (Some cause.BadBody);
      is_broken = false;
      is_gone = false;
      is_open = true;
      begun = 2;
      output = (codes "HTTP/1.1 200 \r\nContent-Length: 0\r\nDate: Thu, 01 Jan 1970 00:00:00 GMT\r\n\r\nHTTP/1.1 100 \r\n\r\n");
      took = 0;
      unsent = 90;
      idle_since = 0;
      next_job = (Some (job.Service 2));
      charts = (call.Run ∷ call.Start ∷ call.Return ∷ call.Run ∷ call.DispatchOwn ∷ call.Return ∷ call.Run ∷ call.Return ∷ []) ∷ ([]) ∷ [];
    }
unfolding head_text digits date_at count_off is_name_byte
trace_112-connection = refl

trace_112-request : request_told trace_112_20
    ≡ record {
      part = 2;
      state = state.Dispatched;
      running = None;
      parked = None;
      given = 0;
      is_end_told = false;
      waiting = 0;
      used = 0;
      swallowed = 0;
      has_whole_body = false;
      has_bad_body = true;
      listeners = [];
      owed = [];
      deadline = None;
      ready = record { read_set = false; read_armed = false; all_read_told = false; write_set = false; write_armed = false };
    }
unfolding is_name_byte
trace_112-request = refl

trace_112-answer : answer_told trace_112_20
    ≡ record {
      status = 200;
      fields = [];
      set_length = None;
      content = 0;
      is_aborted = false;
    }
unfolding digits
trace_112-answer = refl

trace_112-open : open_told trace_112_20
    ≡ record {
      is_committed = false;
      takes_one = true;
      has_to_cut = true;
    }
unfolding head_text digits date_at count_off is_name_byte
trace_112-open = refl

trace_112-01-settled : settled trace_112_limits trace_112_rules 0 ((0, opened) ∷ [])
    ≡ trace_112_01
unfolding settled head_text digits date_at count_off is_name_byte trimmed front_length whole_head host_fits head_of verdict_of target_of framed is_utf8 chars encode
trace_112-01-settled = refl

trace_112-02-settled : settled trace_112_limits trace_112_rules 0 ((0, came (codes "POST / HTTP/1.1\r\nHost: localhost:8080\r\nContent-Length: 01000\r\n\r\ny")) ∷ trace_112_01)
    ≡ trace_112_02
unfolding settled head_text digits date_at count_off is_name_byte trimmed front_length whole_head host_fits head_of verdict_of target_of framed is_utf8 chars encode
trace_112-02-settled = refl

trace_112-03-next : next_job (trace_112_02)
    ≡ (Some (job.Service 0))
unfolding head_text digits date_at count_off is_name_byte
trace_112-03-next = refl

trace_112-04-settled : settled trace_112_limits trace_112_rules 0 ((0, called call.Start None) ∷ trace_112_03)
    ≡ trace_112_04
unfolding settled head_text digits date_at count_off is_name_byte trimmed front_length whole_head host_fits head_of verdict_of target_of framed is_utf8 chars encode
trace_112-04-settled = refl

trace_112-05-settled : settled trace_112_limits trace_112_rules 0 ((0, read_listener_set) ∷ trace_112_04)
    ≡ trace_112_05
unfolding settled head_text digits date_at count_off is_name_byte trimmed front_length whole_head host_fits head_of verdict_of target_of framed is_utf8 chars encode
trace_112-05-settled = refl

trace_112-06-settled : settled trace_112_limits trace_112_rules 0 ((0, parked input_side) ∷ trace_112_05)
    ≡ trace_112_06
unfolding settled head_text digits date_at count_off is_name_byte trimmed front_length whole_head host_fits head_of verdict_of target_of framed is_utf8 chars encode
trace_112-06-settled = refl

trace_112-07-settled : settled trace_112_limits trace_112_rules 0 ((0, came (codes "aaczbzzdadcdbbxdcxadcaxbxxcyaxdyczdccyzcxxzyaazbcbdccayadbzxazxzbzyxxzbbxbcaxcddacacbdacabyyxzxaxadxzbayayzbcbbyadzzdbxzbzxccyxcxccyzaydbacxdcczbdabcdczyyxcxbbxyabczcyyyxadaczdyxyydzxydcdzycbzacaydybxdzdaxxcabydbcyyxbbbzyddddyccaazyzybayzdzdxzxbzxzzxaxbbycdcczczxcyzdzaybbdbcadzbybxybcyzxbczzbaxabxzzyzydxbxaaacdxzcczcxyzzyaxdxzbabxyaxzaxacadayxcxxcdbcdccczdxaxxbzcbyyxzzacadacaxyaabbxcabcadyzbaybdbcyxyxaxccxaczxbdbbdabxccxbdxzcxzdxdzzacaxyxbcacxaazxbabcadzaazaxbadxazbxdzbzyzcczaydxbdaddcxbxbxxdbcazdaxdzzbcxbbyydzcabdazbbbzadbdyayycdydczaabccyzbzdayzzzbzcadcaabddcayazzxcxxcbcxyaazbdccyccxzybzdxaazybcyczybdzbaabcdbxayzacbdacbxbyazddcdzzxczadcyddxcxxdcyayczadxabzbzdxzxbdzdbybxcdxbaccxcxzzyyyzabbdacyaxzaccxzxddaxacayayzzxyczbzayxcxabbbyzabaacxbbbaazbdyzaaazddydaacxcyyxayxcbzxzbzbczazbdybadyxdyzybdbdycxydbayaaccbabydzzyxccbbdccaayabbczdzxcdacaxxcdcccxxabbyyaxczcxbzacydaccaybacbxyyzxxazyczbyxdzxaycxyydaadaczzzbcxzycbyaazcdabzzdyxayaxydczcdcxaddabzyxzcadaxaaxcxzcbdbzydacxcaybyyazydddxxzbcxbyzy\r\nHEAD /x HTTP/1.1\r\nHost: a\r\ntransfer-encoding:Chunked\r\nExpect: 100-Continue\r\nCookie: x=1; y=2\r\n\r\n")) ∷ trace_112_06)
    ≡ trace_112_07
unfolding settled head_text digits date_at count_off is_name_byte trimmed front_length whole_head host_fits head_of verdict_of target_of framed is_utf8 chars encode
trace_112-07-settled = refl

trace_112-08-next : next_job (trace_112_07)
    ≡ (Some job.Resume)
unfolding head_text digits date_at count_off is_name_byte
trace_112-08-next = refl

trace_112-09-settled : settled trace_112_limits trace_112_rules 0 ((0, called call.Return None) ∷ (0, back) ∷ trace_112_08)
    ≡ trace_112_09
unfolding settled head_text digits date_at count_off is_name_byte trimmed front_length whole_head host_fits head_of verdict_of target_of framed is_utf8 chars encode
trace_112-09-settled = refl

trace_112-10-settled : settled trace_112_limits trace_112_rules 0 ((0, came (50 ∷ 56 ∷ 9 ∷ 32 ∷ 59 ∷ 32 ∷ 122 ∷ 61 ∷ 34 ∷ 113 ∷ 34 ∷ 13 ∷ 10 ∷ 110 ∷ 109 ∷ 110 ∷ 110 ∷ 109 ∷ 111 ∷ 109 ∷ 111 ∷ 107 ∷ 109 ∷ 112 ∷ 110 ∷ 108 ∷ 109 ∷ 109 ∷ 112 ∷ 110 ∷ 112 ∷ 111 ∷ 110 ∷ 110 ∷ 110 ∷ 111 ∷ 107 ∷ 111 ∷ 110 ∷ 110 ∷ 107 ∷ 108 ∷ 109 ∷ 112 ∷ 107 ∷ 111 ∷ 112 ∷ 109 ∷ 109 ∷ 109 ∷ 108 ∷ 112 ∷ 109 ∷ 13 ∷ 10 ∷ 48 ∷ 48 ∷ 13 ∷ 10 ∷ 86 ∷ 101 ∷ 114 ∷ 121 ∷ 45 ∷ 76 ∷ 111 ∷ 110 ∷ 103 ∷ 45 ∷ 78 ∷ 97 ∷ 109 ∷ 101 ∷ 58 ∷ 32 ∷ 118 ∷ 118 ∷ 118 ∷ 118 ∷ 118 ∷ 118 ∷ 118 ∷ 118 ∷ 118 ∷ 118 ∷ 118 ∷ 118 ∷ 118 ∷ 118 ∷ 118 ∷ 118 ∷ 118 ∷ 118 ∷ 118 ∷ 118 ∷ 118 ∷ 118 ∷ 118 ∷ 118 ∷ 118 ∷ 118 ∷ 118 ∷ 118 ∷ 118 ∷ 118 ∷ 13 ∷ 10 ∷ 86 ∷ 101 ∷ 114 ∷ 121 ∷ 45 ∷ 76 ∷ 111 ∷ 110 ∷ 103 ∷ 45 ∷ 78 ∷ 97 ∷ 109 ∷ 101 ∷ 58 ∷ 32 ∷ 118 ∷ 118 ∷ 118 ∷ 118 ∷ 118 ∷ 118 ∷ 118 ∷ 118 ∷ 13 ∷ 10 ∷ 86 ∷ 101 ∷ 114 ∷ 121 ∷ 45 ∷ 76 ∷ 111 ∷ 110 ∷ 103 ∷ 45 ∷ 78 ∷ 97 ∷ 109 ∷ 101 ∷ 58 ∷ 32 ∷ 118 ∷ 118 ∷ 118 ∷ 118 ∷ 118 ∷ 118 ∷ 118 ∷ 118 ∷ 118 ∷ 118 ∷ 118 ∷ 118 ∷ 118 ∷ 118 ∷ 118 ∷ 118 ∷ 118 ∷ 118 ∷ 118 ∷ 118 ∷ 118 ∷ 118 ∷ 118 ∷ 118 ∷ 118 ∷ 118 ∷ 118 ∷ 118 ∷ 118 ∷ 118 ∷ 13 ∷ 10 ∷ 13 ∷ 10 ∷ [])) ∷ trace_112_09)
    ≡ trace_112_10
unfolding settled head_text digits date_at count_off is_name_byte trimmed front_length whole_head host_fits head_of verdict_of target_of framed is_utf8 chars encode
trace_112-10-settled = refl

trace_112-11-next : next_job (trace_112_10)
    ≡ (Some job.Readable)
unfolding head_text digits date_at count_off is_name_byte
trace_112-11-next = refl

trace_112-12-reply : reply_to trace_112_limits trace_112_rules 0 trace_112_11 (on_act (act.Read 65536) [])
    ≡ record { reply = reply.Got 1000; got = (codes "yaaczbzzdadcdbbxdcxadcaxbxxcyaxdyczdccyzcxxzyaazbcbdccayadbzxazxzbzyxxzbbxbcaxcddacacbdacabyyxzxaxadxzbayayzbcbbyadzzdbxzbzxccyxcxccyzaydbacxdcczbdabcdczyyxcxbbxyabczcyyyxadaczdyxyydzxydcdzycbzacaydybxdzdaxxcabydbcyyxbbbzyddddyccaazyzybayzdzdxzxbzxzzxaxbbycdcczczxcyzdzaybbdbcadzbybxybcyzxbczzbaxabxzzyzydxbxaaacdxzcczcxyzzyaxdxzbabxyaxzaxacadayxcxxcdbcdccczdxaxxbzcbyyxzzacadacaxyaabbxcabcadyzbaybdbcyxyxaxccxaczxbdbbdabxccxbdxzcxzdxdzzacaxyxbcacxaazxbabcadzaazaxbadxazbxdzbzyzcczaydxbdaddcxbxbxxdbcazdaxdzzbcxbbyydzcabdazbbbzadbdyayycdydczaabccyzbzdayzzzbzcadcaabddcayazzxcxxcbcxyaazbdccyccxzybzdxaazybcyczybdzbaabcdbxayzacbdacbxbyazddcdzzxczadcyddxcxxdcyayczadxabzbzdxzxbdzdbybxcdxbaccxcxzzyyyzabbdacyaxzaccxzxddaxacayayzzxyczbzayxcxabbbyzabaacxbbbaazbdyzaaazddydaacxcyyxayxcbzxzbzbczazbdybadyxdyzybdbdycxydbayaaccbabydzzyxccbbdccaayabbczdzxcdacaxxcdcccxxabbyyaxczcxbzacydaccaybacbxyyzxxazyczbyxdzxaycxyydaadaczzzbcxzycbyaazcdabzzdyxayaxydczcdcxaddabzyxzcadaxaaxcxzcbdbzydacxcaybyyazydddxxzbcxbyzy") }
unfolding reply_to head_text digits date_at count_off is_name_byte
trace_112-12-reply = refl

trace_112-12-settled : settled trace_112_limits trace_112_rules 0 ((0, given 1000) ∷ trace_112_11)
    ≡ trace_112_12
unfolding settled head_text digits date_at count_off is_name_byte trimmed front_length whole_head host_fits head_of verdict_of target_of framed is_utf8 chars encode
trace_112-12-settled = refl

trace_112-14-settled : settled trace_112_limits trace_112_rules 0 ((0, called call.DispatchOwn None) ∷ trace_112_12)
    ≡ trace_112_14
unfolding settled head_text digits date_at count_off is_name_byte trimmed front_length whole_head host_fits head_of verdict_of target_of framed is_utf8 chars encode
trace_112-14-settled = refl

trace_112-15-settled : settled trace_112_limits trace_112_rules 0 ((0, called call.Return None) ∷ (0, back) ∷ trace_112_14)
    ≡ trace_112_15
unfolding settled head_text digits date_at count_off is_name_byte trimmed front_length whole_head host_fits head_of verdict_of target_of framed is_utf8 chars encode
trace_112-15-settled = refl

trace_112-16-settled : settled trace_112_limits trace_112_rules 0 ((0, came (codes "HEAD /x HTTP/1.1\r\nExpect: 100-continue\r\nConnection: close\r\nContent-Length: 5\r\nA: b\r\nHost: a\r\n\r\n")) ∷ trace_112_15)
    ≡ trace_112_16
unfolding settled head_text digits date_at count_off is_name_byte trimmed front_length whole_head host_fits head_of verdict_of target_of framed is_utf8 chars encode
trace_112-16-settled = refl

trace_112-17-next : next_job (trace_112_16)
    ≡ (Some (job.Again 0))
unfolding head_text digits date_at count_off is_name_byte
trace_112-17-next = refl

trace_112-18-reply : reply_to trace_112_limits trace_112_rules 0 trace_112_17 (on_act (act.Read 65536) [])
    ≡ plain reply.GotEnd
unfolding reply_to head_text digits date_at count_off is_name_byte
trace_112-18-reply = refl

trace_112-18-settled : settled trace_112_limits trace_112_rules 0 ((0, end_given) ∷ trace_112_17)
    ≡ trace_112_18
unfolding settled head_text digits date_at count_off is_name_byte trimmed front_length whole_head host_fits head_of verdict_of target_of framed is_utf8 chars encode
trace_112-18-settled = refl

trace_112-20-end : end_marks ((0, called call.Return None) ∷ (0, back) ∷ trace_112_18)
    ≡ (over ∷ [])
unfolding head_text digits date_at count_off is_name_byte
trace_112-20-end = refl
