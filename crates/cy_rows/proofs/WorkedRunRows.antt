-- Worked examples of long heads and of a connection with three requests: what is settled, where each head begins, and
-- what is written in all. Written down by hand.
use Rattle.std.proofs.Common.{◌≡◌, ℕ, true, false, List, [], ◌∷◌, ◌++◌, Some, None, codes, length, refl, replicate}
use Rattle.std.specs.Prelude.{⊤, map}
use Rattle.std.specs.Option.{option_map}
use Rattle.std.specs.Fmt.{digits}
use Rattle.cy_event.specs.declared.framing.Framing.{Framing}
use Rattle.cy_event.specs.declared.framing.Framing.TheVariants as framing
use Rattle.cy_event.specs.declared.steps.Call.{Call}
use Rattle.cy_event.specs.declared.steps.Call.TheVariants as call
use Rattle.cy_event.specs.declared.steps.CloseCause.TheVariants as cause
use Rattle.cy_event.specs.declared.steps.Job.TheVariants as job
use Rattle.cy_event.specs.Answers.{head_text}
use Rattle.cy_event.specs.Bodies.{bodies_on_literals}
use Rattle.cy_event.specs.Dates.{count_off, date_at}
use Rattle.cy_event.specs.Framings.{framings_on_literals}
use Rattle.cy_event.specs.Heads.{Field, heads_on_literals}
use Rattle.cy_event.specs.Limits.{standard}
use Rattle.cy_event.specs.Targets.{targets_on_literals}
use Rattle.cy_map.specs.declared.rule.Rule.{Rule}
use Rattle.cy_model.specs.Folds.{begun_count, bytes_of, cause_of, charts, idle_since, request_of}
use Rattle.cy_model.specs.Inputs.{consumed, room, waiting}
use Rattle.cy_model.specs.Jobs.{next_job}
use Rattle.cy_model.specs.Marks.{Mark, TakenUp, Trace, back, began, called, came, ended, given, opened, over, put, sent}
use Rattle.cy_model.specs.Marks.{started}
use Rattle.cy_model.specs.Outputs.{is_gone, output, took}
use Rattle.cy_model.specs.Settling.{may_begin, settled, with_marks}
use Rattle.cy_model.specs.Verdicts.{verdict_of}

-- what these rows unfold to settle traces
unfoldable answers_on_literals : ⊤
unfolding head_text date_at count_off digits
answers_on_literals = tt

unfoldable reading_on_literals : ⊤
unfolding bodies_on_literals framings_on_literals targets_on_literals heads_on_literals
reading_on_literals = tt

unfoldable settling_on_literals : ⊤
unfolding settled verdict_of reading_on_literals answers_on_literals
settling_on_literals = tt

abbrev then : Trace → List Mark → Trace
then T marks = with_marks 10 marks T

abbrev own : Call → Mark
own k = called k None

-- ---- the head of a browser: 499 bytes, and a rule without asynchronous processing

abbrev two_rules : List Rule
two_rules =
    record { pattern = codes "/"; part = 0; can_async = true }
    ∷ record { pattern = codes "/app/*"; part = 1; can_async = false } ∷ []

abbrev browser : List ℕ
browser =
    codes "GET /app/list?page=2 HTTP/1.1\r\nHost: localhost:8080\r\n"
    ++ codes "User-Agent: Mozilla/5.0 (X11; Linux x86_64; rv:128.0) Gecko/20100101 Firefox/128.0\r\n"
    ++ codes "Accept: text/html,application/xhtml+xml,application/xml;q=0.9,*/*;q=0.8\r\n"
    ++ codes "Accept-Language: en-US,en;q=0.5\r\nAccept-Encoding: gzip, deflate, br\r\nConnection: keep-alive\r\n"
    ++ codes "Cookie: theme=dark; id=42\r\nUpgrade-Insecure-Requests: 1\r\nSec-Fetch-Dest: document\r\n"
    ++ codes "Sec-Fetch-Mode: navigate\r\nSec-Fetch-Site: none\r\nSec-Fetch-User: ?1\r\nCache-Control: no-cache\r\n"
    ++ codes "Pragma: no-cache\r\n\r\n"

abbrev browsed : Trace
browsed = settled (standard 2) two_rules 10 (then [] (opened ∷ came browser ∷ []))

browser_sends_499 : consumed browsed ∷ length (bytes_of browsed) ∷ [] ≡ 499 ∷ 499 ∷ []
unfolding settling_on_literals
browser_sends_499 = refl

second_part_serves : next_job browsed ≡ Some (job.Service 1)
unfolding settling_on_literals
second_part_serves = refl

no_asynchronous_support : option_map (λ (r : TakenUp). r.can_async) (request_of browsed) ≡ Some false
unfolding settling_on_literals
no_asynchronous_support = refl

fields_of_a_browser : option_map (λ (r : TakenUp). length r.head.fields) (request_of browsed) ≡ Some 14
unfolding settling_on_literals
fields_of_a_browser = refl

nothing_of_73_bytes : length (output (then browsed (started (job.Service 1) ∷ own call.Run ∷ back ∷ own call.Return
    ∷ over ∷ []))) ≡ 73
unfolding settling_on_literals
nothing_of_73_bytes = refl

-- ---- a head of the greatest size, and one byte more

abbrev one_rule : List Rule
one_rule = record { pattern = codes "/"; part = 0; can_async = true } ∷ []

abbrev large : ℕ → Trace
large n =
    settled (standard 1) one_rule 10
    (then [] (opened ∷ came (codes "GET / HTTP/1.1\r\nHost: a\r\nX: " ++ (replicate n 97 ++ codes "\r\n\r\n")) ∷ []))

largest_is_served : next_job (large 8160) ≡ Some (job.Service 0)
unfolding settling_on_literals
largest_is_served = refl

larger_is_refused : cause_of (large 8161) ≡ Some cause.Refused
unfolding settling_on_literals
larger_is_refused = refl

larger_is_told : output (large 8161)
    ≡ codes "HTTP/1.1 400 \r\nContent-Type: text/plain\r\nContent-Length: 10\r\n"
    ++ codes "Date: Thu, 01 Jan 1970 00:00:00 GMT\r\nConnection: close\r\n\r\nError 400\n"
unfolding settling_on_literals
larger_is_told = refl

-- ---- three requests: twice a body of three bytes, read and written, and a GET

abbrev post : List ℕ
post = codes "POST /b HTTP/1.1\r\nHost: g\r\nContent-Length: 3\r\n\r\nxyz"

abbrev get : List ℕ
get = codes "GET /a HTTP/1.1\r\nHost: g\r\n\r\n"

abbrev host : Field
host = record { name = codes "Host"; value = codes "g" }

abbrev request : ℕ → ℕ → List ℕ → List ℕ → List Field → Framing → TakenUp
request place size method target fields f = record {
  place = place;
  size = size;
  head = record { method = method; target = target; minor = 1; fields = fields };
  framing = f;
  max_trailer = 8192;
  async_timeout = 30000;
  part = 0;
  can_async = true;
  keep = true;
  go_on = false;
}

abbrev post_at : ℕ → TakenUp
post_at place =
    request place 48 (codes "POST") (codes "/b") (host ∷ record { name = codes "Content-Length"; value = codes "3" }
    ∷ []) (framing.Length 3)

abbrev get_at : ℕ → TakenUp
get_at place = request place 28 (codes "GET") (codes "/a") (host ∷ []) framing.None

abbrev service : List Mark
service = started (job.Service 0) ∷ own call.Run ∷ []

abbrev returns : List Mark
returns = back ∷ own call.Return ∷ over ∷ []

abbrev echo : List Mark
echo = service ++ given 3 ∷ put (codes "xyz") ∷ returns

abbrev first : Trace
first = then [] (opened ∷ came post ∷ began (post_at 0) ∷ [])

abbrev second : Trace
second = then first (echo ++ sent 76 ∷ came post ∷ began (post_at 51) ∷ [])

abbrev third : Trace
third = then second (echo ++ sent 76 ∷ came get ∷ began (get_at 102) ∷ [])

abbrev all_three : Trace
all_three = then third (service ++ put (codes "a") ∷ returns ++ sent 74 ∷ [])

body_that_waits : map waiting (first ∷ second ∷ third ∷ []) ≡ codes "xyz" ∷ codes "xyz" ∷ [] ∷ []
unfolding settling_on_literals
body_that_waits = refl

-- the body is used up with its content, and the next head may be taken up
next_may_begin : may_begin (then first echo) ≡ true
unfolding settling_on_literals
next_may_begin = refl

where_heads_begin : consumed (then first echo) ∷ consumed (then second echo) ∷ consumed all_three ∷ []
    ≡ 51 ∷ 102 ∷ 130 ∷ []
unfolding settling_on_literals
where_heads_begin = refl

third_is_taken_up : settled (standard 1) one_rule 10 (then second (echo ++ sent 76 ∷ came get ∷ [])) ≡ third
unfolding settling_on_literals
third_is_taken_up = refl

answers_have_226_bytes : map (λ T. length (output T)) (then first echo ∷ then second echo ∷ all_three ∷ [])
    ≡ 76 ∷ 152 ∷ 226 ∷ []
unfolding settling_on_literals
answers_have_226_bytes = refl

all_are_taken : took all_three ≡ 226
all_are_taken = refl

three_begun : begun_count all_three ≡ 3
three_begun = refl

three_charts : charts all_three
    ≡ (call.Run ∷ call.Return ∷ []) ∷ (call.Run ∷ call.Return ∷ []) ∷ (call.Run ∷ call.Return ∷ []) ∷ []
three_charts = refl

idle_since_the_last : idle_since all_three ≡ 10
idle_since_the_last = refl

room_behind_them : room all_three ≡ 16384
unfolding settling_on_literals
room_behind_them = refl

abbrev ended_at_last : Trace
ended_at_last = settled (standard 1) one_rule 10 (then all_three (ended ∷ []))

end_closes_it : cause_of ended_at_last ≡ Some cause.InputEnd
unfolding settling_on_literals
end_closes_it = refl

then_it_is_gone : is_gone ended_at_last ≡ true
unfolding settling_on_literals
then_it_is_gone = refl
