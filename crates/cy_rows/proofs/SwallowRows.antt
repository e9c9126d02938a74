-- A body that is bad, or passed over for too long, or cut off: which cause the byte that decides sets, at the bound
-- and one beyond. Written down by hand.
use Rattle.std.proofs.Common.{◌≡◌, ℕ, true, false, List, [], ◌∷◌, ◌++◌, Option, Some, None, codes, refl, replicate}
use Rattle.std.specs.Prelude.{map}
use Rattle.cy_event.specs.declared.framing.Framing.{Framing}
use Rattle.cy_event.specs.declared.framing.Framing.TheVariants as framing
use Rattle.cy_event.specs.declared.limits.Limits.{Limits}
use Rattle.cy_event.specs.declared.steps.Call.TheVariants as call
use Rattle.cy_event.specs.declared.steps.CloseCause.{CloseCause}
use Rattle.cy_event.specs.declared.steps.CloseCause.TheVariants as cause
use Rattle.cy_event.specs.Bodies.{bodies_on_literals}
use Rattle.cy_event.specs.Limits.{standard}
use Rattle.cy_model.specs.Inputs.{consumed, swallowed, used, used_at_end}
use Rattle.cy_model.specs.Marks.{Mark, Trace, began, called, came, caused, end_given, ended, given, opened, over}
use Rattle.cy_model.specs.Settling.{body_cause, body_cause_by, body_move, input_move}

-- ---- a request with a head of 56 bytes and a body

abbrev head_bytes : List ℕ
head_bytes = codes "POST / HTTP/1.1\r\nHost: a\r\nTransfer-Encoding: chunked\r\n\r\n"

abbrev begin : Framing → Mark
begin f = began (record {
  place = 0;
  size = 56;
  head = record { method = codes "POST"; target = codes "/"; minor = 1; fields = [] };
  framing = f;
  max_trailer = 8192;
  async_timeout = 30000;
  part = 0;
  can_async = true;
  keep = true;
  go_on = false;
})

-- not over yet, with these bytes behind its head
abbrev reading : Framing → List ℕ → Trace
reading f bytes = (0, came bytes) ∷ (0, begin f) ∷ (0, came head_bytes) ∷ (0, opened) ∷ []

-- it ended, and then more bytes came
abbrev passed : List ℕ → Trace → Trace
passed bytes T = (0, came bytes) ∷ (0, over) ∷ T

abbrev swallowing : ℕ → Limits
swallowing n = record (standard 1) { max_swallow = n }

abbrev cause_where : Trace → ℕ → Option CloseCause
cause_where T n = body_cause (swallowing n) T

abbrev no_cause : Option CloseCause
no_cause = None

abbrev bad : Option CloseCause
bad = Some cause.BadBody

abbrev too_long : Option CloseCause
too_long = Some cause.SwallowLimit

-- ---- so many bytes may be passed over, and not one more

abbrev of_ten : ℕ → Trace
of_ten n = passed (replicate n 97) (reading (framing.Length 10) [])

five_of_five : map (cause_where (of_ten 5)) (4 ∷ 5 ∷ 6 ∷ []) ≡ too_long ∷ no_cause ∷ no_cause ∷ []
unfolding bodies_on_literals
five_of_five = refl

none_of_none : map (λ n. cause_where (of_ten n) 0) (0 ∷ 1 ∷ []) ≡ no_cause ∷ too_long ∷ []
unfolding bodies_on_literals
none_of_none = refl

-- bytes behind the body are none of it
behind_the_body : map (cause_where (of_ten 12)) (9 ∷ 10 ∷ []) ≡ too_long ∷ no_cause ∷ []
unfolding bodies_on_literals
behind_the_body = refl

-- what came before the end and wasn't delivered is passed over too
came_before : swallowed (passed [] ((0, given 2) ∷ reading (framing.Length 10) (replicate 6 97))) ≡ 4
unfolding bodies_on_literals
came_before = refl

-- while the request is open nothing is passed over
open_passes_nothing : map (cause_where (reading (framing.Length 10) (replicate 9 97))) (0 ∷ 1 ∷ [])
    ≡ no_cause ∷ no_cause ∷ []
unfolding bodies_on_literals
open_passes_nothing = refl

-- ---- in chunks the bytes between the content count

abbrev one_chunk : List ℕ
one_chunk = codes "1\r\na\r\n0\r\n\r\n"

-- all content is delivered, and its end isn't told: the rest has 7 bytes
rest_of_a_chunk : swallowed (passed [] ((0, given 1) ∷ reading framing.Chunked one_chunk)) ≡ 7
unfolding bodies_on_literals
rest_of_a_chunk = refl

rest_at_the_bound : map (cause_where (passed [] ((0, given 1) ∷ reading framing.Chunked one_chunk))) (6 ∷ 7 ∷ [])
    ≡ too_long ∷ no_cause ∷ []
unfolding bodies_on_literals
rest_at_the_bound = refl

-- its end is told: all 11 bytes are used up, and nothing is passed over
end_is_told : swallowed (passed [] ((0, end_given) ∷ (0, given 1) ∷ reading framing.Chunked one_chunk)) ≡ 0
unfolding bodies_on_literals
end_is_told = refl

nothing_was_delivered : swallowed (passed [] (reading framing.Chunked one_chunk)) ≡ 11
unfolding bodies_on_literals
nothing_was_delivered = refl

-- ---- what is used up of a body: the shortest part that holds what was delivered

abbrev two_chunks : Trace
two_chunks = reading framing.Chunked (codes "2\r\nab\r\n1\r\nc")

used_by_delivery : map (λ n. used ((0, given n) ∷ two_chunks)) (0 ∷ 1 ∷ 2 ∷ 3 ∷ [])
    ≡ 0 ∷ 4 ∷ 5 ∷ 11 ∷ []
unfolding bodies_on_literals
used_by_delivery = refl

used_of_a_length : map (λ n. used ((0, given n) ∷ reading (framing.Length 5) (codes "abc"))) (0 ∷ 1 ∷ 3 ∷ [])
    ≡ 0 ∷ 1 ∷ 3 ∷ []
unfolding bodies_on_literals
used_of_a_length = refl

used_and_the_head : consumed ((0, given 1) ∷ reading framing.Chunked one_chunk) ≡ 60
unfolding bodies_on_literals
used_and_the_head = refl

kept_at_the_end : used_at_end (passed one_chunk ((0, given 1) ∷ reading framing.Chunked (codes "1\r\na"))) ≡ 4
unfolding bodies_on_literals
kept_at_the_end = refl

-- ---- a bad byte: the earlier of the two bytes decides

-- the bad byte is the one at place 6
abbrev bad_at_6 : List ℕ
bad_at_6 = codes "3\r\nabcX"

bad_or_too_long : map (cause_where (passed bad_at_6 (reading framing.Chunked []))) (0 ∷ 5 ∷ 6 ∷ 7 ∷ [])
    ≡ too_long ∷ too_long ∷ bad ∷ bad ∷ []
unfolding bodies_on_literals
bad_or_too_long = refl

-- what was delivered doesn't count: 4 bytes are used up before the end
bad_behind_delivery : map (cause_where (passed [] ((0, given 1) ∷ reading framing.Chunked bad_at_6))) (1 ∷ 2 ∷ [])
    ≡ too_long ∷ bad ∷ []
unfolding bodies_on_literals
bad_behind_delivery = refl

bad_while_open : map (cause_where (reading framing.Chunked bad_at_6)) (0 ∷ 5 ∷ []) ≡ bad ∷ bad ∷ []
unfolding bodies_on_literals
bad_while_open = refl

-- too long trailers are a bad body too
trailers_are_bad : cause_where (reading framing.Chunked (codes "0\r\nT:" ++ replicate 8187 97)) 0 ≡ bad
unfolding bodies_on_literals
trailers_are_bad = refl

-- ---- the marks

abbrev asynchronous : Trace → Trace
asynchronous T = (0, called call.Start None) ∷ (0, called call.Run None) ∷ T

-- an open request hears of it where the state table has a row
bad_in_service : body_move (standard 1) (reading framing.Chunked bad_at_6) ≡ Some (caused cause.BadBody ∷ [])
unfolding bodies_on_literals
bad_in_service = refl

bad_while_starting : body_move (standard 1) (asynchronous (reading framing.Chunked bad_at_6))
    ≡ Some (caused cause.BadBody ∷ called call.Fault None ∷ [])
unfolding bodies_on_literals
bad_while_starting = refl

too_long_is_heard_by_none : body_move (swallowing 3) (of_ten 4) ≡ Some (caused cause.SwallowLimit ∷ [])
unfolding bodies_on_literals
too_long_is_heard_by_none = refl

not_with_a_cause : body_move (standard 1) ((0, caused cause.Shut) ∷ reading framing.Chunked bad_at_6) ≡ None
unfolding bodies_on_literals
not_with_a_cause = refl

-- ---- the input ends inside a body

end_inside : input_move ((0, ended) ∷ reading (framing.Length 3) (codes "ab")) ≡ Some (caused cause.InputEnd ∷ [])
unfolding bodies_on_literals
end_inside = refl

end_while_starting : input_move ((0, ended) ∷ asynchronous (reading (framing.Length 3) (codes "ab")))
    ≡ Some (caused cause.InputEnd ∷ called call.Fault None ∷ [])
unfolding bodies_on_literals
end_while_starting = refl

end_of_a_passed_body : input_move ((0, ended) ∷ passed (codes "ab") (reading (framing.Length 3) []))
    ≡ Some (caused cause.InputEnd ∷ [])
unfolding bodies_on_literals
end_of_a_passed_body = refl

end_behind : input_move ((0, ended) ∷ reading (framing.Length 3) (codes "abc")) ≡ None
unfolding bodies_on_literals
end_behind = refl

no_end : input_move (reading (framing.Length 3) (codes "ab")) ≡ None
unfolding bodies_on_literals
no_end = refl

end_with_a_cause : input_move ((0, ended) ∷ (0, caused cause.Shut) ∷ reading (framing.Length 3) (codes "ab")) ≡ None
unfolding bodies_on_literals
end_with_a_cause = refl

-- the places of the two bytes: where they are one, the byte is a bad one
the_earlier_decides : body_cause_by (Some 4) (Some 5) ∷ body_cause_by (Some 5) (Some 5)
    ∷ body_cause_by (Some 6) (Some 5) ∷ []
    ≡ bad ∷ bad ∷ too_long ∷ []
the_earlier_decides = refl
