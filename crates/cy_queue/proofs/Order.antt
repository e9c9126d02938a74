-- What went in came out in the same order, or still waits.
use Rattle.std.proofs.Common.{◌≡◌, ℕ, Bool, true, false, cond, List, [], ◌∷◌, ◌++◌, take, drop, refl, ap, sym, ◌∙◌, append_assoc, append-nil, take-append-drop}
use Rattle.std.proofs.lemmas.Bool.{false≢true}
use Rattle.cy_queue.specs.declared.places.Put.TheVariants as answer
use Rattle.cy_queue.specs.Queues.{Queue, holds, put_answer, after_put, with_place}
use Rattle.cy_queue.specs.Marks.{IsDistinct}
use Rattle.cy_queue.specs.Laws.{Turn, queue_after, went_in, came_out, was_closed, if_put, QueueKeepsOrder}
use Rattle.cy_queue.specs.Laws.Turn.{put, pop, close}
use Rattle.cy_queue.proofs.Marks.{distinct-push}

-- what a put adds to the places that wait
put_adds : (q : Queue) (place : ℕ) → (after_put q place).waiting ≡ q.waiting ++ if_put (put_answer q place) place
put_adds q place = by_case q.closed (holds q.waiting place)
  where
    by_case : (c h : Bool)
        → (cond c q (cond h q (with_place q place))).waiting ≡ q.waiting ++ if_put (cond c answer.Closed (cond h answer.AlreadyThere answer.Put)) place
    by_case true h = sym (append-nil q.waiting)
    by_case false true = sym (append-nil q.waiting)
    by_case false false = refl

put_once : (q : Queue) (place : ℕ) → IsDistinct q.waiting → IsDistinct (after_put q place).waiting
put_once q place once = by_case q.closed (holds q.waiting place) refl
  where
    by_case : (c h : Bool) → holds q.waiting place ≡ h → IsDistinct (cond c q (cond h q (with_place q place))).waiting
    by_case true h e = once
    by_case false true e = once
    by_case false false e = distinct-push q.waiting place e once

drop_once : (ns : List ℕ) → IsDistinct ns → IsDistinct (drop 1 ns)
drop_once [] once = tt
drop_once (n ∷ ns) once = once.1

pop_moves : (ns out : List ℕ) → out ++ ns ≡ (out ++ take 1 ns) ++ drop 1 ns
pop_moves ns out = ap (λ l. out ++ l) (sym (take-append-drop 1 ns)) ∙ sym (append_assoc out (take 1 ns) (drop 1 ns))

order : (places : ℕ) (turns : List Turn) → went_in places turns ≡ came_out places turns ++ (queue_after places turns).waiting
order places [] = refl
order places (put place ∷ before) =
    let q = queue_after places before in
    ap (λ l. l ++ if_put (put_answer q place) place) (order places before)
    ∙ append_assoc (came_out places before) q.waiting (if_put (put_answer q place) place)
    ∙ ap (λ l. came_out places before ++ l) (sym (put_adds q place))
order places (pop ∷ before) = order places before ∙ pop_moves (queue_after places before).waiting (came_out places before)
order places (close ∷ before) = order places before

once : (places : ℕ) (turns : List Turn) → IsDistinct (queue_after places turns).waiting
once places [] = tt
once places (put place ∷ before) = put_once (queue_after places before) place (once places before)
once places (pop ∷ before) = drop_once (queue_after places before).waiting (once places before)
once places (close ∷ before) = once places before

-- ---- after a close

put_closed : (q : Queue) (place : ℕ) → (after_put q place).closed ≡ q.closed
put_closed q place = by_case q.closed (holds q.waiting place) refl
  where
    by_case : (c h : Bool) → q.closed ≡ c → (cond c q (cond h q (with_place q place))).closed ≡ q.closed
    by_case true h e = refl
    by_case false true e = refl
    by_case false false e = refl

stays_closed : (places : ℕ) (turns : List Turn) → was_closed turns ≡ true → (queue_after places turns).closed ≡ true
stays_closed places [] h = absurd (false≢true h)
stays_closed places (put place ∷ before) h = put_closed (queue_after places before) place ∙ stays_closed places before h
stays_closed places (pop ∷ before) h = stays_closed places before h
stays_closed places (close ∷ before) h = refl

closed_adds : (q : Queue) (place : ℕ) (into : List ℕ) → q.closed ≡ true → into ++ if_put (put_answer q place) place ≡ into
closed_adds q place into closed =
    ap (λ c. into ++ if_put (cond c answer.Closed (cond (holds q.waiting place) answer.AlreadyThere answer.Put)) place) closed ∙ append-nil into

pub keeps_order : QueueKeepsOrder
keeps_order places turns =
    record {
      order = order places turns;
      once = once places turns;
      shut = λ place h. closed_adds (queue_after places turns) place (went_in places turns) (stays_closed places turns h);
    }
