-- Of the bytes that come no more are taken at once than the ring of the input holds, so those behind them say nothing.
use Rattle.std.proofs.Common.{◌≡◌, ◌≤◌, ℕ, zero, suc, List, [], ◌∷◌, length, take, refl, ap, ◌∙◌, subst, arith, if◌then◌else◌}
use Rattle.cy_event.specs.declared.steps.Event.{Event}
use Rattle.cy_event.specs.declared.steps.Event.TheVariants as event
use Rattle.cy_event.specs.declared.steps.Reply.{Reply}
use Rattle.cy_event.specs.declared.steps.Reply.TheVariants as reply
use Rattle.cy_model.specs.Entries.{event_marks, event_reply, is_closed_to}
use Rattle.cy_model.specs.Inputs.{room}
use Rattle.cy_model.specs.Marks.{Mark, came, Trace}
use Rattle.cy_model.specs.Replies.{plain}
use Rattle.cy_model.specs.Settling.{rested, with_marks}
use Rattle.cy_rings.specs.declared.kit.TheConstants.{IN_CAPACITY}
use Rattle.cy_world.specs.Lives.{LivesAfterEvent}
use Rattle.cy_world.specs.Places.{LiveParts, Lives}

take_front : (n m : ℕ) (b : List ℕ) → n ≤ m → take n (take m b) ≡ take n b
take_front zero m b le = refl
take_front (suc n) zero b le = absurd (omega (arith, le))
take_front (suc n) (suc m) [] le = refl
take_front (suc n) (suc m) (x ∷ b) le = ap (λ (rest : List ℕ). x ∷ rest) (take_front n m b (omega (arith, le)))

abbrev pub cut : List ℕ → List ℕ
cut b = take IN_CAPACITY b

room_within : (T : Trace) → room T ≤ IN_CAPACITY
room_within T = omega arith

same_marks : (T : Trace) (e : Event) (b : List ℕ) → event_marks T e (cut b) ≡ event_marks T e b
same_marks T event.In b = ap (λ (c : List ℕ). came c ∷ []) (take_front (room T) IN_CAPACITY b (room_within T))
same_marks T event.End b = refl
same_marks T (event.Took n) b = refl

same_reply : (T : Trace) (e : Event) (b : List ℕ) → event_reply T e (cut b) ≡ event_reply T e b
same_reply T event.In b = ap (λ (c : List ℕ). reply.Taken (length c)) (take_front (room T) IN_CAPACITY b (room_within T))
same_reply T event.End b = refl
same_reply T (event.Took n) b = refl

pub cut_event : (e : Event) (b c : List ℕ) (old : LiveParts) (r : Reply) (new : LiveParts) → c ≡ cut b → LivesAfterEvent e c old r new → LivesAfterEvent e b old r new
cut_event e b c old r new is answers T lives =
    let w = subst (λ (x : List ℕ). LivesAfterEvent e x old r new) is answers T lives in
    let m = old.line.moment in
    record {
      reply = w.reply ∙ ap (λ (x : Reply). plain (if is_closed_to e T then reply.Closed else x)) (same_reply T e b);
      lives = subst (λ (ms : List Mark). Lives (if is_closed_to e T then T else rested old.limits m (with_marks m ms T)) new) (same_marks T e b) w.lives;
    }
