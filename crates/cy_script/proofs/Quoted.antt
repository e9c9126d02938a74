-- What a line quotes.
use Rattle.std.proofs.Common.{◌≡◌, ◌≢◌, ℕ, ◌-◌, Bool, true, cond, List, ◌++◌, length, take, drop, Option, Some, None, refl, sym, ap, ◌∙◌, append_assoc, arith}
use Rattle.std.specs.Prelude.{MatchOption, option_map}
use Rattle.std.specs.Borrow.{Bor}
use Rattle.std.specs.Str.{bytes_eq}
use Rattle.std.proofs.lemmas.List.{append_cancel_left, length-append, take_at, drop_at}
use Rattle.std.proofs.lemmas.Option.{cond_some}
use Rattle.std.proofs.lemmas.Slice.Eq.{bytes_eq-Decides}
use Rattle.cy_script.specs.Reading.{between}

pub between_is : (front back line inner : List ℕ) → between front back line ≡ Some inner → line ≡ front ++ inner ++ back
between_is front back line inner h =
    let middle = drop (length front) (take (length line - length back) line) in
    let found = cond_some (bytes_eq line (front ++ middle ++ back)) middle inner h in
    let parts : line ≡ front ++ middle ++ back = (bytes_eq-Decides line (front ++ middle ++ back)).0 found.0 in
    parts ∙ ap (λ (t : List ℕ). front ++ t ++ back) found.1

pub between_again : (front back inner : List ℕ) → between front back (front ++ inner ++ back) ≡ Some inner
between_again front back inner =
    let line = front ++ inner ++ back in
    let short : length (front ++ inner) ≡ length line - length back = omega (arith, length-append (front ++ inner) back) in
    let opened : take (length line - length back) line ≡ front ++ inner = take_at (front ++ inner) back (length line - length back) short in
    let middle : drop (length front) (take (length line - length back) line) ≡ inner = ap (drop (length front)) opened ∙ drop_at front inner (length front) refl in
    let same : bytes_eq line (front ++ drop (length front) (take (length line - length back) line) ++ back) ≡ true = (bytes_eq-Decides _ _).1 (ap (λ (t : List ℕ). front ++ t ++ back) (sym middle)) in
    ap (λ (t : Bool). cond t (Some (drop (length front) (take (length line - length back) line))) None) same ∙ ap Some middle

pub between_none : (front back line : List ℕ) → ((inner : List ℕ) → line ≢ front ++ inner ++ back) → between front back line ≡ None
between_none front back line none =
    elim (between front back line) as (λ o. between front back line ≡ o → o ≡ None) [
      | None ↦ λ e. refl
      | Some inner ↦ λ e. absurd (none inner (between_is front back line inner e))
    ] refl

-- Where the line does not begin with the front, nothing stands between.
pub no_front : (front back line : List ℕ) → ((rest : List ℕ) → line ≢ front ++ rest) → between front back line ≡ None
no_front front back line none = between_none front back line (λ inner e. none (inner ++ back) (e ∙ append_assoc front inner back))

-- What is left of the line behind the front, without the back.
pub stripped : (front back line rest : List ℕ) (o : Option (Bor (List ℕ))) → line ≡ front ++ rest
    → MatchOption o ((inner : List ℕ) → rest ≢ inner ++ back) (λ x. rest ≡ x.now ++ back) → option_map (λ x. x.now) o ≡ between front back line
stripped front back line rest None opens h = sym (between_none front back line (λ inner e. h inner (append_cancel_left front rest (inner ++ back) (sym opens ∙ e ∙ append_assoc front inner back))))
stripped front back line rest (Some x) opens h =
    let parts : line ≡ front ++ x.now ++ back = opens ∙ ap (λ (t : List ℕ). front ++ t) h ∙ sym (append_assoc front x.now back) in
    sym (ap (between front back) parts ∙ between_again front back x.now)
