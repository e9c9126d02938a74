-- How many connections are counted, when one of them takes an entry or one more is admitted; and that numbers stay
-- distinct.
use Rattle.std.specs.Prelude.{sum_by}
use Rattle.std.proofs.Common.{◌≡◌, ◌≢◌, ℕ, ◌+◌, Bool, true, false, cond, not, List, [], ◌∷◌, ◌++◌, Option, Some, None, refl, sym, ap, subst, arith, ◌==◌, if◌then◌else◌}
use Rattle.std.proofs.lemmas.Bool.{eq-eqb, eqb-true, ne_eqb}
use Rattle.std.proofs.lemmas.List.Sums.{sum_by-cons, sum_by_push}
use Rattle.cy_event.specs.declared.limits.Limits.{Limits}
use Rattle.cy_map.specs.declared.rule.Rule.{Rule}
use Rattle.cy_model.specs.Connections.{History, add_own, counted, find_own, with_entry}
use Rattle.cy_model.specs.Entries.{Entry, trace_of}
use Rattle.cy_model.specs.Outputs.{is_gone}
use Rattle.cy_world.specs.Worlds.{AreDistinct}

-- ---- numbers

pub add_none : (t c : ℕ) (e : Entry) (hs : List History) → find_own c hs ≡ None → add_own t c e hs ≡ hs
add_none t c e [] none = refl
add_none t c e (h ∷ hs) none =
    elim (h.number == c) as (λ v. (if v then Some h.entries else find_own c hs) ≡ None → (cond v (with_entry t e h) h) ∷ add_own t c e hs ≡ h ∷ hs) [
      | true ↦ λ q. cc
      | false ↦ λ q. ap (λ (gs : List History). h ∷ gs) (add_none t c e hs q)
    ] none

-- the same behind a first one, whose entries don't count
none_behind : (n d : ℕ) (entries others : List (ℕ × Entry)) (rest before : Option (List (ℕ × Entry))) → (before ≡ None → rest ≡ None)
    → (if n == d then Some others else before) ≡ None → (if n == d then Some entries else rest) ≡ None
none_behind n d entries others rest before next none =
    elim (n == d) as (λ v. (if v then Some others else before) ≡ None → (if v then Some entries else rest) ≡ None) [
      | true ↦ λ q. cc
      | false ↦ next
    ] none

pub still_none : (t c d : ℕ) (e : Entry) (hs : List History) → find_own d hs ≡ None → find_own d (add_own t c e hs) ≡ None
still_none t c d e [] none = refl
still_none t c d e (h ∷ hs) none =
    elim (h.number == c) as (λ v. (if (cond v (with_entry t e h) h).number == d then Some (cond v (with_entry t e h) h).entries else find_own d (add_own t c e hs)) ≡ None) [
      | true ↦ none_behind h.number d ((t, e) ∷ h.entries) h.entries (find_own d (add_own t c e hs)) (find_own d hs) (still_none t c d e hs) none
      | false ↦ none_behind h.number d h.entries h.entries (find_own d (add_own t c e hs)) (find_own d hs) (still_none t c d e hs) none
    ]

pub distinct_own : (t c : ℕ) (e : Entry) (hs : List History) → AreDistinct hs → AreDistinct (add_own t c e hs)
distinct_own t c e [] distinct = tt
distinct_own t c e (h ∷ hs) distinct =
    elim (h.number == c) as (λ v. AreDistinct ((cond v (with_entry t e h) h) ∷ add_own t c e hs)) [
      | true ↦ (still_none t c h.number e hs distinct.0, distinct_own t c e hs distinct.1)
      | false ↦ (still_none t c h.number e hs distinct.0, distinct_own t c e hs distinct.1)
    ]

pub none_last : (d : ℕ) (h : History) (hs : List History) → h.number ≢ d → find_own d hs ≡ None → find_own d (hs ++ h ∷ []) ≡ None
none_last d h [] away none = ap (λ (v : Bool). if v then Some h.entries else None) (ne_eqb h.number d away)
none_last d h (g ∷ gs) away none =
    elim (g.number == d) as (λ v. (if v then Some g.entries else find_own d gs) ≡ None → (if v then Some g.entries else find_own d (gs ++ h ∷ [])) ≡ None) [
      | true ↦ λ q. cc
      | false ↦ λ q. none_last d h gs away q
    ] none

pub distinct_last : (h : History) (hs : List History) → AreDistinct hs → find_own h.number hs ≡ None → AreDistinct (hs ++ h ∷ [])
distinct_last h [] distinct none = (refl, tt)
distinct_last h (g ∷ gs) distinct none =
    elim (g.number == h.number) as (λ v. g.number == h.number ≡ v → (if v then Some g.entries else find_own h.number gs) ≡ None → AreDistinct (g ∷ gs ++ h ∷ [])) [
      | true ↦ λ q n. cc
      | false ↦ λ q n. (none_last g.number h gs (differ q) distinct.0, distinct_last h gs distinct.1 n)
    ] refl none
  where
    differ : g.number == h.number ≡ false → h.number ≢ g.number
    differ q e = let same : g.number == h.number ≡ true = eq-eqb g.number h.number (sym e) in cc

-- ---- sums over the connections

-- what is summed up of a connection is by its entries
module _ (f : List (ℕ × Entry) → ℕ) where
  abbrev pub total : List History → ℕ
  total hs = sum_by (λ (h : History). f h.entries) hs

  pub total_first : (h : History) (hs : List History) → total (h ∷ hs) ≡ f h.entries + total hs
  total_first h hs = sum_by-cons (λ (g : History). f g.entries) h hs

  pub total_last : (hs : List History) (h : History) → total (hs ++ h ∷ []) ≡ total hs + f h.entries
  total_last hs h = sum_by_push (λ (g : History). f g.entries) hs h

  pub total_own : (t c : ℕ) (e : Entry) (hs : List History) (entries : List (ℕ × Entry)) → AreDistinct hs → find_own c hs ≡ Some entries
      → total (add_own t c e hs) + f entries ≡ total hs + f ((t, e) ∷ entries)
  total_own t c e [] entries distinct found = cc
  total_own t c e (h ∷ hs) entries distinct found =
      elim (h.number == c) as (λ v. h.number == c ≡ v → (if v then Some h.entries else find_own c hs) ≡ Some entries
      → total ((cond v (with_entry t e h) h) ∷ add_own t c e hs) + f entries ≡ total (h ∷ hs) + f ((t, e) ∷ entries)) [
        | true ↦ λ q g.
            let same : h.entries ≡ entries = cc in
            let none : find_own c hs ≡ None = subst (λ (n : ℕ). find_own n hs ≡ None) (eqb-true h.number c q) distinct.0 in
            omega (
              arith,
              total_first (with_entry t e h) (add_own t c e hs),
              total_first h hs,
              ap total (add_none t c e hs none),
              ap f same,
              ap (λ (es : List (ℕ × Entry)). f ((t, e) ∷ es)) same,
            )
        | false ↦ λ q g.
            omega (arith, total_first h (add_own t c e hs), total_first h hs, total_own t c e hs entries distinct.1 g)
      ] refl found

-- ---- counts

module _ (limits : Limits) (rules : List Rule) where
  -- what a connection counts, by whether it is gone
  abbrev pub gone_by : List (ℕ × Entry) → Bool
  gone_by entries = is_gone (trace_of limits rules entries)

  abbrev pub one : List (ℕ × Entry) → ℕ
  one entries = cond (not (gone_by entries)) 1 0

  pub count_first : (h : History) (hs : List History) → counted limits rules (h ∷ hs) ≡ one h.entries + counted limits rules hs
  count_first h hs = total_first one h hs

  pub count_last : (hs : List History) (h : History) → counted limits rules (hs ++ h ∷ []) ≡ counted limits rules hs + one h.entries
  count_last hs h = total_last one hs h

  pub count_own : (t c : ℕ) (e : Entry) (hs : List History) (entries : List (ℕ × Entry)) → AreDistinct hs → find_own c hs ≡ Some entries
      → counted limits rules (add_own t c e hs) + one entries ≡ counted limits rules hs + one ((t, e) ∷ entries)
  count_own t c e hs entries distinct found = total_own one t c e hs entries distinct found
