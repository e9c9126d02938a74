-- The order of timers: by deadline and then place.
use Rattle.std.proofs.Common.{◌≡◌, ◌<◌, ◌≤◌, true, false, ◌&&◌, eqb, ltb, sym, ◌∙◌, arith, inl, inr, ◌⊎◌}
use Rattle.std.proofs.lemmas.Bool.{and_from, and_parts, cases_lt, eq-eqb, eqb-true, false≢true, false_from_ne_true, lt-ltb, ltb-true, or_cases, or_left, or_right}
use Rattle.cy_timers.specs.declared.timers.Timer.{Timer}
use Rattle.cy_timers.specs.Due.{is_before}

abbrev pub Before : Timer → Timer → Type 0
Before a b = (a.deadline < b.deadline) ⊎ ((a.deadline ≡ b.deadline) × (a.place < b.place))

pub Before-from_test : (a b : Timer) → is_before a b ≡ true → Before a b
Before-from_test a b h = first (or_cases (ltb a.deadline b.deadline) (eqb a.deadline b.deadline && ltb a.place b.place) h)
  where
    first : (ltb a.deadline b.deadline ≡ true) ⊎ ((eqb a.deadline b.deadline && ltb a.place b.place) ≡ true) → Before a b
    first (inl e) = inl (ltb-true a.deadline b.deadline e)
    first (inr e) =
        let parts = and_parts (eqb a.deadline b.deadline) (ltb a.place b.place) e in
        inr (eqb-true a.deadline b.deadline parts.0, ltb-true a.place b.place parts.1)

pub is_before-from : (a b : Timer) → Before a b → is_before a b ≡ true
is_before-from a b (inl h) = or_left (ltb a.deadline b.deadline) (eqb a.deadline b.deadline && ltb a.place b.place) (lt-ltb a.deadline b.deadline h)
is_before-from a b (inr h) =
    or_right (ltb a.deadline b.deadline) (eqb a.deadline b.deadline && ltb a.place b.place)
    (and_from (eqb a.deadline b.deadline) (ltb a.place b.place) (eq-eqb a.deadline b.deadline h.0) (lt-ltb a.place b.place h.1))

not_before : (a b : Timer) → (Before a b → ⊥) → is_before a b ≡ false
not_before a b never = false_from_ne_true (is_before a b) (λ e. never (Before-from_test a b e))

-- a timer that isn't before another: its deadline is no less, and where it is the same, its place is no less
pub record NotBefore (a b : Timer) : Type 0 where
  pub deadline : b.deadline ≤ a.deadline
  pub place : a.deadline ≡ b.deadline → b.place ≤ a.place

pub NotBefore-from_test : (a b : Timer) → is_before a b ≡ false → NotBefore a b
NotBefore-from_test a b h = record { deadline = not_less (cases_lt a.deadline b.deadline); place = λ e. not_less_place e (cases_lt a.place b.place) }
  where
    not_less : (a.deadline < b.deadline) ⊎ (b.deadline ≤ a.deadline) → b.deadline ≤ a.deadline
    not_less (inl less) = absurd (false≢true (sym h ∙ is_before-from a b (inl less)))
    not_less (inr more) = more

    not_less_place : a.deadline ≡ b.deadline → (a.place < b.place) ⊎ (b.place ≤ a.place) → b.place ≤ a.place
    not_less_place e (inl less) = absurd (false≢true (sym h ∙ is_before-from a b (inr (e, less))))
    not_less_place e (inr more) = more

pub before_itself : (t : Timer) → is_before t t ≡ false
before_itself t = not_before t t never
  where
    never : Before t t → ⊥
    never (inl h) = omega arith
    never (inr h) = omega (arith, h.1)

pub before_trans : (a b c : Timer) → is_before a b ≡ true → is_before b c ≡ true → is_before a c ≡ true
before_trans a b c h k = is_before-from a c (both (Before-from_test a b h) (Before-from_test b c k))
  where
    both : Before a b → Before b c → Before a c
    both (inl x) (inl y) = inl (omega arith)
    both (inl x) (inr y) = inl (omega (arith, y.0))
    both (inr x) (inl y) = inl (omega (arith, x.0))
    both (inr x) (inr y) = inr (x.0 ∙ y.0, omega (arith, x.1, y.1))

pub before_asym : (a b : Timer) → is_before a b ≡ true → is_before b a ≡ false
before_asym a b h = not_before b a (λ k. never (Before-from_test a b h) k)
  where
    never : Before a b → Before b a → ⊥
    never (inl x) (inl y) = omega arith
    never (inl x) (inr y) = omega (arith, y.0)
    never (inr x) (inl y) = omega (arith, x.0)
    never (inr x) (inr y) = omega (arith, x.1, y.1)

-- of two places one timer is before the other
pub before_other : (a b : Timer) → a.place < b.place → is_before b a ≡ false → is_before a b ≡ true
before_other a b places h = let n = NotBefore-from_test b a h in is_before-from a b (by_deadline (cases_lt a.deadline b.deadline) n.deadline)
  where
    by_deadline : (a.deadline < b.deadline) ⊎ (b.deadline ≤ a.deadline) → a.deadline ≤ b.deadline → Before a b
    by_deadline (inl less) more = inl less
    by_deadline (inr same) more = inr (omega arith, places)

-- what isn't after a timer is before what the timer is before
pub before_through : (a b f : Timer) → is_before f a ≡ true → is_before f b ≡ false → is_before b a ≡ true
before_through a b f h k = let n = NotBefore-from_test f b k in is_before-from b a (through (Before-from_test f a h) n.deadline n.place)
  where
    through : Before f a → b.deadline ≤ f.deadline → (f.deadline ≡ b.deadline → b.place ≤ f.place) → Before b a
    through (inl x) later same = inl (omega arith)
    through (inr x) later same = by_deadline (cases_lt b.deadline f.deadline)
      where
        by_deadline : (b.deadline < f.deadline) ⊎ (f.deadline ≤ b.deadline) → Before b a
        by_deadline (inl less) = inl (omega (arith, x.0))
        by_deadline (inr more) = let e : f.deadline ≡ b.deadline = omega arith in inr (sym e ∙ x.0, omega (arith, same e, x.1))
