-- What was done for each tenant, by the number of the present one and by how far his request has come.
use Rattle.std.proofs.Common.{◌≡◌, ℕ, ◌+◌, ◌<◌, ◌≤◌, Bool, true, false, not, ◌&&◌, ◌||◌, eqb, List, [], ◌∷◌, refl, ap, sym, ◌∙◌, arith, inl, inr, ◌⊎◌}
use Rattle.std.proofs.lemmas.Bool.{cases_lt, eq-eqb, ne_eqb, or_from}
use Rattle.cy_slot.specs.declared.conn.Conn.{Conn}
use Rattle.cy_slot.specs.declared.slot.Bound.TheVariants as bound
use Rattle.cy_slot.specs.Runs.{Effect, Turn, had_bind, had_end, had_open, has_effect, is_ending, nothing, was_bound, was_opened, was_released, was_stepped}

-- The tenant of number t is bound or not; no head of his was opened, or his request is over, or neither. Those before
-- him are done with, and nothing was done for later ones.
pub record History (turns : List Turn) (t : ℕ) (is_bound is_free is_over : Bool) : Type 0 where
  pub bind : had_bind t turns ≡ is_bound
  pub opening : had_open t turns ≡ not is_free
  pub end : had_end t turns ≡ is_over
  pub later_bind : (n : ℕ) → t < n → had_bind n turns ≡ false
  pub later_open : (n : ℕ) → t < n → had_open n turns ≡ false
  pub later_end : (n : ℕ) → t < n → had_end n turns ≡ false
  pub former : (n : ℕ) → n < t → had_end n turns ≡ had_open n turns

pub moved : (turns : List Turn) (t u : ℕ) (a b c d e f : Bool) → u ≡ t → d ≡ a → e ≡ b → f ≡ c → History turns t a b c → History turns u d e f
moved turns t u a b c d e f same_t same_a same_b same_c h = record {
  bind = ap (λ (n : ℕ). had_bind n turns) same_t ∙ h.bind ∙ sym same_a;
  opening = ap (λ (n : ℕ). had_open n turns) same_t ∙ h.opening ∙ ap not (sym same_b);
  end = ap (λ (n : ℕ). had_end n turns) same_t ∙ h.end ∙ sym same_c;
  later_bind = λ n past. h.later_bind n (omega (arith, same_t, past));
  later_open = λ n past. h.later_open n (omega (arith, same_t, past));
  later_end = λ n past. h.later_end n (omega (arith, same_t, past));
  former = λ n under. h.former n (omega (arith, same_t, under));
}

pub at_first : (first : ℕ) → History [] first false true false
at_first first = record {
  bind = refl;
  opening = refl;
  end = refl;
  later_bind = λ n past. refl;
  later_open = λ n past. refl;
  later_end = λ n past. refl;
  former = λ n under. refl;
}

-- ---- a connection is bound

pub when_bound : (before : List Turn) (t : ℕ) (conn : Conn) (f o : Bool) → History before t false f o → History (was_bound conn (bound.Bound t) ∷ before) t true f o
when_bound before t conn f o h = record {
  bind = ap (λ (b : Bool). b || had_bind t before) (eq-eqb t t refl);
  opening = h.opening;
  end = h.end;
  later_bind = λ n past. or_from (eqb t n) (had_bind n before) (ne_eqb t n (λ e. omega (arith, e, past))) (h.later_bind n past);
  later_open = h.later_open;
  later_end = h.later_end;
  former = h.former;
}

-- ---- a call for a tenant

-- it did nothing
pub when_idle_open : (before : List Turn) (t m : ℕ) (a f o : Bool) → History before t a f o → History (was_opened m nothing ∷ before) t a f o
when_idle_open before t m a f o h = record {
  bind = h.bind;
  opening = h.opening;
  end = h.end;
  later_bind = h.later_bind;
  later_open = h.later_open;
  later_end = h.later_end;
  former = h.former;
}

pub when_idle_step : (before : List Turn) (t m : ℕ) (a f o : Bool) → History before t a f o → History (was_stepped m nothing ∷ before) t a f o
when_idle_step before t m a f o h = record {
  bind = h.bind;
  opening = h.opening;
  end = h.end;
  later_bind = h.later_bind;
  later_open = h.later_open;
  later_end = h.later_end;
  former = h.former;
}

-- of another tenant nothing is told
of_other : (a b x : Bool) → b ≡ false → ((a && b) || x) ≡ x
of_other true b x e = ap (λ (c : Bool). c || x) e
of_other false b x e = refl

-- of this one all is
of_this : (a b x : Bool) → b ≡ true → x ≡ false → ((a && b) || x) ≡ a
of_this true b x e none = ap (λ (c : Bool). c || x) e
of_this false b x e none = none

past_other : (t n : ℕ) → t < n → eqb t n ≡ false
past_other t n past = ne_eqb t n (λ e. omega (arith, e, past))

under_other : (t n : ℕ) → n < t → eqb t n ≡ false
under_other t n under = ne_eqb t n (λ e. omega (arith, e, under))

-- `open` took effect
pub when_opened : (before : List Turn) (t : ℕ) (e : Effect) → has_effect e ≡ true → History before t true true false → History (was_opened t e ∷ before) t true false (is_ending e)
when_opened before t e took h = record {
  bind = h.bind;
  opening = of_this (has_effect e) (eqb t t) (had_open t before) (eq-eqb t t refl) h.opening ∙ took;
  end = of_this (is_ending e) (eqb t t) (had_end t before) (eq-eqb t t refl) h.end;
  later_bind = h.later_bind;
  later_open = λ n past. of_other (has_effect e) (eqb t n) (had_open n before) (past_other t n past) ∙ h.later_open n past;
  later_end = λ n past. of_other (is_ending e) (eqb t n) (had_end n before) (past_other t n past) ∙ h.later_end n past;
  former = λ n under.
      of_other (is_ending e) (eqb t n) (had_end n before) (under_other t n under)
      ∙ h.former n under
      ∙ sym (of_other (has_effect e) (eqb t n) (had_open n before) (under_other t n under));
}

-- another step did
pub when_stepped : (before : List Turn) (t : ℕ) (e : Effect) → History before t true false false → History (was_stepped t e ∷ before) t true false (is_ending e)
when_stepped before t e h = record {
  bind = h.bind;
  opening = h.opening;
  end = of_this (is_ending e) (eqb t t) (had_end t before) (eq-eqb t t refl) h.end;
  later_bind = h.later_bind;
  later_open = h.later_open;
  later_end = λ n past. of_other (is_ending e) (eqb t n) (had_end n before) (past_other t n past) ∙ h.later_end n past;
  former = λ n under. of_other (is_ending e) (eqb t n) (had_end n before) (under_other t n under) ∙ h.former n under;
}

-- ---- the slot is released

pub when_released : (before : List Turn) (t : ℕ) (a : Bool) → History before t a false true → History (was_released ∷ before) (t + 1) false true false
when_released before t a h = record {
  bind = h.later_bind (t + 1) (omega arith);
  opening = h.later_open (t + 1) (omega arith);
  end = h.later_end (t + 1) (omega arith);
  later_bind = λ n past. h.later_bind n (omega (arith, past));
  later_open = λ n past. h.later_open n (omega (arith, past));
  later_end = λ n past. h.later_end n (omega (arith, past));
  former = λ n under. by_number n under (cases_lt n t);
}
  where
    by_number : (n : ℕ) → n < t + 1 → (n < t) ⊎ (t ≤ n) → had_end n before ≡ had_open n before
    by_number n under (inl less) = h.former n less
    by_number n under (inr most) =
        let e : n ≡ t = omega (arith, under, most) in
        ap (λ (k : ℕ). had_end k before) e ∙ h.end ∙ sym h.opening ∙ ap (λ (k : ℕ). had_open k before) (sym e)
