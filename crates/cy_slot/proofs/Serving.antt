-- Over every list of calls a slot serves its tenants one after another, each in his time.
use Rattle.std.proofs.Common.{◌≡◌, ℕ, ◌<◌, Bool, true, false, not, ◌&&◌, cond, eqb, List, [], ◌∷◌, Option, Some, None, is_some, refl, ap, sym, ◌∙◌, subst, arith, inl, inr, ◌⊎◌}
use Rattle.std.proofs.lemmas.Bool.{cases_order, eq-eqb, eqb-true, ne_eqb, false≢true}
use Rattle.cy_event.specs.declared.limits.Limits.{Limits}
use Rattle.cy_proc.specs.declared.processor.Stage.{Stage}
use Rattle.cy_proc.specs.declared.processor.Stage.TheVariants as stage
use Rattle.cy_proc.specs.Processors.{is_free_at, is_open_at, is_over_at}
use Rattle.cy_slot.specs.declared.conn.Conn.{Conn}
use Rattle.cy_slot.specs.declared.slot.TheConstants.{GREATEST_TENANCY}
use Rattle.cy_slot.specs.Slots.{SlotParts, fresh_slot, released}
use Rattle.cy_slot.specs.Reaching.{bound_at, has_head_due, may_open, reaches, tenant_after, who_is}
use Rattle.cy_slot.specs.Runs.{Affects, AreInPlace, Effect, IsUse, SlotServesItsTenants, Turn, goes_on, ends, had_bind, had_end, had_open, has_effect, is_ending, is_live, nothing, tenancy_after, was_bound, was_opened, was_released, was_stepped}
use Rattle.cy_slot.proofs.Histories.{History, at_first, moved, when_bound, when_idle_open, when_idle_step, when_opened, when_released, when_stepped}

-- ---- stages and effects

open_is : (g : Stage) → is_open_at g ≡ (not (is_free_at g) && not (is_over_at g))
open_is stage.Free = refl
open_is stage.Owed = refl
open_is stage.Serving = refl
open_is stage.Over = refl
open_is stage.Refused = refl

not_free_if_open : (g : Stage) → is_open_at g ≡ true → is_free_at g ≡ false
not_free_if_open stage.Free o = absurd (false≢true o)
not_free_if_open stage.Owed o = refl
not_free_if_open stage.Serving o = refl
not_free_if_open stage.Over o = refl
not_free_if_open stage.Refused o = refl

not_over_if_open : (g : Stage) → is_open_at g ≡ true → is_over_at g ≡ false
not_over_if_open stage.Free o = refl
not_over_if_open stage.Owed o = refl
not_over_if_open stage.Serving o = refl
not_over_if_open stage.Over o = absurd (false≢true o)
not_over_if_open stage.Refused o = absurd (false≢true o)

not_over_if_free : (g : Stage) → is_free_at g ≡ true → is_over_at g ≡ false
not_over_if_free stage.Free f = refl
not_over_if_free stage.Owed f = refl
not_over_if_free stage.Serving f = refl
not_over_if_free stage.Over f = absurd (false≢true f)
not_over_if_free stage.Refused f = absurd (false≢true f)

not_free_if_over : (g : Stage) → is_over_at g ≡ true → is_free_at g ≡ false
not_free_if_over stage.Free o = absurd (false≢true o)
not_free_if_over stage.Owed o = refl
not_free_if_over stage.Serving o = refl
not_free_if_over stage.Over o = refl
not_free_if_over stage.Refused o = refl

effect_is : (may over : Bool) → has_effect (cond may (cond over ends goes_on) nothing) ≡ may
effect_is true true = refl
effect_is true false = refl
effect_is false over = refl

end_is : (over : Bool) → is_ending (cond over ends goes_on) ≡ over
end_is true = refl
end_is false = refl

three : (a b c : Bool) → (a && b && c) ≡ true → (a ≡ true) × (b ≡ true) × (c ≡ true)
three true true true e = (refl, refl, refl)
three true true false e = absurd (false≢true e)
three true false c e = absurd (false≢true e)
three false b c e = absurd (false≢true e)

amid : (a b c : Bool) → b ≡ false → (a && b && c) ≡ false
amid true b c e = ap (λ (d : Bool). d && c) e
amid false b c e = refl

-- where both are the same, only one of them is no life
no_life : (a b : Bool) → a ≡ b → (b && not a) ≡ false
no_life true b e = ap (λ (d : Bool). d && false) (sym e)
no_life false b e = ap (λ (d : Bool). d && true) (sym e)

-- ---- who sits there

some_kept : (o : Option Conn) → is_some (who_is o) ≡ is_some o
some_kept None = refl
some_kept (Some conn) = refl

same_some : (o p : Option Conn) → who_is o ≡ who_is p → is_some o ≡ is_some p
same_some o p same = sym (some_kept o) ∙ ap is_some same ∙ some_kept p

some_due : (limits : Limits) (o : Option Conn) → has_head_due limits o ≡ true → is_some o ≡ true
some_due limits None due = absurd (false≢true due)
some_due limits (Some conn) due = refl

-- ---- the calls

record Holds (first : ℕ) (turns : List Turn) (s : SlotParts) : Type 0 where
  pub began : s.first ≡ first
  pub tenancy : s.tenancy ≡ tenancy_after first turns
  pub empty : is_some s.tenant ≡ false → is_free_at s.processor.stage ≡ true
  pub history : History turns s.tenancy (is_some s.tenant) (is_free_at s.processor.stage) (is_over_at s.processor.stage)
  pub in_place : AreInPlace first turns

seated : (first : ℕ) (turns : List Turn) (s : SlotParts) → Holds first turns s → is_free_at s.processor.stage ≡ false → is_some s.tenant ≡ true
seated first turns s h not_free = by_seat (is_some s.tenant) refl
  where
    by_seat : (b : Bool) → is_some s.tenant ≡ b → is_some s.tenant ≡ true
    by_seat true e = e
    by_seat false e = absurd (false≢true (sym not_free ∙ h.empty e))

-- a step reaches exactly the tenant whose request is open
reaches_live : (first : ℕ) (turns : List Turn) (s : SlotParts) → Holds first turns s → (n : ℕ) → reaches n s ≡ is_live n turns
reaches_live first turns s h n = by_number (cases_order n s.tenancy)
  where
    of_tenant : (free over : Bool) → is_free_at s.processor.stage ≡ free → is_over_at s.processor.stage ≡ over → is_open_at s.processor.stage ≡ (not free && not over)
    of_tenant free over f o =
        open_is s.processor.stage ∙ ap (λ (b : Bool). not b && not (is_over_at s.processor.stage)) f ∙ ap (λ (b : Bool). not free && not b) o

    by_stage : (is_open : Bool) → is_open_at s.processor.stage ≡ is_open → (is_some s.tenant && eqb s.tenancy s.tenancy && is_open) ≡ is_open
    by_stage true e =
        ap (λ (b : Bool). b && eqb s.tenancy s.tenancy && true) (seated first turns s h (not_free_if_open s.processor.stage e))
        ∙ ap (λ (b : Bool). b && true) (eq-eqb s.tenancy s.tenancy refl)
    by_stage false e = last_false (is_some s.tenant) (eqb s.tenancy s.tenancy)
      where
        last_false : (a b : Bool) → (a && b && false) ≡ false
        last_false true true = refl
        last_false true false = refl
        last_false false b = refl

    present : reaches s.tenancy s ≡ is_live s.tenancy turns
    present =
        by_stage (is_open_at s.processor.stage) refl
        ∙ open_is s.processor.stage
        ∙ ap (λ (b : Bool). b && not (is_over_at s.processor.stage)) (sym h.history.opening)
        ∙ ap (λ (b : Bool). had_open s.tenancy turns && not b) (sym h.history.end)

    elsewhere : (n ≡ s.tenancy → ⊥) → is_live n turns ≡ false → reaches n s ≡ is_live n turns
    elsewhere other dead =
        amid (is_some s.tenant) (eqb s.tenancy n) (is_open_at s.processor.stage) (ne_eqb s.tenancy n (λ e. other (sym e)))
        ∙ sym dead

    by_number : (n ≡ s.tenancy) ⊎ ((n < s.tenancy) ⊎ (s.tenancy < n)) → reaches n s ≡ is_live n turns
    by_number (inl e) = subst (λ (k : ℕ). reaches k s ≡ is_live k turns) (sym e) present
    by_number (inr (inl under)) =
        elsewhere (λ e. omega (arith, e, under)) (no_life (had_end n turns) (had_open n turns) (h.history.former n under))
    by_number (inr (inr past)) =
        elsewhere (λ e. omega (arith, e, past)) (ap (λ (b : Bool). b && not (had_end n turns)) (h.history.later_open n past))

when_fresh : (limits : Limits) (first : ℕ) → Holds first [] (fresh_slot limits first)
when_fresh limits first = record {
  began = refl;
  tenancy = omega arith;
  empty = λ none. refl;
  history = at_first first;
  in_place = tt;
}

-- the slot's own tenant stands apart, so that the cases compute
on_bind : (first : ℕ) (before : List Turn) (conn : Conn) (s : SlotParts) (o : Option Conn) (worn : Bool) → Holds first before (record s { tenant = o }) → Holds first (was_bound conn (bound_at o worn s.tenancy conn) ∷ before) (record s { tenant = tenant_after o worn conn })
on_bind first before conn s (Some other) worn h = record {
  began = h.began;
  tenancy = h.tenancy;
  empty = h.empty;
  history = record {
    bind = h.history.bind;
    opening = h.history.opening;
    end = h.history.end;
    later_bind = h.history.later_bind;
    later_open = h.history.later_open;
    later_end = h.history.later_end;
    former = h.history.former;
  };
  in_place = (tt, h.in_place);
}
on_bind first before conn s None true h = record {
  began = h.began;
  tenancy = h.tenancy;
  empty = h.empty;
  history = record {
    bind = h.history.bind;
    opening = h.history.opening;
    end = h.history.end;
    later_bind = h.history.later_bind;
    later_open = h.history.later_open;
    later_end = h.history.later_end;
    former = h.history.former;
  };
  in_place = (tt, h.in_place);
}
on_bind first before conn s None false h = record {
  began = h.began;
  tenancy = h.tenancy;
  empty = λ none. h.empty refl;
  history = when_bound before s.tenancy conn (is_free_at s.processor.stage) (is_over_at s.processor.stage) h.history;
  in_place = ((h.tenancy, h.history.bind), h.in_place);
}

-- a call for a tenant that may have no effect
on_idle_open : (first : ℕ) (before : List Turn) (m : ℕ) (s : SlotParts) → Holds first before s → Holds first (was_opened m nothing ∷ before) s
on_idle_open first before m s h = record {
  began = h.began;
  tenancy = h.tenancy;
  empty = h.empty;
  history = when_idle_open before s.tenancy m (is_some s.tenant) (is_free_at s.processor.stage) (is_over_at s.processor.stage) h.history;
  in_place = (λ took. absurd (false≢true took), h.in_place);
}

on_idle_step : (first : ℕ) (before : List Turn) (m : ℕ) (s : SlotParts) → reaches m s ≡ false → Holds first before s → Holds first (was_stepped m nothing ∷ before) s
on_idle_step first before m s none h = record {
  began = h.began;
  tenancy = h.tenancy;
  empty = h.empty;
  history = when_idle_step before s.tenancy m (is_some s.tenant) (is_free_at s.processor.stage) (is_over_at s.processor.stage) h.history;
  in_place = ((sym none ∙ reaches_live first before s h m, λ took. absurd (false≢true took)), h.in_place);
}

on_opened : (first : ℕ) (before : List Turn) (m : ℕ) (e : Effect) (old new : SlotParts) → may_open m old ≡ true → Affects true e old new → Holds first before old → Holds first (was_opened m e ∷ before) new
on_opened first before m e old new may a h = record {
  began = a.first ∙ h.began;
  tenancy = a.tenancy ∙ h.tenancy;
  empty = λ none. absurd (false≢true (sym none ∙ some));
  history =
      subst (λ (n : ℕ). History (was_opened n e ∷ before) new.tenancy (is_some new.tenant) (is_free_at new.processor.stage) (is_over_at new.processor.stage)) for_him
      (moved (was_opened old.tenancy e ∷ before) old.tenancy new.tenancy true false (is_ending e) (is_some new.tenant) (is_free_at new.processor.stage) (is_over_at new.processor.stage)
      a.tenancy some (a.opened refl) over
      (when_opened before old.tenancy e took
      (moved before old.tenancy old.tenancy (is_some old.tenant) (is_free_at old.processor.stage) (is_over_at old.processor.stage) true true false refl
      (sym was_some) (sym parts.1) (sym (not_over_if_free old.processor.stage parts.1)) h.history)));
  in_place = (
    λ any. (
      sym for_him ∙ h.tenancy,
      ap (λ (n : ℕ). had_bind n before) (sym for_him) ∙ h.history.bind ∙ was_some,
      ap (λ (n : ℕ). had_open n before) (sym for_him) ∙ h.history.opening ∙ ap not parts.1,
    ),
    h.in_place,
  );
}
  where
    parts : (eqb old.tenancy m ≡ true) × (is_free_at old.processor.stage ≡ true) × (has_head_due old.processor.limits old.tenant ≡ true)
    parts = three (eqb old.tenancy m) (is_free_at old.processor.stage) (has_head_due old.processor.limits old.tenant) may

    for_him : old.tenancy ≡ m
    for_him = eqb-true old.tenancy m parts.0

    was_some : is_some old.tenant ≡ true
    was_some = some_due old.processor.limits old.tenant parts.2

    some : is_some new.tenant ≡ true
    some = same_some new.tenant old.tenant a.who ∙ was_some

    took : has_effect e ≡ true
    took = ap has_effect a.effect ∙ effect_is true (is_over_at new.processor.stage)

    over : is_over_at new.processor.stage ≡ is_ending e
    over = sym (ap is_ending a.effect ∙ end_is (is_over_at new.processor.stage))

on_stepped : (first : ℕ) (before : List Turn) (m : ℕ) (e : Effect) (old new : SlotParts) → reaches m old ≡ true → Affects true e old new → Holds first before old → Holds first (was_stepped m e ∷ before) new
on_stepped first before m e old new may a h = record {
  began = a.first ∙ h.began;
  tenancy = a.tenancy ∙ h.tenancy;
  empty = λ none. absurd (false≢true (sym none ∙ some));
  history =
      subst (λ (n : ℕ). History (was_stepped n e ∷ before) new.tenancy (is_some new.tenant) (is_free_at new.processor.stage) (is_over_at new.processor.stage)) for_him
      (moved (was_stepped old.tenancy e ∷ before) old.tenancy new.tenancy true false (is_ending e) (is_some new.tenant) (is_free_at new.processor.stage) (is_over_at new.processor.stage)
      a.tenancy some (a.opened refl) over
      (when_stepped before old.tenancy e
      (moved before old.tenancy old.tenancy (is_some old.tenant) (is_free_at old.processor.stage) (is_over_at old.processor.stage) true false false refl
      (sym parts.0) (sym (not_free_if_open old.processor.stage parts.2)) (sym (not_over_if_open old.processor.stage parts.2)) h.history)));
  in_place = ((took ∙ sym may ∙ reaches_live first before old h m, λ any. sym for_him ∙ h.tenancy), h.in_place);
}
  where
    parts : (is_some old.tenant ≡ true) × (eqb old.tenancy m ≡ true) × (is_open_at old.processor.stage ≡ true)
    parts = three (is_some old.tenant) (eqb old.tenancy m) (is_open_at old.processor.stage) may

    for_him : old.tenancy ≡ m
    for_him = eqb-true old.tenancy m parts.1

    some : is_some new.tenant ≡ true
    some = same_some new.tenant old.tenant a.who ∙ parts.0

    took : has_effect e ≡ true
    took = ap has_effect a.effect ∙ effect_is true (is_over_at new.processor.stage)

    over : is_over_at new.processor.stage ≡ is_ending e
    over = sym (ap is_ending a.effect ∙ end_is (is_over_at new.processor.stage))

on_released : (first : ℕ) (before : List Turn) (old : SlotParts) → is_over_at old.processor.stage ≡ true → Holds first before old → Holds first (was_released ∷ before) (released old)
on_released first before old over h = record {
  began = h.began;
  tenancy = (let e = h.tenancy in omega (arith, e));
  empty = λ none. refl;
  history =
      when_released before old.tenancy (is_some old.tenant)
      (moved before old.tenancy old.tenancy (is_some old.tenant) (is_free_at old.processor.stage) (is_over_at old.processor.stage) (is_some old.tenant) false true refl
      refl (sym (not_free_if_over old.processor.stage over)) (sym over) h.history);
  in_place = (ap (λ (n : ℕ). had_end n before) (sym h.tenancy) ∙ h.history.end ∙ over, h.in_place);
}

-- ---- a call, by whether it may take effect

on_open : (first : ℕ) (before : List Turn) (m : ℕ) (e : Effect) (old new : SlotParts) (may : Bool) → may_open m old ≡ may → Affects may e old new → Holds first before old → Holds first (was_opened m e ∷ before) new
on_open first before m e old new true may a h = on_opened first before m e old new may a h
on_open first before m e old new false may a h =
    subst (λ (f : Effect). Holds first (was_opened m f ∷ before) new) (sym a.effect)
    (subst (Holds first (was_opened m nothing ∷ before)) (sym (a.others refl)) (on_idle_open first before m old h))

on_step : (first : ℕ) (before : List Turn) (m : ℕ) (e : Effect) (old new : SlotParts) (may : Bool) → reaches m old ≡ may → Affects may e old new → Holds first before old → Holds first (was_stepped m e ∷ before) new
on_step first before m e old new true may a h = on_stepped first before m e old new may a h
on_step first before m e old new false may a h =
    subst (λ (f : Effect). Holds first (was_stepped m f ∷ before) new) (sym a.effect)
    (subst (Holds first (was_stepped m nothing ∷ before)) (sym (a.others refl)) (on_idle_step first before m old may h))

along : (limits : Limits) (first : ℕ) (turns : List Turn) (slot : SlotParts) → IsUse limits first turns slot → Holds first turns slot
along limits first [] slot run = subst (Holds first []) (sym run) (when_fresh limits first)
along limits first (was_bound conn answer ∷ before) slot run =
    subst (λ a. Holds first (was_bound conn a ∷ before) slot) (sym run.2.0)
    (subst (Holds first (was_bound conn (bound_at run.0.tenant (eqb run.0.tenancy GREATEST_TENANCY) run.0.tenancy conn) ∷ before)) (sym run.2.1)
    (on_bind first before conn run.0 run.0.tenant (eqb run.0.tenancy GREATEST_TENANCY) (along limits first before run.0 run.1)))
along limits first (was_opened m e ∷ before) slot run =
    on_open first before m e run.0 slot (may_open m run.0) refl run.2 (along limits first before run.0 run.1)
along limits first (was_stepped m e ∷ before) slot run =
    on_step first before m e run.0 slot (reaches m run.0) refl run.2 (along limits first before run.0 run.1)
along limits first (was_released ∷ before) slot run =
    subst (Holds first (was_released ∷ before)) (sym run.2.1)
    (on_released first before run.0 run.2.0 (along limits first before run.0 run.1))

pub slot_serves : SlotServesItsTenants
slot_serves limits first turns slot run =
    let h = along limits first turns slot run in
    record { in_place = h.in_place; tenancy = h.tenancy; began = h.began }
