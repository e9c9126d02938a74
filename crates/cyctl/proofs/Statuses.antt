-- A script of the form is replayed, unless something failed or memory ran out.
use Rattle.std.proofs.Common.{◌≡◌, ℕ, ◌<◌, ◌≤◌, ◌⊎◌, inl, inr, List, ◌++◌, length, Option, Some, None, is_some, true, sym, ap, ◌∙◌, subst, arith, length-append}
use Rattle.std.specs.Io.KnownBytes.{Consumes}
use Rattle.std.proofs.lemmas.List.{append-nil}
use Rattle.cyctl.specs.declared.input.TheConstants.{GREATEST_INPUT}
use Rattle.cyctl.specs.Causes.{ReadsAll, WasRead}
use Rattle.cyctl.specs.Tool.{HasNotRisen, IsInForm, IsOutside, IsReplayStatus, report_of}
use Rattle.cyctl.specs.declared.tool.Refusal.TheVariants.{Source, TooLarge, Script, NoMemory}
use Rattle.cy_link.specs.Causes.{Rose}

-- what was read of known bytes is no longer than they are
pub consumed_within : (input bytes : List ℕ) (now : Option (List ℕ)) → Consumes (Some input) now bytes → length bytes ≤ length input
consumed_within input bytes None c = absurd c
consumed_within input bytes (Some rest) c = omega (arith, ap length c, length-append bytes rest)

-- known bytes that were read to their end are what was read
pub all_consumed : (input bytes : List ℕ) (now : Option (List ℕ)) → ReadsAll (Some input) now bytes → bytes ≡ input
all_consumed input bytes None r = absurd r.0
all_consumed input bytes (Some rest) r = sym (r.0 ∙ ap (λ (u : List ℕ). bytes ++ u) r.1 ∙ append-nil bytes)

-- what is in the form is not outside it
not_outside : (left now : Option (List ℕ)) → IsInForm left → IsOutside left now → ⊥
not_outside left now f o =
    let reads = subst (λ (l : Option (List ℕ)). ReadsAll l now o.0) f.left_is o.1 in
    let same = all_consumed f.input o.0 now reads in
    let none : report_of f.input ≡ None = ap report_of (sym same) ∙ o.2 in
    let some : is_some (report_of f.input) ≡ true = f.form in
    let clash = sym (ap is_some none) ∙ some in
    cc

-- what is small enough is not too large
not_too_large : (left now : Option (List ℕ)) → IsInForm left → WasRead (λ n. GREATEST_INPUT < n) left now → ⊥
not_too_large left now f w =
    let reads = subst (λ (l : Option (List ℕ)). Consumes l now w.0) f.left_is w.1 in
    absurd (omega (arith, f.small, w.2, consumed_within f.input w.0 now reads))

-- the statuses that are left
pub completes : (left now : Option (List ℕ)) (s t k l status : ℕ) → IsReplayStatus status → (status ≡ 3 → IsOutside left now) → (status ≡ 4 → Rose s t) → (status ≡ 5 → Rose k l) → (status ≡ 7 → WasRead (λ n. GREATEST_INPUT < n) left now) → IsInForm left → HasNotRisen s t → HasNotRisen k l → (status ≡ 0) ⊎ (status ≡ 6)
completes left now s t k l status (inl zero) outside source sink large f source_calm sink_calm = inl zero
completes left now s t k l status (inr (inl five)) outside source sink large f source_calm sink_calm = absurd (sink_calm (sink five))
completes left now s t k l status (inr (inr (Source, e))) outside source sink large f source_calm sink_calm = absurd (source_calm (source e))
completes left now s t k l status (inr (inr (TooLarge, e))) outside source sink large f source_calm sink_calm = absurd (not_too_large left now f (large e))
completes left now s t k l status (inr (inr (Script, e))) outside source sink large f source_calm sink_calm = absurd (not_outside left now f (outside e))
completes left now s t k l status (inr (inr (NoMemory, e))) outside source sink large f source_calm sink_calm = inr e
