-- Settings are told, unless something failed or memory ran out.
use Rattle.std.proofs.Common.{◌≡◌, ℕ, ◌<◌, ◌⊎◌, inl, inr, List, Option, Some, Result, Ok, Err, sym, ap, ◌∙◌, subst, arith}
use Rattle.std.specs.Io.KnownBytes.{Consumes}
use Rattle.cy_link.specs.Causes.{Rose}
use Rattle.cy_config.specs.declared.fault.SetFault.{SetFault}
use Rattle.cy_config.specs.Meaning.{Values, outcome}
use Rattle.cy_config.specs.Texts.{Means}
use Rattle.cyctl.specs.declared.input.TheConstants.{GREATEST_INPUT}
use Rattle.cyctl.specs.Causes.{ReadsAll, WasRead}
use Rattle.cyctl.specs.Check.{AreInForm, IsCheckStatus, IsRefused}
use Rattle.cyctl.specs.Tool.{HasNotRisen}
use Rattle.cyctl.proofs.Statuses.{all_consumed, consumed_within}

some_same : {A : Type 0} (x y : A) → Some x ≡ Some y → x ≡ y
some_same x y h = cc

-- a text means one thing
means_once : (text : List ℕ) (one other : Result Values SetFault) → Means text one → Means text other → one ≡ other
means_once text one other (inl p) (inl q) =
    p.2 ∙ ap outcome (some_same p.0 q.0 (sym p.1.parsed ∙ q.1.parsed)) ∙ sym q.2
means_once text one other (inl p) (inr q) = absurd (q.0 p.0 p.1)
means_once text one other (inr p) (inl q) = absurd (p.0 q.0 q.1)
means_once text one other (inr p) (inr q) = p.1 ∙ sym q.1

-- what is in the form is not refused
not_refused : (left now held holds : Option (List ℕ)) (k l : ℕ) → AreInForm left → IsRefused left now held holds k l → ⊥
not_refused left now held holds k l f r =
    let reads = subst (λ (o : Option (List ℕ)). ReadsAll o now r.input) f.left_is r.read in
    let same : r.input ≡ f.input = all_consumed f.input r.input now reads in
    let told : Means f.input (Err r.tells.fault) = subst (λ (t : List ℕ). Means t (Err r.tells.fault)) same r.tells.means in
    let clash : Ok f.values ≡ Err r.tells.fault = means_once f.input (Ok f.values) (Err r.tells.fault) f.means told in
    absurd cc

-- what is small enough is not too large
not_oversized : (left now : Option (List ℕ)) → AreInForm left → WasRead (λ n. GREATEST_INPUT < n) left now → ⊥
not_oversized left now f w =
    let reads = subst (λ (l : Option (List ℕ)). Consumes l now w.0) f.left_is w.1 in
    absurd (omega (arith, f.small, w.2, consumed_within f.input w.0 now reads))

-- the statuses that are left
pub check_completes : (left now held holds : Option (List ℕ)) (s t k l status : ℕ) → IsCheckStatus status → (status ≡ 3 → IsRefused left now held holds k l) → (status ≡ 4 → Rose s t) → (status ≡ 5 → Rose k l)
    → (status ≡ 7 → WasRead (λ n. GREATEST_INPUT < n) left now) → AreInForm left → HasNotRisen s t → HasNotRisen k l → (status ≡ 0) ⊎ (status ≡ 6)
check_completes left now held holds s t k l status (inl zero) refused source sink large f calm still = inl zero
check_completes left now held holds s t k l status (inr (inl three)) refused source sink large f calm still = absurd (not_refused left now held holds k l f (refused three))
check_completes left now held holds s t k l status (inr (inr (inl four))) refused source sink large f calm still = absurd (calm (source four))
check_completes left now held holds s t k l status (inr (inr (inr (inl five)))) refused source sink large f calm still = absurd (still (sink five))
check_completes left now held holds s t k l status (inr (inr (inr (inr (inl six))))) refused source sink large f calm still = inr six
check_completes left now held holds s t k l status (inr (inr (inr (inr (inr seven))))) refused source sink large f calm still = absurd (not_oversized left now f (large seven))
