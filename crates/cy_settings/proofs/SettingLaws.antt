-- The ranges of settings, and the number of components.
use Rattle.std.proofs.Common.{◌≡◌, ◌≢◌, ℕ, zero, suc, ◌+◌, ◌<◌, ◌≤◌, ◌↔◌, ◌⊎◌, inl, inr, max, Bool, true, false, ◌&&◌, eqb, leb, length, List, [], ◌∷◌, refl, ap, arith}
use Rattle.std.specs.Prelude.{All, Any, fold, pos, negsuc}
use Rattle.std.proofs.lemmas.Bool.{and_parts, cases_lt, leb-true, le-leb}
use Rattle.std.proofs.lemmas.Bool.Decides.{nat_tests}
use Rattle.std.proofs.lemmas.List.Elements.{All-cons, All-nil}
use Rattle.cy_map.specs.declared.rule.Rule.{Rule}
use Rattle.cy_settings.specs.declared.limit.Limit.TheVariants.{MaxConnections, MaxHttpHeaderSize, MaxHeaderCount, MaxKeepAliveRequests, ConnectionTimeout, AsyncTimeout, MaxSwallowSize, MaxTrailerSize}
use Rattle.cy_settings.specs.declared.setting.Setting.{Setting}
use Rattle.cy_settings.specs.declared.setting.Setting.TheVariants.{Limit as OfLimit, MinSpareThreads, MaxThreads, Port}
use Rattle.cy_settings.specs.Laws.{CountsParts, MinusOneIsNoLimit, NumbersAreInRange}
use Rattle.cy_settings.specs.Rules.{parts_of}
use Rattle.cy_settings.specs.Settings.{can_be, default_of, greatest_of, least_of}

pub numbers_are_in_range : NumbersAreInRange
numbers_are_in_range setting n = (
  λ h. let parts = and_parts (leb (least_of setting) n) (leb n (greatest_of setting)) h in (leb-true _ _ parts.0, leb-true _ _ parts.1),
  λ h. rw (le-leb _ _ h.0, le-leb _ _ h.1) refl,
)

never : (setting : Setting) (n : ℕ) → can_be setting (negsuc n) ≡ false → (setting ≡ OfLimit MaxKeepAliveRequests → ⊥)
    → (can_be setting (negsuc n) ≡ true) ↔ ((setting ≡ OfLimit MaxKeepAliveRequests) × (n ≡ 0))
never setting n refused other = (λ h. absurd cc, λ h. absurd (other h.0))

not_zero : (n : ℕ) → eqb (suc n) 0 ≡ true → ⊥
not_zero n h =
    let same : suc n ≡ 0 = grind (arith, nat_tests, h) in
    absurd (omega arith)

pub minus_one_is_no_limit : MinusOneIsNoLimit
minus_one_is_no_limit (OfLimit MaxKeepAliveRequests) zero = (λ h. (refl, refl), λ h. refl)
minus_one_is_no_limit (OfLimit MaxKeepAliveRequests) (suc n) = (λ h. absurd (not_zero n h), λ h. absurd (omega (arith, h.1)))
minus_one_is_no_limit (OfLimit MaxConnections) n = never _ n refl (λ h. absurd cc)
minus_one_is_no_limit (OfLimit MaxHttpHeaderSize) n = never _ n refl (λ h. absurd cc)
minus_one_is_no_limit (OfLimit MaxHeaderCount) n = never _ n refl (λ h. absurd cc)
minus_one_is_no_limit (OfLimit ConnectionTimeout) n = never _ n refl (λ h. absurd cc)
minus_one_is_no_limit (OfLimit AsyncTimeout) n = never _ n refl (λ h. absurd cc)
minus_one_is_no_limit (OfLimit MaxSwallowSize) n = never _ n refl (λ h. absurd cc)
minus_one_is_no_limit (OfLimit MaxTrailerSize) n = never _ n refl (λ h. absurd cc)
minus_one_is_no_limit MinSpareThreads n = never _ n refl (λ h. absurd cc)
minus_one_is_no_limit MaxThreads n = never _ n refl (λ h. absurd cc)
minus_one_is_no_limit Port n = never _ n refl (λ h. absurd cc)

pub defaults_are_in_range : (setting : Setting) → can_be setting (pos (default_of setting)) ≡ true
defaults_are_in_range (OfLimit MaxConnections) = refl
defaults_are_in_range (OfLimit MaxHttpHeaderSize) = refl
defaults_are_in_range (OfLimit MaxHeaderCount) = refl
defaults_are_in_range (OfLimit MaxKeepAliveRequests) = refl
defaults_are_in_range (OfLimit ConnectionTimeout) = refl
defaults_are_in_range (OfLimit AsyncTimeout) = refl
defaults_are_in_range (OfLimit MaxSwallowSize) = refl
defaults_are_in_range (OfLimit MaxTrailerSize) = refl
defaults_are_in_range MinSpareThreads = refl
defaults_are_in_range MaxThreads = refl
defaults_are_in_range Port = refl

-- ---- components

-- the components so far, and those of further rules
abbrev parts_from : ℕ → List Rule → ℕ
parts_from parts rules = fold (λ n rule. max n (rule.part + 1)) parts rules

no_fewer : (parts : ℕ) (rules : List Rule) → parts ≤ parts_from parts rules
no_fewer parts [] = omega arith
no_fewer parts (rule ∷ rules) = let more = no_fewer (max parts (rule.part + 1)) rules in omega arith

all_below : (parts bound : ℕ) (rules : List Rule) → parts_from parts rules ≤ bound → All (λ rule. rule.part < bound) rules
all_below parts bound [] h = All-nil _
all_below parts bound (rule ∷ rules) h =
    let more = no_fewer (max parts (rule.part + 1)) rules in
    All-cons (λ (r : Rule). r.part < bound) rule rules (omega arith) (all_below (max parts (rule.part + 1)) bound rules h)

abbrev is_last : ℕ → Rule → Type 0
is_last bound rule = rule.part + 1 ≡ bound

-- so far there were as many, or one of the further rules has the last
last_of : (parts bound : ℕ) (rules : List Rule) → parts_from parts rules ≡ bound → (parts ≡ bound) ⊎ Any (is_last bound) rules
last_of parts bound [] h = inl h
last_of parts bound (rule ∷ rules) h =
    elim (last_of (max parts (rule.part + 1)) bound rules h) [
      | inl all ↦ elim (cases_lt parts (rule.part + 1)) [
        | inl less ↦ inr (0, rule, omega arith, refl, omega arith)
        | inr more ↦ inl (omega arith)
      ]
      | inr found ↦ inr (suc found.0, found.1, omega (arith, found.2), found.3, found.4)
    ]

has_last : (rules : List Rule) → rules ≢ [] → Any (is_last (parts_of rules)) rules
has_last [] some = absurd (some refl)
has_last (rule ∷ rules) some =
    elim (last_of 0 (parts_of (rule ∷ rules)) (rule ∷ rules) refl) [
      | inl none ↦ let more = no_fewer (max 0 (rule.part + 1)) rules in absurd (omega arith)
      | inr found ↦ found
    ]

pub counts_parts : (rules : List Rule) → CountsParts rules
counts_parts rules = record {
  none = λ h. ap parts_of h;
  below = all_below 0 (parts_of rules) rules (omega arith);
  greatest = has_last rules;
}
