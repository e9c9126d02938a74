-- A step that leaves less to do each time comes to an end, and the bound of its repetition is not seen.
use Rattle.std.proofs.Common.{◌≡◌, ℕ, zero, suc, ◌<◌, ◌≤◌, Option, Some, None, option_map, refl, sym, ap, ◌∙◌, subst, arith}
use Rattle.cy_model.specs.Repeat.{until_none}

-- the step leaves less to do
abbrev pub Falls : {S : Type 0} → (S → ℕ) → (S → Option S) → Type 0
Falls {S} size f = (s r : S) → f s ≡ Some r → size r < size s

pub until_none-none : {S : Type 0} (f : S → Option S) (n : ℕ) (s : S) → f s ≡ None → until_none f n s ≡ s
until_none-none f zero s h = refl
until_none-none f (suc n) s h = rw (h, until_none) refl

pub until_none-some : {S : Type 0} (f : S → Option S) (n : ℕ) (s r : S) → f s ≡ Some r → until_none f (suc n) s ≡ until_none f n r
until_none-some f n s r h = rw (h, until_none) refl

-- nothing is left to do after as many steps as the size says
pub until_none-rests : {S : Type 0} (size : S → ℕ) (f : S → Option S) → Falls size f → (n : ℕ) (s : S) → size s ≤ n → f (until_none f n s) ≡ None
until_none-rests {S} size f falls zero s small =
    elim (f s) as (λ o. f s ≡ o → o ≡ None) [ None ↦ λ e. refl | Some r ↦ λ e. absurd (omega (arith, falls s r e)) ] refl
until_none-rests {S} size f falls (suc n) s small =
    elim (f s) as (λ o. f s ≡ o → f (until_none f (suc n) s) ≡ None) [
      | None ↦ λ e. subst (λ (u : S). f u ≡ None) (sym (until_none-none f (suc n) s e)) e
      | Some r ↦ λ e. subst (λ (u : S). f u ≡ None) (sym (until_none-some f n s r e))
          (until_none-rests size f falls n r (omega (arith, falls s r e)))
    ] refl

-- any two bounds that suffice give the same
pub until_none-bound : {S : Type 0} (size : S → ℕ) (f : S → Option S) → Falls size f → (n m : ℕ) (s : S) → size s ≤ n → size s ≤ m → until_none f n s ≡ until_none f m s
until_none-bound {S} size f falls zero m s small fits =
    elim (f s) as (λ o. f s ≡ o → s ≡ until_none f m s) [
      | None ↦ λ e. sym (until_none-none f m s e)
      | Some r ↦ λ e. absurd (omega (arith, falls s r e))
    ] refl
until_none-bound {S} size f falls (suc n) zero s small fits =
    elim (f s) as (λ o. f s ≡ o → until_none f (suc n) s ≡ s) [
      | None ↦ λ e. until_none-none f (suc n) s e
      | Some r ↦ λ e. absurd (omega (arith, falls s r e))
    ] refl
until_none-bound {S} size f falls (suc n) (suc m) s small fits =
    elim (f s) as (λ o. f s ≡ o → until_none f (suc n) s ≡ until_none f (suc m) s) [
      | None ↦ λ e. until_none-none f (suc n) s e ∙ sym (until_none-none f (suc m) s e)
      | Some r ↦ λ e. until_none-some f n s r e
          ∙ until_none-bound size f falls n m r (omega (arith, falls s r e)) (omega (arith, falls s r e))
          ∙ sym (until_none-some f m s r e)
    ] refl

-- the first step changes nothing of what all steps come to
pub until_none-step : {S : Type 0} (size : S → ℕ) (f : S → Option S) → Falls size f → (n m : ℕ) (s r : S) → f s ≡ Some r → size s ≤ n → size r ≤ m → until_none f n s ≡ until_none f m r
until_none-step size f falls zero m s r e small fits = absurd (omega (arith, falls s r e))
until_none-step size f falls (suc n) m s r e small fits =
    until_none-some f n s r e ∙ until_none-bound size f falls n m r (omega (arith, falls s r e)) fits

-- what each step keeps is kept
pub until_none-keeps : {S : Type 0} (P : S → Type 0) (f : S → Option S) → ((s r : S) → f s ≡ Some r → P s → P r) → (n : ℕ) (s : S) → P s → P (until_none f n s)
until_none-keeps P f keeps zero s p = p
until_none-keeps {S} P f keeps (suc n) s p =
    elim (f s) as (λ o. f s ≡ o → P (until_none f (suc n) s)) [
      | None ↦ λ e. subst P (sym (until_none-none f (suc n) s e)) p
      | Some r ↦ λ e. subst P (sym (until_none-some f n s r e)) (until_none-keeps P f keeps n r (keeps s r e p))
    ] refl

-- ---- two steps in turn

-- a step that is the first of two that applies
pub record IsFirstOf {S : Type 0} (f first second : S → Option S) : Type 0 where
  pub before : (s r : S) → first s ≡ Some r → f s ≡ Some r
  pub after : (s : S) → first s ≡ None → f s ≡ second s

-- making the first of the two as often as it applies changes nothing of what both come to
pub until_none-first : {S : Type 0} (size : S → ℕ) (f first second : S → Option S) → IsFirstOf f first second → Falls size f → (n m : ℕ) (s : S) → size s ≤ n → until_none f n s ≡ until_none f n (until_none first m s)
until_none-first size f first second two falls n zero s fits = refl
until_none-first {S} size f first second two falls n (suc m) s fits =
    elim (first s) as (λ o. first s ≡ o → until_none f n s ≡ until_none f n (until_none first (suc m) s)) [
      | None ↦ λ e. ap (until_none f n) (sym (until_none-none first (suc m) s e))
      | Some r ↦ λ e.
          let step = two.before s r e in
          until_none-step size f falls n n s r step fits (omega (arith, falls s r step, fits))
          ∙ until_none-first size f first second two falls n m r (omega (arith, falls s r step, fits))
          ∙ ap (until_none f n) (sym (until_none-some first m s r e))
    ] refl

-- nothing is left to do by more steps
pub until_none-size : {S : Type 0} (size : S → ℕ) (f : S → Option S) → Falls size f → (n : ℕ) (s : S) → size (until_none f n s) ≤ size s
until_none-size size f falls zero s = omega arith
until_none-size {S} size f falls (suc n) s =
    elim (f s) as (λ o. f s ≡ o → size (until_none f (suc n) s) ≤ size s) [
      | None ↦ λ e. subst (λ (u : S). size u ≤ size s) (sym (until_none-none f (suc n) s e)) (omega arith)
      | Some r ↦ λ e. subst (λ (u : S). size u ≤ size s) (sym (until_none-some f n s r e))
          (omega (arith, until_none-size size f falls n r, falls s r e))
    ] refl

-- what is done after the first of the two has come to its end: `rest` is that end, and `whole` the end of both
pub record ComesToRest {S : Type 0} (size : S → ℕ) (f first : S → Option S) (rest whole : S → S) : Type 0 where
  pub rests : (s : S) → first (rest s) ≡ None
  pub same : (s : S) → whole (rest s) ≡ whole s
  pub smaller : (s : S) → size (rest s) ≤ size s
  pub step : (s r : S) → f s ≡ Some r → whole s ≡ whole r
  pub done : (s : S) → f s ≡ None → whole s ≡ s

-- making the second and resting again, as often as the second applies, comes to the same as both
pub until_none-second : {S : Type 0} (size : S → ℕ) (f first second : S → Option S) (rest whole : S → S) → IsFirstOf f first second → Falls size f → ComesToRest size f first rest whole → (n : ℕ) (s : S) → first s ≡ None → size s ≤ n → until_none (λ u. option_map rest (second u)) n s ≡ whole s
until_none-second {S} size f first second rest whole two falls c zero s still fits =
    elim (second s) as (λ o. second s ≡ o → s ≡ whole s) [
      | None ↦ λ e. sym (c.done s (two.after s still ∙ e))
      | Some r ↦ λ e. absurd (omega (arith, falls s r (two.after s still ∙ e), fits))
    ] refl
until_none-second {S} size f first second rest whole two falls c (suc n) s still fits =
    let again : S → Option S = λ u. option_map rest (second u) in
    elim (second s) as (λ o. second s ≡ o → until_none again (suc n) s ≡ whole s) [
      | None ↦ λ e. until_none-none again (suc n) s (ap (option_map rest) e) ∙ sym (c.done s (two.after s still ∙ e))
      | Some r ↦ λ e.
          let step = two.after s still ∙ e in
          until_none-some again n s (rest r) (ap (option_map rest) e)
          ∙ until_none-second size f first second rest whole two falls c n (rest r) (c.rests r)
          (omega (arith, c.smaller r, falls s r step, fits))
          ∙ c.same r ∙ sym (c.step s r step)
    ] refl
