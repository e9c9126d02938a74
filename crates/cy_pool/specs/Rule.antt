-- The rule over the queue of free numbers and over what each pass knows. Own.
use Rattle.std.specs.Prelude.{◌≡◌, ℕ, ◌+◌, ◌<◌, ◌≤◌, nat_lt, ◌==◌, cond, List, [], ◌∷◌, length, Option, None, Some}
use mathlib.Core.Option.{some}
use lib.ListN.{get_elem?}
use Rattle.cy_pool.specs.declared.rule.View.{View}

abbrev pub view_of : ℕ → ℕ → ℕ → ℕ → Option ℕ → View
view_of keeper parts size most slip = record { keeper = keeper; parts = parts; size = size; most = most; slip = slip }

-- how often a number stands in a list
abbrev pub times : ℕ → List ℕ → ℕ
times x [] = 0
times x (y ∷ ys) = cond (y == x) 1 0 + times x ys

-- whether this number is out with a pass, counted; and whether any is
abbrev pub has : ℕ → Option ℕ → ℕ
has x None = 0
has x (Some y) = cond (y == x) 1 0

abbrev pub is_out : Option ℕ → ℕ
is_out None = 0
is_out (Some y) = 1

-- the sum over all passes
abbrev pub total : (View → ℕ) → List View → ℕ
total f [] = 0
total f (v ∷ vs) = f v + total f vs

-- 1 below n, and else 0
abbrev pub once_below : ℕ → ℕ → ℕ
once_below x n = cond (nat_lt x n) 1 0

-- the pass that makes seats has all parts, and no number out
abbrev pub HasAll : View → Type 0
HasAll v = (v.keeper ≡ 1) × (v.parts ≡ v.most + 1) × (v.slip ≡ None)

-- A pass with a part knows how many numbers there are and how many seats at most. One that makes seats has a part, and
-- so has one with a number out.
abbrev pub IsTold : ℕ → ℕ → View → Type 0
IsTold n m v = (0 < v.parts → (v.size ≡ n) × (v.most ≡ m)) × (v.keeper + is_out v.slip ≤ v.parts)

-- There is a part for each seat that there may be, and one for the pass that makes them. Each number below the size
-- stands in the queue or is out with one pass, and no other number does; so the queue and the passes have as many as
-- there are.
pub record Keeps (n m : ℕ) (items : List ℕ) (views : List View) : Type 0 where
  pub whole : total (λ v. v.parts) views ≡ m + 1
  pub one : total (λ v. v.keeper) views ≡ 1
  pub told : (pass : ℕ) (v : View) → get_elem? views pass ≡ some v → IsTold n m v
  pub each : (x : ℕ) → times x items + total (λ v. has x v.slip) views ≡ once_below x n
  pub counted : length items + total (λ v. is_out v.slip) views ≡ n

abbrev pub AreKept : List ℕ → List View → Type 0
AreKept items views = (n : ℕ) × (m : ℕ) × Keeps n m items views
