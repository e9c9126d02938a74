-- Laws of due places. Each is the contract of a public function without a body.
use Rattle.std.specs.Prelude.{◌≡◌, ◌↔◌, ℕ, ◌≤◌, IsTrue, Option, Some, None, List, [], ◌∷◌, All, Contains, slice_index_or}
use Rattle.cy_timers.specs.Due.{due, is_before}

-- the deadline of a place
abbrev pub deadline_of : List (Option ℕ) → ℕ → Option ℕ
deadline_of deadlines place = slice_index_or deadlines place None

-- the place has a deadline that is at most now
abbrev pub IsDue : List (Option ℕ) → ℕ → ℕ → Type 0
IsDue deadlines now place = (d : ℕ) × (deadline_of deadlines place ≡ Some d) × (d ≤ now)

-- the deadline of one place comes before that of another, or is the same and its number is less
pub record ComesBefore (deadlines : List (Option ℕ)) (p q : ℕ) : Type 0 where
  pub first : ℕ
  pub second : ℕ
  pub of_p : deadline_of deadlines p ≡ Some first
  pub of_q : deadline_of deadlines q ≡ Some second
  pub order : IsTrue (is_before (record { deadline = first; place = p }) (record { deadline = second; place = q }))

-- each place comes before those behind it
abbrev pub EachComesBefore : List (Option ℕ) → List ℕ → Type 0
EachComesBefore deadlines [] = Unit {0}
EachComesBefore deadlines (p ∷ ps) = All (ComesBefore deadlines p) ps × EachComesBefore deadlines ps

-- exactly those places are due, and each comes before those behind it, so that none stands twice
pub record AreDue (deadlines : List (Option ℕ)) (now : ℕ) (places : List ℕ) : Type 0 where
  pub exact : (p : ℕ) → Contains places p ↔ IsDue deadlines now p
  pub ordered : EachComesBefore deadlines places
  pub once : (p : ℕ) → ComesBefore deadlines p p → ⊥

abbrev pub DueIsDue : Type 0
DueIsDue = (deadlines : List (Option ℕ)) (now : ℕ) → AreDue deadlines now (due deadlines now)
