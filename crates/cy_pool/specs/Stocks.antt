-- What callers see of a pool, its keeper and a seat. Own.
use Rattle.std.specs.Prelude.{◌≡◌, ◌≤◌, ℕ, Option, None}
use Rattle.atomic_table.specs.Seated.{TableId}

-- a pool: its name, and how many numbers it has
pub record Stock : Type 0 where
  pub name : TableId
  pub slots : ℕ

-- a keeper: the name of its pool, how many numbers that has, how many seats there may be, and how many were made and not
-- joined
pub record Keeping : Type 0 where
  pub name : TableId
  pub slots : ℕ
  pub most : ℕ
  pub seats : ℕ

-- a seat: the name of the pool that made it, how many numbers that has, how many seats there may be, and the number of
-- the slip that is out
pub record Place : Type 0 where
  pub name : TableId
  pub slots : ℕ
  pub most : ℕ
  pub slip : Option ℕ

-- this pool made this seat
abbrev pub IsSeatOf : Stock → Place → Type 0
IsSeatOf pool seat = (seat.name ≡ pool.name) × (seat.slots ≡ pool.slots)

-- and it has no slip out
abbrev pub IsIdleSeatOf : Stock → Place → Type 0
IsIdleSeatOf pool seat = IsSeatOf pool seat × (seat.slip ≡ None)

-- and the pool has a number for it and for each other seat that there may be
abbrev pub FindsOne : Stock → Place → Type 0
FindsOne pool seat = IsIdleSeatOf pool seat × (seat.most ≤ pool.slots)
