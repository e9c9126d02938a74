-- How far a mark moves.
use Rattle.std.specs.Prelude.{ℕ, ◌+◌, ◌≤◌}
use Rattle.cy_event.specs.declared.body.BodyMark.{BodyMark}

-- no more content stands before the mark than bytes
abbrev pub IsContentWithin : BodyMark → Type 0
IsContentWithin m = m.content ≤ m.raw

-- the mark moved on by at most so many bytes
pub record MovesOn (old new : BodyMark) (bytes : ℕ) : Type 0 where
  pub later : old.raw ≤ new.raw
  pub most : new.raw ≤ old.raw + bytes
  pub content : new.content ≤ new.raw
