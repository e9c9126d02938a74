-- What the two rings of a connection hold.
use Rattle.std.specs.Prelude.{ℕ, List}

-- the bytes that came and wait to be read, and those that wait to be sent, the oldest first
pub record Rings : Type 0 where
  pub input : List ℕ
  pub output : List ℕ
