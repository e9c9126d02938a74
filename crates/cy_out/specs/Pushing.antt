-- A write part of the way.
use Rattle.std.specs.Prelude.{◌≡◌, ℕ, ◌≤◌, false, List, length, drop}
use Rattle.cy_event.specs.Answers.{Answer}
use Rattle.cy_event.specs.Answering.{Sending, more_by, passes_length, push_bytes}
use Rattle.cy_rings.specs.Rings.{Rings}
use Rattle.cy_out.specs.Kept.{CanFinish, answering_with}

-- so many of the bytes were taken from where `before` and `rings` stood, and the rest goes on from here
pub record IsPushed (head : Answer) (at : ℕ) (bytes : List ℕ) (before : Sending) (rings : Rings) (taken : ℕ) (now : Sending) (left : Rings) : Type 0 where
  pub within : taken ≤ length bytes
  pub rest : push_bytes head at bytes (answering_with before rings) ≡ more_by taken (push_bytes head at (drop taken bytes) (answering_with now left))
  pub fits : passes_length now (length (drop taken bytes)) ≡ false
  pub input : left.input ≡ rings.input
  pub end : CanFinish (answering_with before rings) → CanFinish (answering_with now left)
