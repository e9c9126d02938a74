-- What a scan keeps while it goes over the bytes.
use Rattle.std.proofs.Common.{◌≡◌, ℕ, ◌+◌, ◌≤◌, List, length}
use Rattle.cy_event.specs.Bodies.{scan_bytes}
use Rattle.cy_event.specs.declared.body.BodyMark.{BodyMark}

-- the mark, and the bytes behind it
pub record Scanning (max : ℕ) (from : BodyMark) (bytes : List ℕ) (mark : BodyMark) (rest : List ℕ) : Type 0 where
  pub same : scan_bytes max mark rest ≡ scan_bytes max from bytes
  pub later : from.raw ≤ mark.raw
  pub most : mark.raw + length rest ≤ from.raw + length bytes
  pub sound : mark.content ≤ mark.raw
