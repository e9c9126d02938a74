-- What the loops of `Index::of` keep.
use Rattle.std.proofs.Common.{◌≡◌, ℕ, List, drop}
use Rattle.cy_map.specs.Indexes.{first_read, rule_at}
use Rattle.cy_map.proofs.index.Index.of.Given as goal

-- the places so far are those of the rules from this place on
abbrev pub invariant-loop-place : goal.invariant-loop-place
invariant-loop-place l = (text : List ℕ) → rule_at (record { places = l.places }) l.rules text ≡ first_read l.form (drop l.place l.rules) text
