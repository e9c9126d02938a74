-- What the loops of `Index::longest_prefix` keep.
use Rattle.std.proofs.Common.{◌≡◌, ◌≤◌, ℕ, true, length, take, None}
use Rattle.cy_map.specs.declared.index.Form.TheVariants.{Prefix}
use Rattle.cy_map.specs.Patterns.{ends_base}
use Rattle.cy_map.specs.Indexes.{first_read}
use Rattle.cy_map.proofs.index.Index.longest_prefix.Given as goal

-- no rule is read as a front of the path that was passed
abbrev pub invariant-loop-end : goal.invariant-loop-end
invariant-loop-end l = (longer : ℕ) → l.end ≤ longer → longer ≤ length l.path → ends_base l.path longer ≡ true → first_read Prefix l.rules (take longer l.path) ≡ None
