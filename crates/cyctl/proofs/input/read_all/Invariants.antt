-- What the loops of `read_all` keep.
use Rattle.std.proofs.Common.{◌≡◌, ◌≤◌, vec_len}
use Rattle.std.specs.Io.KnownBytes.{Consumes}
use Rattle.cyctl.proofs.input.read_all.Given as goal

-- each turn read a byte or more, and all that was read is in the vector
abbrev pub invariant-loop-turn : goal.invariant-loop-turn
invariant-loop-turn g l = record {
  turns : l._turn ≤ vec_len l.input;
  few : vec_len l.input ≤ 67108864;
  bytes : Consumes (g.S.Source.left l.initial.source) (g.S.Source.left l.source) l.input.items;
  same : g.S.Source.faults l.source ≡ g.S.Source.faults l.initial.source;
}
