-- What the loops of `StdSourceSource::read` keep.
use Rattle.std.proofs.Common.{◌≡◌}
use Rattle.std.specs.Io.KnownBytes.{Keeps}
use Rattle.cyctl.proofs.input.StdSourceSource.read.Given as goal

-- a read that a signal broke off is no fault and loses nothing
abbrev pub invariant-loop-try : goal.invariant-loop-try
invariant-loop-try g l = record {
  faults : l.self.faults ≡ l.initial.self.faults;
  kept : Keeps (g.R.Read.remaining l.initial.self.reader) (g.R.Read.remaining l.self.reader);
}
