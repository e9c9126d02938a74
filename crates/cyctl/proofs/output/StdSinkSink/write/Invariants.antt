-- What the loops of `StdSinkSink::write` keep.
use Rattle.std.proofs.Common.{◌≡◌}
use Rattle.std.specs.Io.KnownBytes.{Keeps}
use Rattle.cyctl.proofs.output.StdSinkSink.write.Given as goal

-- a write that a signal broke off is no fault and adds nothing
abbrev pub invariant-loop-try : goal.invariant-loop-try
invariant-loop-try g l = record {
  faults : l.self.faults ≡ l.initial.self.faults;
  kept : Keeps (g.W.Write.contents l.initial.self.writer) (g.W.Write.contents l.self.writer);
}
