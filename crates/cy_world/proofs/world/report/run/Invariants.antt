-- What the loop of `run` keeps.
use Rattle.std.proofs.Common.{◌≡◌, reverse, take}
use Rattle.cy_model.specs.Connections.{replies}
use Rattle.cy_model.specs.Reports.{reply_lines}
use Rattle.cy_world.specs.Worlds.{StandsFor}
use Rattle.cy_world.proofs.world.report.run.Given as goal

abbrev pub invariant-loop-index : goal.invariant-loop-index
invariant-loop-index l = record {
  stands : StandsFor (reverse (take l.index l.steps)) l.world;
  limits : l.world.terms.limits ≡ l.fn.limits;
  rules : l.world.terms.rules ≡ l.fn.rules;
  text : l.text.items ≡ reply_lines 1 (replies l.world.terms.limits l.world.terms.rules (reverse (take l.index l.steps)));
}
