-- What is left to show of `Index::extension`.
use Rattle.std.proofs.Common.{◌∙◌}
use Rattle.cy_map.proofs.Lookups.{first_extension, no_extension}
use Rattle.cy_map.proofs.index.Index.extension.Goals as goal

pub returns-in-Some : goal.returns-in-Some
returns-in-Some c =
    c.rule.ensures ∙ c.requires c.in-Some.name.now ∙ first_extension c.args.rules.now c.args.path.now c.in-Some.name.now c.in-Some.ensures

pub returns-in-None : goal.returns-in-None
returns-in-None c = no_extension c.args.rules.now c.args.path.now c.in-None.ensures
