-- What is left to show of `settings_in`.
use Rattle.std.proofs.Common.{rules, ◌≡◌, ◌≤◌, arith}
use Rattle.std.proofs.lemmas.Grind.{common_steps}
use Rattle.cy_settings.specs.declared.setting.Setting.TheVariants.{MinSpareThreads, MaxThreads, Port}
use Rattle.cy_settings.specs.Limits.{number}
use Rattle.toml.specs.View.{table_view}
use Rattle.cy_config.specs.Meaning.{value_at}
use Rattle.cy_config.proofs.Taken.{limits_in_range, number_small, threads_in_range}
use Rattle.cy_config.proofs.values.settings_in.Goals as goal

pub number_in-requires : goal.number_in-requires
number_in-requires c = c.requires.taken Port

pub overflow_cast-result : goal.overflow_cast-result
overflow_cast-result c =
    let small : number (value_at (table_view c.args.connector.now) Port) ≤ 65535 = number_small Port (value_at (table_view c.args.connector.now) Port) (c.requires.taken Port) in
    search rules

pub number_in-requires-2 : goal.number_in-requires-2
number_in-requires-2 c = c.requires.taken MinSpareThreads

pub number_in-requires-3 : goal.number_in-requires-3
number_in-requires-3 c = c.requires.taken MaxThreads

pub invariant_of-result : goal.invariant_of-result
invariant_of-result c = record {
  in_range = rw c.limits_in.ensures (limits_in_range (table_view c.args.connector.now) c.parts_of-parts.result c.requires.taken);
  threads = rw (c.number_in-2.ensures, c.number_in-3.ensures) (threads_in_range (table_view c.args.connector.now) c.requires.taken c.requires.ordered);
  taken = rw c.of.ensures c.requires.rules;
  known_parts = rw c.of.ensures c.requires.parts;
  parts = grind (arith, common_steps);
}
