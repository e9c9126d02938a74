-- What is kept of the lines so far.
use Rattle.std.specs.Prelude.{◌≡◌, ℕ, ◌≤◌, true}
use Rattle.std.specs.BTreeSet.{contains}
use Rattle.std.specs.List.{list_all, sum_by}
use Rattle.std.specs.Ordering.{nat_cmp}
use Rattle.cy_script.specs.declared.draft.Draft.TheInside.{Inside}
use Rattle.cy_script.specs.declared.statements.Statement.{Statement}
use Rattle.cy_script.specs.declared.statements.Statement.TheVariants as statement
use Rattle.cy_script.specs.Conditions.{is_admitted, most_written, written_by}
use Rattle.cy_settings.specs.Limits.{limit_greatest}
use Rattle.cy_settings.specs.Rules.{has_part, most_part}

-- the numbers that the steps admit are kept, and the bytes that they write are counted
pub record IsCounted (d : Inside) : Type 0 where
  pub parts : list_all has_part d.rules.items ≡ true
  pub admitted : (n : ℕ) → contains nat_cmp d.admitted n ≡ is_admitted n d.steps.items
  pub written : sum_by written_by d.steps.items ≡ d.written
  pub short : d.written ≤ most_written

-- the number in a statement is no greater than it may be
abbrev pub IsBounded : Statement → Type 0
IsBounded (statement.Set setting value) = value ≤ limit_greatest setting
IsBounded (statement.Rule rule) = rule.part ≤ most_part
IsBounded s = Unit {0}
