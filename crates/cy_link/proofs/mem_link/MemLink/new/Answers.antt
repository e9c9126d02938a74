-- What is left to show of `MemLink::new`.
use Rattle.std.proofs.Common.{rules, ◌≡◌, true, ap, ◌∙◌, arith}
use Rattle.std.specs.List.{list_all, filter}
use Rattle.std.proofs.lemmas.Fn.{filter_same}
use Rattle.cy_link.specs.Items.{bytes_of, is_filled}
use Rattle.cy_link.proofs.Pieces.{bytes-filter, filled-filter, starts_anywhere}
use Rattle.cy_link.proofs.mem_link.MemLink.new.Goals as goal

pub returns-clause-inputs : goal.returns-clause-inputs
returns-clause-inputs c = filter_same _ _ _ (λ x r f' k. search rules) _ _ c.retain.ensures.filtered

pub returns-clause-left : goal.returns-clause-left
returns-clause-left c = ap bytes_of (filter_same _ is_filled _ (λ x r f' k. search rules) _ _ c.retain.ensures.filtered) ∙ bytes-filter c.args.inputs.items

pub invariant_of-result : goal.invariant_of-result
invariant_of-result c =
    let kept : c.retain.new.self.items ≡ filter is_filled c.args.inputs.items = filter_same _ _ _ (λ x r f' k. search rules) _ _ c.retain.ensures.filtered in
    let filled : list_all is_filled c.retain.new.self.items ≡ true = ap (list_all is_filled) kept ∙ filled-filter c.args.inputs.items in
    record { within = omega arith; filled = filled; in_first = starts_anywhere c.retain.new.self.items 0 filled }
