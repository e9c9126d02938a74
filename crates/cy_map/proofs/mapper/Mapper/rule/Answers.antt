-- What is left to show of `Mapper::rule`.
use Rattle.std.proofs.Common.{◌≡◌, ◌∙◌, sym, subst, ap, List, Some, None}
use Rattle.std.specs.Prelude.{find, slice_get, option_and_then}
use Rattle.cy_map.specs.declared.rule.Rule.{Rule}
use Rattle.cy_map.specs.declared.index.Form.TheVariants.{Exact}
use Rattle.cy_map.specs.Mapping.{is_exact_for, is_longest_for, is_extension_for, is_default_rule}
use Rattle.cy_map.proofs.Members.{at_position}
use Rattle.cy_map.proofs.Lookups.{read_at, finds_exact, finds_longest, finds_extension, finds_default}
use Rattle.cy_map.proofs.mapper.Mapper.rule.Goals as goal

pub returns-in-Some : goal.returns-in-Some
returns-in-Some c =
    let m = c.self.inside in
    let path = c.args.path.now in
    let exact : find (is_exact_for path) m.rules.items ≡ Some c.in-Some.rule.now =
    read_at Exact m.exact c.as_slice-rules.result.now m.rules.items path (Some c.in-Some.rule.now) c.in-Some.ensures c.as_slice-rules.ensures.value c.self.invariant.exact in
    rw (← c.self.view_is) (sym (finds_exact m.rules.items path c.in-Some.rule.now exact))

pub returns-in-Some-longest_prefix : goal.returns-in-Some-longest_prefix
returns-in-Some-longest_prefix c =
    let m = c.self.inside in
    let path = c.args.path.now in
    let rule = c.in-Some-longest_prefix.rule.now in
    let none : find (is_exact_for path) m.rules.items ≡ None =
    read_at Exact m.exact c.as_slice-rules.result.now m.rules.items path None c.in_default.ensures c.as_slice-rules.ensures.value c.self.invariant.exact in
    let longest : Some rule ≡ find (is_longest_for m.rules.items path) m.rules.items =
    subst (λ (r : List Rule). Some rule ≡ find (is_longest_for r path) r) c.as_slice-rules.ensures.value c.in-Some-longest_prefix.ensures in
    rw (← c.self.view_is) (sym (finds_longest m.rules.items path rule none (sym longest)))

pub returns-in-Some-extension : goal.returns-in-Some-extension
returns-in-Some-extension c =
    let m = c.self.inside in
    let path = c.args.path.now in
    let rule = c.in-Some-extension.rule.now in
    let none : find (is_exact_for path) m.rules.items ≡ None =
    read_at Exact m.exact c.as_slice-rules.result.now m.rules.items path None c.in_default.ensures c.as_slice-rules.ensures.value c.self.invariant.exact in
    let less : None ≡ find (is_longest_for m.rules.items path) m.rules.items =
    subst (λ (r : List Rule). None ≡ find (is_longest_for r path) r) c.as_slice-rules.ensures.value c.in_default-longest_prefix.ensures in
    let extension : Some rule ≡ find (is_extension_for path) m.rules.items =
    subst (λ (r : List Rule). Some rule ≡ find (is_extension_for path) r) c.as_slice-rules.ensures.value c.in-Some-extension.ensures in
    rw (← c.self.view_is) (sym (finds_extension m.rules.items path rule none (sym less) (sym extension)))

pub returns : goal.returns
returns c =
    let m = c.self.inside in
    let path = c.args.path.now in
    let none : find (is_exact_for path) m.rules.items ≡ None =
    read_at Exact m.exact c.as_slice-rules.result.now m.rules.items path None c.in_default.ensures c.as_slice-rules.ensures.value c.self.invariant.exact in
    let less : None ≡ find (is_longest_for m.rules.items path) m.rules.items =
    subst (λ (r : List Rule). None ≡ find (is_longest_for r path) r) c.as_slice-rules.ensures.value c.in_default-longest_prefix.ensures in
    let least : None ≡ find (is_extension_for path) m.rules.items =
    subst (λ (r : List Rule). None ≡ find (is_extension_for path) r) c.as_slice-rules.ensures.value c.in_default-extension.ensures in
    let last = ap (λ (r : List Rule). option_and_then (slice_get r) m.default) c.as_slice-rules.ensures.value
    ∙ ap (λ o. option_and_then (slice_get m.rules.items) o) c.self.invariant.default ∙ at_position is_default_rule m.rules.items in
    rw (← c.self.view_is) (finds_default m.rules.items path _ none (sym less) (sym least) (c.rule_at.ensures ∙ last))
