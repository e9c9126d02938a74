-- What is left to show of `Index::of`.
use Rattle.std.proofs.Common.{◌≡◌, ◌∙◌, ℕ, ◌-◌, List, Option, Some, suc, sym, ap, subst, arith, drop}
use Rattle.std.specs.Prelude.{bytes_eq, slice_get, option_and_then}
use Rattle.std.specs.HashMap.{get_by}
use Rattle.cy_map.specs.declared.rule.Rule.{Rule}
use Rattle.cy_map.specs.Indexes.{first_read, reading_of}
use Rattle.cy_map.proofs.Lookups.{put_first}
use Rattle.cy_map.proofs.Keys.{changed_at}
use Rattle.cy_map.proofs.index.Index.of.Goals as goal

pub loop-place-preserved-in_ok-insert : goal.loop-place-preserved-in_ok-insert
loop-place-preserved-in_ok-insert c =
    let rules = c.args.rules.now in
    let place = c.loop-place.place - 1 in
    let rule = c.index-rules-place.result in
    let key = c.in_ok-from_slice.field-0 in
    let old : List ℕ → Option ℕ = λ text. get_by (λ k. bytes_eq text k.items) c.loop-place.places in
    let new' : List ℕ → Option ℕ = λ text. get_by (λ k. bytes_eq text k.items) c.insert.new.self in
    let reads : reading_of c.args.form rule.pattern ≡ Some key.items =
    ap (λ (r : Rule). reading_of c.args.form r.pattern) c.index-rules-place.is ∙ ap (λ p. reading_of c.args.form p) (sym c.as_slice.ensures) ∙ sym c.in-Some.ensures ∙ ap (λ t. Some t) (sym c.in_ok-from_slice.ensures.items) in
    let next : c.loop-place.place ≡ suc place = omega arith in
    put_first c.args.form rules place rule key.items old new' (omega arith) c.index-rules-place.is reads
    (changed_at (λ k. k.items) key.items c.loop-place.places c.insert.new.self (Some place) c.in_ok-insert.ensures.updates)
    (λ text. subst (λ n. option_and_then (slice_get rules) (old text) ≡ first_read c.args.form (drop n rules) text) next (c.loop-place.invariant text))
