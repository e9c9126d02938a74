-- What is left to show of `World::push_connections`.
use Rattle.std.proofs.Common.{◌≡◌, ◌++◌, ℕ, List, Some, append_assoc, flat_map, sym, ap, ◌∙◌, subst}
use Rattle.std.specs.List.Sorted.{IsStrictlySortedBy}
use Rattle.std.specs.Map.{keys_of}
use Rattle.std.specs.Map.Iter.{deref_pair}
use Rattle.std.specs.Ordering.{nat_cmp}
use Rattle.std.proofs.lemmas.Cmp.{nat_cmp_total}
use Rattle.std.proofs.lemmas.List.{append-nil}
use Rattle.std.proofs.lemmas.Map.Iter.{btree_map_turn}
use Rattle.cy_world.specs.Reporting.{text_of}
use Rattle.cy_world.specs.Worlds.{WorldParts, find_in}
use Rattle.cy_world.specs.declared.world.Admitted.{Admitted}
use Rattle.cy_world.proofs.Reporting.{book_tells}
use Rattle.cy_world.proofs.world.World.push_connections.Goals as goal

pub loop-number-init : goal.loop-number-init
loop-number-init c = λ w stands.
    ap (λ (es : List (ℕ × Admitted)). c.args.text.now.items ++ flat_map (λ (e : ℕ × Admitted). text_of c.args.self.now w e.0) es)
    (c.into_iter-number-iterator.ensures.into_iter_gives.0 ∙ ap (λ (p : WorldParts). p.book) c.self.view_is)

pub push_connection-requires : goal.push_connection-requires
push_connection-requires c =
    let turn =
    btree_map_turn deref_pair c.loop-number.yielded c.into_iter-number-iterator.result c.loop-number.number-iterator c.next.new.self c.next.result (c.in-Some.number, c.in-Some.admitted)
    c.loop-number.yielded_by c.in-Some.is c.next.ensures.steps nat_cmp_total c.self.inside.book
    c.into_iter-number-iterator.ensures.into_iter_gives.0 c.into_iter-number-iterator.ensures.into_iter_gives.5 in
    record { known = subst (λ (p : WorldParts). find_in c.in-Some.number.now p.book ≡ Some c.in-Some.admitted.now) c.self.view_is turn.1 }

pub loop-number-preserved : goal.loop-number-preserved
loop-number-preserved c = λ w stands.
    let p = c.args.self.now in
    let text = c.loop-number.text.items in
    let rest = c.next.new.self in
    let number = c.in-Some.number.now in
    ap (λ (u : List ℕ). u ++ flat_map (λ (e : ℕ × Admitted). text_of p w e.0) rest) (c.in_ok-push_connection.ensures w stands)
    ∙ append_assoc text (text_of p w number) (flat_map (λ (e : ℕ × Admitted). text_of p w e.0) rest)
    ∙ ap (λ (es : List (ℕ × Admitted)). text ++ flat_map (λ (e : ℕ × Admitted). text_of p w e.0) es) (sym c.in-Some.ensures.steps)
    ∙ c.loop-number.invariant w stands

pub returns : goal.returns
returns c = λ w stands.
    let p = c.args.self.now in
    let text = c.loop-number.text.items in
    let sorted : IsStrictlySortedBy nat_cmp (keys_of p.book) =
    subst (λ (q : WorldParts). IsStrictlySortedBy nat_cmp (keys_of q.book)) c.self.view_is c.into_iter-number-iterator.ensures.into_iter_gives.5 in
    sym (append-nil text)
    ∙ ap (λ (es : List (ℕ × Admitted)). text ++ flat_map (λ (e : ℕ × Admitted). text_of p w e.0) es) (sym c.in-None.ensures.steps.0)
    ∙ c.loop-number.invariant w stands
    ∙ ap (λ (u : List ℕ). c.args.text.now.items ++ u) (book_tells w p stands sorted)
