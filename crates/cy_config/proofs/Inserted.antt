-- What a map holds after an insert, as the members of a table.
use Rattle.std.proofs.Common.{◌≡◌, List, [], ◌∷◌, ℕ, String, Global, Ordering, Less, Equal, Greater, string_bytes, refl, ap, ◌∙◌}
use Rattle.std.specs.BTreeMap.{insert_entry}
use Rattle.std.specs.Ordering.{match_ordering}
use Rattle.std.specs.String.{string_cmp}
use Rattle.toml.specs.declared.value.Value.{Value}
use Rattle.toml.specs.Data.{Members, member}
use Rattle.toml.specs.View.{members_view, view}
use Rattle.cy_config.specs.Printing.{insert}

match_members : (o : Ordering) (a b c : List (String Global × Value)) → members_view (match_ordering o a b c) ≡ match_ordering o (members_view a) (members_view b) (members_view c)
match_members Less a b c = refl
match_members Equal a b c = refl
match_members Greater a b c = refl

pub insert-view : (es : List (String Global × Value)) (k : String Global) (v : Value) → members_view (insert_entry string_cmp es k v) ≡ insert (string_bytes k) (view v) (members_view es)
insert-view [] k v = refl
insert-view (e ∷ es) k v =
    match_members (string_cmp k e.0) _ _ _
    ∙ ap (λ (ms : Members). match_ordering (string_cmp k e.0) (member (string_bytes k) (view v) (members_view (e ∷ es))) (member (string_bytes e.0) (view v) (members_view es)) (member (string_bytes e.0) (view e.1) ms)) (insert-view es k v)
