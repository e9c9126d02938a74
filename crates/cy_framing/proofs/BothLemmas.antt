-- Whether a field is there, and whether its lines are.
use Rattle.std.proofs.Common.{◌≡◌, ℕ, Bool, true, false, ◌||◌, List, [], ◌∷◌, refl}
use Rattle.std.specs.List.{list_any}
use Rattle.cy_event.specs.Heads.{Field, is_named, value_before, values_of}

none_by_test : (field : Field) (values : List (List ℕ)) (t : Bool) (more : Bool) → (more ≡ false → values ≡ []) → (t || more) ≡ false → value_before t field.value values ≡ []
none_by_test field values true more ih e = absurd (cc)
none_by_test field values false more ih e = ih e

-- without such a field it has no line
pub no_lines : (name : List ℕ) (fields : List Field) → list_any (is_named name) fields ≡ false → values_of name fields ≡ []
no_lines name [] e = refl
no_lines name (field ∷ fields) e =
    none_by_test field (values_of name fields) (is_named name field) (list_any (is_named name) fields) (no_lines name fields) e

some_by_test : (field : Field) (values : List (List ℕ)) (t more : Bool) → (more ≡ true → (first : List ℕ) × (rest : List (List ℕ)) × (values ≡ first ∷ rest))
    → (t || more) ≡ true → (first : List ℕ) × (rest : List (List ℕ)) × (value_before t field.value values ≡ first ∷ rest)
some_by_test field values true more ih e = (field.value, values, refl)
some_by_test field values false more ih e = ih e

-- with one it has a line
pub some_lines : (name : List ℕ) (fields : List Field) → list_any (is_named name) fields ≡ true
    → (first : List ℕ) × (rest : List (List ℕ)) × (values_of name fields ≡ first ∷ rest)
some_lines name [] e = absurd (cc)
some_lines name (field ∷ fields) e =
    some_by_test field (values_of name fields) (is_named name field) (list_any (is_named name) fields) (some_lines name fields) e
