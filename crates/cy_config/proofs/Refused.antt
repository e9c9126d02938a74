-- First refusals.
use Rattle.std.proofs.Common.{◌≡◌, ℕ, false, ◌&&◌, leb, length, List, [], ◌∷◌, map, Option, Some, None, Result, Ok, Err, String, Global, string_bytes, refl, sym, ap, subst, ◌∙◌}
use Rattle.std.specs.Prelude.{option_to_list, slice_get, IsErrAnd}
use Rattle.std.specs.List.{cons_option, list_all}
use Rattle.std.proofs.lemmas.List.{length-map}
use Rattle.std.proofs.lemmas.List.Folds.{list_all-map}
use Rattle.std.specs.Map.{keys_of}
use Rattle.toml.specs.declared.value.Value.{Value}
use Rattle.toml.specs.View.{items_view, members_view, view}
use Rattle.cy_config.specs.declared.fault.SetFault.{SetFault}
use Rattle.cy_config.specs.declared.fault.SetFault.TheVariants.{NoMemory}
use Rattle.toml.specs.Data.{Data, string, integer, float, boolean, datetime, array, table, as_array}
use Rattle.cy_config.specs.Members.{elements, is_table, keys}
use Rattle.cy_config.specs.Texts.{Checks, Reads}
use Rattle.cy_config.specs.Meaning.{elements_found, is_rule_list, unless}

-- the refusal of an entry is the first of it and of those that follow
pub head_refusal : (o : Option SetFault) (rest : List SetFault) (e : SetFault) → slice_get (option_to_list o) 0 ≡ Some e → slice_get (cons_option o rest) 0 ≡ Some e
head_refusal None rest e h = absurd cc
head_refusal (Some x) rest e h = h

-- so is the error that an entry was answered with
pub checks_more : (r : Result (Unit {0}) SetFault) (e : SetFault) (o : Option SetFault) (rest : List SetFault) → IsErrAnd r (λ x. x ≡ e) → Checks {A = Unit {0}} (Err e) (option_to_list o) → Checks r (cons_option o rest)
checks_more (Ok x) e o rest same h = absurd same
checks_more (Err x) e o rest same h = λ other. rw same (head_refusal o rest e (h (subst (λ (y : SetFault). ¬ (y ≡ NoMemory)) same other)))

-- and one that a function hands on
pub reads_refused : {X Y : Type 0} (view : X → Y) (r : Result X SetFault) (e : SetFault) (wanted : Result Y SetFault) → IsErrAnd r (λ x. x ≡ e) → (¬ (e ≡ NoMemory) → wanted ≡ Err e) → Reads view r wanted
reads_refused view (Ok x) e wanted same h = absurd same
reads_refused view (Err x) e wanted same h = λ other. h (subst (λ (y : SetFault). ¬ (y ≡ NoMemory)) same other) ∙ ap Err (sym same)

-- a first refusal is what is answered
pub unless_refused : {A : Type 0} (refusals : List SetFault) (answer : Result A SetFault) (e : SetFault) → slice_get refusals 0 ≡ Some e → unless refusals answer ≡ Err e
unless_refused [] answer e h = absurd cc
unless_refused (x ∷ more) answer e h =
    let same : x ≡ e = cc in
    ap Err same

-- the keys of a map are those of its members
pub keys-view : (es : List (String Global × Value)) → keys (members_view es) ≡ map string_bytes (keys_of es)
keys-view [] = refl
keys-view (e ∷ es) = ap (λ ks. string_bytes e.0 ∷ ks) (keys-view es)

-- the elements of an array are what its values are
pub elements-view : (vs : List Value) → elements (items_view vs) ≡ map view vs
elements-view [] = refl
elements-view (v ∷ vs) = ap (λ ds. view v ∷ ds) (elements-view vs)

-- a value that is an array of these values
pub rule_list : (d : Data) (vs : List Value) → Some (items_view vs) ≡ as_array d
    → (is_rule_list d ≡ (list_all (λ v. is_table (view v)) vs && leb (length vs) 1024)) × (elements_found (Some d) ≡ map view vs)
rule_list (array ds) vs h =
    let same : ds ≡ items_view vs = cc in
    let all : elements ds ≡ map view vs = ap elements same ∙ elements-view vs in
    (rw all (rw (list_all-map is_table view vs, length-map) refl), all)
rule_list (string s) vs h = absurd cc
rule_list (integer z) vs h = absurd cc
rule_list (float x) vs h = absurd cc
rule_list (boolean b) vs h = absurd cc
rule_list (datetime t) vs h = absurd cc
rule_list (table ms) vs h = absurd cc

-- a value that is none
pub no_rule_list : (d : Data) → None ≡ as_array d → is_rule_list d ≡ false
no_rule_list (array ds) h = absurd cc
no_rule_list (string s) h = refl
no_rule_list (integer z) h = refl
no_rule_list (float x) h = refl
no_rule_list (boolean b) h = refl
no_rule_list (datetime t) h = refl
no_rule_list (table ms) h = refl
