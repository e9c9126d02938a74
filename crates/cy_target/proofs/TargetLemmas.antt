-- What is kept of a request, by what was found of its target.
use Rattle.std.proofs.Common.{◌≡◌, ℕ, Bool, true, false, List, [], ◌∷◌, sym, ap, ◌∙◌, Option, Some, None}
use Rattle.std.specs.Prelude.{option_and_then, option_map}
use Rattle.std.proofs.lemmas.Bool.{cond-true, cond-false}
use Rattle.cy_event.specs.Heads.{Head}
use Rattle.cy_event.specs.RequestHeads.{RequestParts}
use Rattle.cy_event.specs.Targets.{PathAndQuery, behind_slash, is_asterisk, named_by, origin_form, path_of, raw_parts, target_of}
use Rattle.cy_target.specs.Kept.{with_target}

-- ---- what a target names

pub star_is : (method target sent_method sent : List ℕ) (r v : Bool) → sent_method ≡ method → sent ≡ target → r ≡ is_asterisk sent_method sent → r ≡ v → is_asterisk method target ≡ v
star_is method target sent_method sent r v m t e is = ap (λ (a : List ℕ). is_asterisk a target) (sym m) ∙ ap (is_asterisk sent_method) (sym t) ∙ sym e ∙ is

pub asterisk_names : (method target : List ℕ) → is_asterisk method target ≡ true → target_of method target ≡ Some (record { path = 42 ∷ []; query = None })
unfolding target_of
asterisk_names method target e = cond-true _ _ _ e

found : (method target sent : List ℕ) (parts : Option (List ℕ × Option (List ℕ))) → is_asterisk method target ≡ false → sent ≡ target
    → parts ≡ option_and_then raw_parts (behind_slash (origin_form sent)) → target_of method target ≡ option_and_then named_by parts
unfolding target_of
found method target sent parts e same is =
    cond-false _ _ _ e
    ∙ ap (λ (t : List ℕ). option_and_then named_by (option_and_then raw_parts (behind_slash (origin_form t)))) (sym same)
    ∙ ap (option_and_then named_by) (sym is)

pub form_is_bad : (method target sent : List ℕ) → is_asterisk method target ≡ false → sent ≡ target
    → None ≡ option_and_then raw_parts (behind_slash (origin_form sent)) → target_of method target ≡ None
form_is_bad method target sent e same is = found method target sent None e same is

abbrev named_with : Option (List ℕ) → Option (List ℕ) → Option PathAndQuery
named_with query path = option_map (λ text. record { path = text; query = query }) path

pub path_is_bad : (method target sent raw : List ℕ) (query : Option (List ℕ)) → is_asterisk method target ≡ false → sent ≡ target
    → Some (raw, query) ≡ option_and_then raw_parts (behind_slash (origin_form sent)) → path_of raw ≡ None → target_of method target ≡ None
path_is_bad method target sent raw query e same is bad = found method target sent (Some (raw, query)) e same is ∙ ap (named_with query) bad

pub target_names : (method target sent raw path : List ℕ) (query : Option (List ℕ)) → is_asterisk method target ≡ false → sent ≡ target
    → Some (raw, query) ≡ option_and_then raw_parts (behind_slash (origin_form sent)) → path_of raw ≡ Some path
    → target_of method target ≡ Some (record { path = path; query = query })
target_names method target sent raw path query e same is read = found method target sent (Some (raw, query)) e same is ∙ ap (named_with query) read

-- ---- what is kept

abbrev parts_with : Head → ℕ → List ℕ → Option (List ℕ) → RequestParts
parts_with head size path query = record { head = head; path = path; query = query; field_size = size }

pub keeps_named : (head : Head) (size : ℕ) (path old_path : List ℕ) (query old_query : Option (List ℕ)) (t : Option PathAndQuery)
    → t ≡ Some (record { path = path; query = query })
    → parts_with head size path query ≡ with_target t (parts_with head size old_path old_query)
keeps_named head size path old_path query old_query t e = ap (λ (o : Option PathAndQuery). with_target o (parts_with head size old_path old_query)) (sym e)

pub keeps_nothing : (head : Head) (size : ℕ) (path old_path : List ℕ) (old_query : Option (List ℕ)) (t : Option PathAndQuery)
    → path ≡ [] → t ≡ None → parts_with head size path None ≡ with_target t (parts_with head size old_path old_query)
keeps_nothing head size path old_path old_query t empty e =
    ap (λ (p : List ℕ). parts_with head size p None) empty
    ∙ ap (λ (o : Option PathAndQuery). with_target o (parts_with head size old_path old_query)) (sym e)
