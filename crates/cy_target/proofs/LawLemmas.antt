-- The laws of the definitions.
use Rattle.std.proofs.Common.{◌≡◌, ℕ, zero, suc, ◌+◌, ◌≤◌, Bool, true, false, not, ◌&&◌, ◌||◌, cond, List, [], ◌∷◌, ◌++◌, length, take, refl, sym, ap, ◌∙◌, subst, arith, eqb, Option, Some, None, inl, inr, append_assoc, codes}
use Rattle.std.specs.Prelude.{option_map, option_and_then, is_some, bytes_eq, count_by, ◌↔◌}
use Rattle.std.specs.List.{All, join_with_byte, list_all, onto_first}
use Rattle.std.proofs.lemmas.Bool.{cond-true, cond-false, and_parts, and_from, and_right, eqb-true, ne_eqb, cases_Bool, not-false, false≢true}
use Rattle.std.proofs.lemmas.List.Elements.{All-head, All-tail, All-cons, All-nil}
use Rattle.std.proofs.lemmas.List.Sums.{sum_by-cons}
use Rattle.cy_event.specs.Heads.{is_empty, parts_at}
use Rattle.cy_event.specs.Targets.{PathAndQuery, before_cut, behind_slash, cut_query, ends_at_slash, is_dot, is_dot_dot, is_ordinary, may_follow, named_by, origin_form, parent, path_of, path_through, place_of, place_text, plain_segments, raw_parts, step, target_of, unescaped, with_segment, with_slash, without_parameters, onto}
use Rattle.cy_event.proofs.Cuts.{Lacks, cut_at-none, join-parts_at, parts_at-between, parts_at-last, parts_at-some, parts_lack}
use Rattle.cy_target.specs.Laws.{OwnPathsAreReadBack, PathsAreClean, PathsStayBelowRoot, is_clean, is_clean_path, is_plain_byte}
use Rattle.cy_target.proofs.WalkLemmas.{dots_are_not_ordinary, plain_lacks, rest_is_some, with-some}

-- ---- no segment leads above the root

-- so many of the segments pass
one_more : (p : List ℕ → Bool) (segment : List ℕ) (segments : List (List ℕ)) (t : Bool) → p segment ≡ t
    → count_by p (segment ∷ segments) ≡ cond t 1 0 + count_by p segments
one_more p segment segments t e = sum_by-cons (λ x. cond (p x) 1 0) segment segments ∙ ap (λ (b : Bool). cond b 1 0 + count_by p segments) e

take-none : (n : ℕ) → let none : List (List ℕ) = [] in take n none ≡ none
take-none zero = refl
take-none (suc n) = refl

abbrev StaysFrom : ℕ → List (List ℕ) → Type 0
StaysFrom depth segments = (n : ℕ) → count_by is_dot_dot (take n segments) ≤ depth + count_by is_ordinary (take n segments)

-- the bound before a segment and behind it
before_segment : (segment : List ℕ) (segments : List (List ℕ)) (depth there : ℕ) (up ordinary : Bool) → is_dot_dot segment ≡ up → is_ordinary segment ≡ ordinary
    → there + cond up 1 0 ≡ depth + cond ordinary 1 0 → StaysFrom there segments → StaysFrom depth (segment ∷ segments)
before_segment segment segments depth there up ordinary u o e stays zero = omega arith
before_segment segment segments depth there up ordinary u o e stays (suc n) =
    omega (arith, one_more is_dot_dot segment (take n segments) up u, one_more is_ordinary segment (take n segments) ordinary o, stays n)

behind_segment : (segment : List ℕ) (segments : List (List ℕ)) (depth there : ℕ) (up ordinary : Bool) → is_dot_dot segment ≡ up → is_ordinary segment ≡ ordinary
    → there + cond up 1 0 ≡ depth + cond ordinary 1 0 → StaysFrom depth (segment ∷ segments) → StaysFrom there segments
behind_segment segment segments depth there up ordinary u o e stays n =
    omega (arith, one_more is_dot_dot segment (take n segments) up u, one_more is_ordinary segment (take n segments) ordinary o, stays (suc n))

abbrev Decided : List (List ℕ) → List (List ℕ) → Type 0
Decided names segments = (is_some (place_of names segments) ≡ true) ↔ StaysFrom (length names) segments

root_is_left : (segment : List ℕ) (segments : List (List ℕ)) → is_dot_dot segment ≡ true → StaysFrom 0 (segment ∷ segments) → ⊥
root_is_left segment segments up stays =
    omega (arith, one_more is_dot_dot segment [] true up, one_more is_ordinary segment [] false (dots_are_not_ordinary segment up), stays 1)

step_is : (names : List (List ℕ)) (segment : List ℕ) (up ordinary : Bool) → is_dot_dot segment ≡ up → is_ordinary segment ≡ ordinary
    → step names segment ≡ cond up (parent names) (Some (cond ordinary (segment ∷ names) names))
step_is names segment up ordinary u o =
    ap (λ (t : Bool). cond (is_dot_dot segment) (parent names) (Some (cond t (segment ∷ names) names))) o
    ∙ ap (λ (t : Bool). cond t (parent names) (Some (cond ordinary (segment ∷ names) names))) u

moved : (names there : List (List ℕ)) (segment : List ℕ) (segments : List (List ℕ)) (up ordinary : Bool) → is_dot_dot segment ≡ up → is_ordinary segment ≡ ordinary
    → step names segment ≡ Some there → length there + cond up 1 0 ≡ length names + cond ordinary 1 0
    → Decided there segments → Decided names (segment ∷ segments)
moved names there segment segments up ordinary u o e size d =
    let same : is_some (place_of names (segment ∷ segments)) ≡ is_some (place_of there segments)
    = ap (λ (stepped : Option (List (List ℕ))). is_some (option_and_then (λ place. place_of place segments) stepped)) e in (
      λ some. before_segment segment segments (length names) (length there) up ordinary u o size (d.0 (sym same ∙ some)),
      λ stays. same ∙ d.1 (behind_segment segment segments (length names) (length there) up ordinary u o size stays),
    )

decided_by : (names : List (List ℕ)) (segment : List ℕ) (segments : List (List ℕ)) → ((there : List (List ℕ)) → Decided there segments)
    → (up ordinary : Bool) → is_dot_dot segment ≡ up → is_ordinary segment ≡ ordinary → Decided names (segment ∷ segments)
decided_by [] segment segments ih true ordinary u o =
    let none : is_some (place_of [] (segment ∷ segments)) ≡ false
    = ap (λ (stepped : Option (List (List ℕ))). is_some (option_and_then (λ place. place_of place segments) stepped)) (step_is [] segment true ordinary u o) in
    (λ some. absurd (false≢true (sym none ∙ some)), λ stays. absurd (root_is_left segment segments u stays))
decided_by (name ∷ names) segment segments ih true ordinary u o =
    let plain : ordinary ≡ false = sym o ∙ dots_are_not_ordinary segment u in
    moved (name ∷ names) names segment segments true false u (o ∙ plain) (step_is (name ∷ names) segment true ordinary u o) (omega arith) (ih names)
decided_by names segment segments ih false true u o =
    moved names (segment ∷ names) segment segments false true u o (step_is names segment false true u o) (omega arith) (ih (segment ∷ names))
decided_by names segment segments ih false false u o =
    moved names names segment segments false false u o (step_is names segment false false u o) (omega arith) (ih names)

decided : (segments : List (List ℕ)) (names : List (List ℕ)) → Decided names segments
decided [] names = (λ some. λ n. rw take-none (omega arith), λ stays. refl)
decided (segment ∷ segments) names = decided_by names segment segments (decided segments) (is_dot_dot segment) (is_ordinary segment) refl refl

is_some-map : {A B : Type 0} (f : A → B) (o : Option A) → is_some (option_map f o) ≡ is_some o
is_some-map f None = refl
is_some-map f (Some x) = refl

pub paths_stay_below_the_root : PathsStayBelowRoot
paths_stay_below_the_root raw segments e =
    let same : is_some (path_of raw) ≡ is_some (place_of [] segments)
    = ap (λ (o : Option (List (List ℕ))). is_some (option_and_then (path_through []) o)) e ∙ is_some-map _ (place_of [] segments) in
    let d = decided segments [] in
    (λ some. λ n. omega (arith, d.0 (sym same ∙ some) n), λ stays. same ∙ d.1 (λ n. omega (arith, stays n)))

-- ---- the parts of a path

-- the names, the first one first
abbrev ordered : List (List ℕ) → List (List ℕ)
ordered [] = []
ordered (name ∷ names) = ordered names ++ name ∷ []

-- a name: no slash in it, and neither empty nor dots
abbrev IsName : List ℕ → Type 0
IsName name = Lacks 47 name × (is_ordinary name ≡ true)

parts_of_place : (names : List (List ℕ)) → All IsName names → parts_at 47 (place_text names) ≡ [] ∷ ordered names
parts_of_place [] all = refl
parts_of_place (name ∷ names) all =
    parts_at-between 47 (place_text names) name
    ∙ ap (λ (parts : List (List ℕ)). parts ++ parts_at 47 name) (parts_of_place names (All-tail IsName name names all))
    ∙ ap (λ (parts : List (List ℕ)). [] ∷ (ordered names ++ parts)) (parts_at-last 47 name (All-head IsName name names all).0)

all_push : (p : List ℕ → Bool) (xs : List (List ℕ)) (last : List ℕ) → list_all p xs ≡ true → p last ≡ true → list_all p (xs ++ last ∷ []) ≡ true
all_push p [] last all e = and_from _ _ e refl
all_push p (x ∷ xs) last all e = let parts = and_parts (p x) _ all in and_from _ _ parts.0 (all_push p xs last parts.1 e)

ordered_are : (names : List (List ℕ)) → All IsName names → list_all is_ordinary (ordered names) ≡ true
ordered_are [] all = refl
ordered_are (name ∷ names) all =
    all_push is_ordinary (ordered names) name (ordered_are names (All-tail IsName name names all)) (All-head IsName name names all).1

clean_push : (xs : List (List ℕ)) (last : List ℕ) → list_all is_ordinary xs ≡ true → not (is_dot last || is_dot_dot last) ≡ true → is_clean (xs ++ last ∷ []) ≡ true
clean_push [] last all e = e
clean_push (x ∷ []) last all e = and_from _ _ (and_parts (is_ordinary x) _ all).0 e
clean_push (x ∷ y ∷ xs) last all e =
    let parts = and_parts (is_ordinary x) _ all in and_from _ _ parts.0 (clean_push (y ∷ xs) last parts.1 e)

ordinary_is_no_dot : (segment : List ℕ) → is_ordinary segment ≡ true → not (is_dot segment || is_dot_dot segment) ≡ true
ordinary_is_no_dot segment e = by_tests (is_empty segment) (is_dot segment || is_dot_dot segment) e
  where
    by_tests : (a b : Bool) → not (a || b) ≡ true → not b ≡ true
    by_tests true b e = absurd (false≢true e)
    by_tests false b e = e

-- a text is a clean path by its parts
clean_by_test : (b : ℕ) (rest : List ℕ) (ps : List (List ℕ)) (t : Bool) → cond t ([] ∷ parts_at 47 rest) (onto_first b (parts_at 47 rest)) ≡ [] ∷ ps
    → is_clean ps ≡ true → (t && is_clean (parts_at 47 rest)) ≡ true
clean_by_test b rest ps true e clean = let same : parts_at 47 rest ≡ ps = cc in ap is_clean same ∙ clean
clean_by_test b rest ps false e clean = absurd (first_is_some b (parts_at 47 rest) ps e)
  where
    first_is_some : (x : ℕ) (qs ps : List (List ℕ)) → onto_first x qs ≡ [] ∷ ps → ⊥
    first_is_some x [] ps e = cc
    first_is_some x (q ∷ qs) ps e = cc

clean_by_parts : (path : List ℕ) (ps : List (List ℕ)) → parts_at 47 path ≡ [] ∷ ps → is_clean ps ≡ true → is_clean_path path ≡ true
clean_by_parts [] ps e clean = let none : [] ≡ ps = cc in absurd (false≢true (ap is_clean none ∙ clean))
clean_by_parts (b ∷ rest) ps e clean = clean_by_test b rest ps (eqb b 47) e clean

clean_text : (names : List (List ℕ)) (at_slash : Bool) → All IsName names → (at_slash ≡ false → names ≡ [] → ⊥) → is_clean_path (with_slash at_slash (place_text names)) ≡ true
clean_text names true all some =
    clean_by_parts (place_text names ++ 47 ∷ []) (ordered names ++ [] ∷ [])
    (parts_at-between 47 (place_text names) [] ∙ ap (λ (parts : List (List ℕ)). parts ++ [] ∷ []) (parts_of_place names all))
    (clean_push (ordered names) [] (ordered_are names all) refl)
clean_text [] false all some = absurd (some refl refl)
clean_text (name ∷ names) false all some =
    let head = All-head IsName name names all in
    clean_by_parts (place_text (name ∷ names)) (ordered names ++ name ∷ []) (parts_of_place (name ∷ names) all)
    (clean_push (ordered names) name (ordered_are names (All-tail IsName name names all)) (ordinary_is_no_dot name head.1))

-- ---- the names of a place

names_by_tests : (names there : List (List ℕ)) (segment : List ℕ) (up ordinary : Bool) → is_ordinary segment ≡ ordinary → All IsName names → Lacks 47 segment
    → cond up (parent names) (Some (cond ordinary (segment ∷ names) names)) ≡ Some there → All IsName there
names_by_tests [] there segment true ordinary o all lacks e = absurd (cc)
names_by_tests (name ∷ names) there segment true ordinary o all lacks e =
    let same : names ≡ there = cc in subst (All IsName) same (All-tail IsName name names all)
names_by_tests names there segment false true o all lacks e =
    let same : segment ∷ names ≡ there = cc in subst (All IsName) same (All-cons IsName segment names (lacks, o) all)
names_by_tests names there segment false false o all lacks e =
    let same : names ≡ there = cc in subst (All IsName) same all

stepped_names : (names there : List (List ℕ)) (segment : List ℕ) → All IsName names → Lacks 47 segment → step names segment ≡ Some there → All IsName there
stepped_names names there segment all lacks e = names_by_tests names there segment (is_dot_dot segment) (is_ordinary segment) refl all lacks e

through_some : (segments : List (List ℕ)) (stepped : Option (List (List ℕ))) (there : List (List ℕ)) → option_and_then (λ place. place_of place segments) stepped ≡ Some there
    → (place : List (List ℕ)) × (stepped ≡ Some place) × (place_of place segments ≡ Some there)
through_some segments None there e = absurd (cc)
through_some segments (Some place) there e = (place, refl, e)

placed_names : (segments names there : List (List ℕ)) → All IsName names → All (Lacks 47) segments → place_of names segments ≡ Some there → All IsName there
placed_names [] names there all lacks e = let same : names ≡ there = cc in subst (All IsName) same all
placed_names (segment ∷ segments) names there all lacks e =
    let w = through_some segments (step names segment) there e in
    placed_names segments w.0 there (stepped_names names w.0 segment all (All-head (Lacks 47) segment segments lacks) w.1)
    (All-tail (Lacks 47) segment segments lacks) w.2

-- a last segment that is a name is one of the names
last_by_tests : (names there : List (List ℕ)) (segment : List ℕ) (up ordinary : Bool) → is_dot_dot segment ≡ up → is_ordinary segment ≡ ordinary → ordinary ≡ true
    → cond up (parent names) (Some (cond ordinary (segment ∷ names) names)) ≡ Some there → there ≡ [] → ⊥
last_by_tests names there segment true ordinary u o is e none = false≢true (sym (dots_are_not_ordinary segment u) ∙ o ∙ is)
last_by_tests names there segment false true u o is e none = cc
last_by_tests names there segment false false u o is e none = false≢true is

ends_in_name : (segments names there : List (List ℕ)) → (segments ≡ [] → ⊥) → place_of names segments ≡ Some there → ends_at_slash segments ≡ false → there ≡ [] → ⊥
ends_in_name [] names there some e ends none = some refl
ends_in_name (segment ∷ []) names there some e ends none =
    let w = through_some [] (step names segment) there e in
    let same : w.0 ≡ there = cc in
    last_by_tests names w.0 segment (is_dot_dot segment) (is_ordinary segment) refl refl (not-false _ ends) w.1 (same ∙ none)
ends_in_name (segment ∷ next ∷ segments) names there some e ends none =
    let w = through_some (next ∷ segments) (step names segment) there e in
    ends_in_name (next ∷ segments) w.0 there (λ wrong. cc) w.2 ends none

-- ---- paths that are read are clean

segments_lack : (parts segments : List (List ℕ)) → All (Lacks 47) parts → plain_segments parts ≡ Some segments → All (Lacks 47) segments
segments_lack [] segments lacks e = let same : [] ≡ segments = cc in subst (All (Lacks 47)) same (All-nil (Lacks 47))
segments_lack (part ∷ parts) segments lacks e =
    let w = with-some (unescaped (without_parameters part)) (plain_segments parts) segments e in
    subst (All (Lacks 47)) (sym w.2)
    (All-cons (Lacks 47) w.0 w.1 (plain_lacks part w.0 (All-head (Lacks 47) part parts lacks) w.3)
    (segments_lack parts w.1 (All-tail (Lacks 47) part parts lacks) w.4))

path_some : (segments : List (List ℕ)) (place : Option (List (List ℕ))) (path : List ℕ) → option_map (λ there. with_slash (ends_at_slash segments) (place_text there)) place ≡ Some path
    → (there : List (List ℕ)) × (place ≡ Some there) × (with_slash (ends_at_slash segments) (place_text there) ≡ path)
path_some segments None path e = absurd (cc)
path_some segments (Some there) path e = (there, refl, cc)

segments_some : (plain : Option (List (List ℕ))) (path : List ℕ) → option_and_then (path_through []) plain ≡ Some path
    → (segments : List (List ℕ)) × (plain ≡ Some segments) × (path_through [] segments ≡ Some path)
segments_some None path e = absurd (cc)
segments_some (Some segments) path e = (segments, refl, e)

path_is_clean : (raw path : List ℕ) → path_of raw ≡ Some path → is_clean_path path ≡ true
path_is_clean raw path e =
    let w = segments_some (plain_segments (parts_at 47 raw)) path e in
    let p = path_some w.0 (place_of [] w.0) path w.2 in
    let names = placed_names w.0 [] p.0 (All-nil IsName) (segments_lack (parts_at 47 raw) w.0 (parts_lack 47 raw) w.1) p.1 in
    subst (λ (t : List ℕ). is_clean_path t ≡ true) p.2
    (clean_text p.0 (ends_at_slash w.0) names (λ ends. ends_in_name w.0 [] p.0 (rest_is_some (parts_at 47 raw) w.0 (parts_at-some 47 raw) w.1) p.1 ends))

named_some : (parts : Option (List ℕ × Option (List ℕ))) (named : PathAndQuery) → option_and_then named_by parts ≡ Some named
    → (raw : List ℕ) × (path_of raw ≡ Some named.path)
named_some None named e = absurd (cc)
named_some (Some parts) named e = (parts.0, by_path (path_of parts.0) e)
  where
    by_path : (path : Option (List ℕ)) → option_map (λ text. record { path = text; query = parts.1 }) path ≡ Some named → path ≡ Some named.path
    by_path None e = absurd (cc)
    by_path (Some text) e = let same : record { path = text; query = parts.1 } ≡ named = cc in ap (λ (n : PathAndQuery). Some n.path) same

pub paths_are_clean : PathsAreClean
unfolding target_of
paths_are_clean method target named star e =
    let w = named_some (option_and_then raw_parts (behind_slash (origin_form target))) named (sym (cond-false _ _ _ star) ∙ e) in
    path_is_clean w.0 named.path w.1

-- ---- a path of its own

abbrev Plain : List ℕ → Type 0
Plain bytes = All (λ b. is_plain_byte b ≡ true) bytes

all_plain : (bytes : List ℕ) → list_all is_plain_byte bytes ≡ true → Plain bytes
all_plain [] e = All-nil (λ b. is_plain_byte b ≡ true)
all_plain (b ∷ bytes) e = let parts = and_parts (is_plain_byte b) _ e in All-cons (λ c. is_plain_byte c ≡ true) b bytes parts.0 (all_plain bytes parts.1)

-- a plain byte is none that the test excludes
plain_is_other : (b c : ℕ) → is_plain_byte c ≡ false → is_plain_byte b ≡ true → eqb b c ≡ false
plain_is_other b c excluded plain = ne_eqb b c (λ same. false≢true (sym excluded ∙ ap is_plain_byte (sym same) ∙ plain))

plain_lacking : (c : ℕ) → is_plain_byte c ≡ false → (bytes : List ℕ) → Plain bytes → Lacks c bytes
plain_lacking c excluded [] plain = All-nil (λ b. eqb b c ≡ false)
plain_lacking c excluded (b ∷ bytes) plain =
    All-cons (λ v. eqb v c ≡ false) b bytes (plain_is_other b c excluded (All-head (λ v. is_plain_byte v ≡ true) b bytes plain))
    (plain_lacking c excluded bytes (All-tail (λ v. is_plain_byte v ≡ true) b bytes plain))

may_follow_all : (bytes : List ℕ) → Lacks 35 bytes → Lacks 92 bytes → list_all may_follow bytes ≡ true
may_follow_all [] sign back = refl
may_follow_all (b ∷ bytes) sign back =
    and_from _ _ (ap (λ (t : Bool). not (t || eqb b 92)) (All-head (λ v. eqb v 35 ≡ false) b bytes sign) ∙ ap not (All-head (λ v. eqb v 92 ≡ false) b bytes back))
    (may_follow_all bytes (All-tail (λ v. eqb v 35 ≡ false) b bytes sign) (All-tail (λ v. eqb v 92 ≡ false) b bytes back))

no_escapes : (bytes : List ℕ) → Lacks 37 bytes → unescaped bytes ≡ Some bytes
no_escapes [] lacks = refl
no_escapes (b ∷ []) lacks = cond-false _ _ _ (All-head (λ v. eqb v 37 ≡ false) b [] lacks)
no_escapes (b ∷ c ∷ []) lacks =
    cond-false _ _ _ (All-head (λ v. eqb v 37 ≡ false) b (c ∷ []) lacks) ∙ ap (onto b) (no_escapes (c ∷ []) (All-tail (λ v. eqb v 37 ≡ false) b (c ∷ []) lacks))
no_escapes (b ∷ c ∷ d ∷ bytes) lacks =
    cond-false _ _ _ (All-head (λ v. eqb v 37 ≡ false) b (c ∷ d ∷ bytes) lacks)
    ∙ ap (onto b) (no_escapes (c ∷ d ∷ bytes) (All-tail (λ v. eqb v 37 ≡ false) b (c ∷ d ∷ bytes) lacks))

own_segment : (segment : List ℕ) → Plain segment → unescaped (without_parameters segment) ≡ Some segment
own_segment segment plain =
    let uncut : without_parameters segment ≡ segment = ap (before_cut segment) (cut_at-none 59 segment (plain_lacking 59 refl segment plain)) in
    ap unescaped uncut ∙ no_escapes segment (plain_lacking 37 refl segment plain)

plain_first : (x : ℕ) (parts : List (List ℕ)) → is_plain_byte x ≡ true → All Plain parts → All Plain (onto_first x parts)
plain_first x [] e all = All-cons Plain (x ∷ []) [] (All-cons (λ v. is_plain_byte v ≡ true) x [] e (All-nil (λ v. is_plain_byte v ≡ true))) all
plain_first x (part ∷ parts) e all =
    All-cons Plain (x ∷ part) parts (All-cons (λ v. is_plain_byte v ≡ true) x part e (All-head Plain part parts all)) (All-tail Plain part parts all)

plain_parts : (bytes : List ℕ) → Plain bytes → All Plain (parts_at 47 bytes)
plain_parts [] plain = All-cons Plain [] [] plain (All-nil Plain)
plain_parts (b ∷ bytes) plain =
    let rest = plain_parts bytes (All-tail (λ v. is_plain_byte v ≡ true) b bytes plain) in
    elim (eqb b 47) as (λ t. All Plain (cond t ([] ∷ parts_at 47 bytes) (onto_first b (parts_at 47 bytes)))) [
      | true ↦ All-cons Plain [] (parts_at 47 bytes) (All-nil (λ v. is_plain_byte v ≡ true)) rest
      | false ↦ plain_first b (parts_at 47 bytes) (All-head (λ v. is_plain_byte v ≡ true) b bytes plain) rest
    ]

own_segments : (parts : List (List ℕ)) → All Plain parts → plain_segments parts ≡ Some parts
own_segments [] all = refl
own_segments (part ∷ parts) all =
    ap (λ (o : Option (List ℕ)). with_segment o (plain_segments parts)) (own_segment part (All-head Plain part parts all))
    ∙ ap (λ (o : Option (List (List ℕ))). option_map (λ more. part ∷ more) o) (own_segments parts (All-tail Plain part parts all))

ordinary_is_not_up : (segment : List ℕ) → is_ordinary segment ≡ true → is_dot_dot segment ≡ false
ordinary_is_not_up segment e = elim (cases_Bool (is_dot_dot segment)) as (λ w. is_dot_dot segment ≡ false) [
  | inl up ↦ absurd (false≢true (sym (dots_are_not_ordinary segment up) ∙ e))
  | inr other ↦ other
]

ordinary_step : (names : List (List ℕ)) (segment : List ℕ) → is_ordinary segment ≡ true → step names segment ≡ Some (segment ∷ names)
ordinary_step names segment e = step_is names segment false true (ordinary_is_not_up segment e) e

-- the end of a clean path
own_last : (names : List (List ℕ)) (segment : List ℕ) → not (is_dot segment || is_dot_dot segment) ≡ true
    → path_through names (segment ∷ []) ≡ Some (place_text names ++ 47 ∷ segment)
own_last names [] e = refl
own_last names (b ∷ bytes) e =
    let segment : List ℕ = b ∷ bytes in
    let o : is_ordinary segment ≡ true = e in
    ap (λ (stepped : Option (List (List ℕ))). option_map (λ there. with_slash (not (is_ordinary segment)) (place_text there)) (option_and_then (λ place. Some place) stepped))
    (ordinary_step names segment o)
    ∙ ap (λ (t : Bool). Some (with_slash (not t) (place_text (segment ∷ names)))) o

own_through : (names : List (List ℕ)) (segments : List (List ℕ)) → is_clean segments ≡ true
    → path_through names segments ≡ Some (place_text names ++ 47 ∷ join_with_byte 47 segments)
own_through names [] e = absurd (false≢true e)
own_through names (segment ∷ []) e = own_last names segment e
own_through names (segment ∷ next ∷ segments) e =
    let parts = and_parts (is_ordinary segment) _ e in
    ap (λ (stepped : Option (List (List ℕ))). option_map (λ there. with_slash (ends_at_slash (next ∷ segments)) (place_text there)) (option_and_then (λ place. place_of place (next ∷ segments)) stepped))
    (ordinary_step names segment parts.0)
    ∙ own_through (segment ∷ names) (next ∷ segments) parts.1
    ∙ ap (λ (t : List ℕ). Some t) (append_assoc (place_text names) (47 ∷ segment) (47 ∷ join_with_byte 47 (next ∷ segments)))

own_path : (rest : List ℕ) → Plain rest → is_clean (parts_at 47 rest) ≡ true → path_of rest ≡ Some (47 ∷ rest)
own_path rest plain clean =
    ap (option_and_then (path_through [])) (own_segments (parts_at 47 rest) (plain_parts rest plain))
    ∙ own_through [] (parts_at 47 rest) clean
    ∙ ap (λ (t : List ℕ). Some (47 ∷ t)) (join-parts_at 47 rest)

own_raw : (rest : List ℕ) → Plain rest → raw_parts rest ≡ Some (rest, None)
own_raw rest plain =
    cond-true _ _ _ (may_follow_all rest (plain_lacking 35 refl rest plain) (plain_lacking 92 refl rest plain))
    ∙ ap (λ (cut : Option (List ℕ × List ℕ)). Some (cut_query rest cut)) (cut_at-none 63 rest (plain_lacking 63 refl rest plain))

own_target : (method rest : List ℕ) → Plain rest → is_clean (parts_at 47 rest) ≡ true → target_of method (47 ∷ rest) ≡ Some (record { path = 47 ∷ rest; query = None })
unfolding target_of
own_target method rest plain clean =
    let name : Option (List ℕ) → Option PathAndQuery = option_map (λ text. record { path = text; query = None }) in
    cond-false _ _ _ (and_right (bytes_eq method (codes "OPTIONS")) _ refl)
    ∙ ap (option_and_then named_by) (own_raw rest plain)
    ∙ ap name (own_path rest plain clean)

pub own_paths_are_read_back : OwnPathsAreReadBack
own_paths_are_read_back method [] clean plain = absurd (false≢true clean)
own_paths_are_read_back method (b ∷ rest) clean plain =
    let parts = and_parts (eqb b 47) _ clean in
    let bytes = and_parts (is_plain_byte b) _ plain in
    let same : b ≡ 47 = eqb-true b 47 parts.0 in
    subst (λ (c : ℕ). target_of method (c ∷ rest) ≡ Some (record { path = c ∷ rest; query = None })) (sym same)
    (own_target method rest (all_plain rest bytes.1) parts.1)
