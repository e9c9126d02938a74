-- Forms of a target: what the code finds is what the definition names.
use Rattle.std.proofs.Common.{◌≡◌, ℕ, ◌+◌, ◌-◌, ◌<◌, Bool, true, false, not, ◌||◌, cond, List, [], ◌∷◌, length, take, drop, refl, sym, ap, ◌∙◌, arith, eqb, Some, None, length-take, length-drop, suc, inl, inr, codes}
use Rattle.std.specs.List.{position, position_or_len}
use Rattle.std.proofs.lemmas.List.{take_all, drop_all, length-map}
use Rattle.std.proofs.lemmas.Bool.{eqb-true, cases_Bool}
use Rattle.std.specs.Str.{str_to_ascii_lowercase}
use Rattle.std.specs.Cmp.Lexicographic.{bytes_decides}
use Rattle.cy_event.specs.Targets.{after_authority, begins_with, behind_slash, ends_authority, origin_form, with_path, within_authority}
use Rattle.cy_event.proofs.Cuts.{no_place}
use Rattle.cy_target.specs.Reading.{behind_scheme, without_slash}

-- ---- the end of an authority

rest_from : (b : ℕ) (bytes : List ℕ) (n : ℕ) → after_authority bytes ≡ drop n bytes
    → (t : Bool) → cond t (b ∷ bytes) (after_authority bytes) ≡ drop (cond (not t) (1 + n) 0) (b ∷ bytes)
rest_from b bytes n ih true = refl
rest_from b bytes n ih false = let next : suc n ≡ 1 + n = omega arith in ih ∙ ap (λ (k : ℕ). drop k (b ∷ bytes)) next

after_authority-is : (bytes : List ℕ) → after_authority bytes ≡ drop (position_or_len ends_authority bytes) bytes
after_authority-is [] = refl
after_authority-is (b ∷ bytes) = rest_from b bytes (position_or_len ends_authority bytes) (after_authority-is bytes) (ends_authority b)

place_by_test : (p : ℕ → Bool) (xs : List ℕ) (n : ℕ) (t : Bool) → Some n ≡ cond t (Some (position_or_len p xs)) None → n ≡ position_or_len p xs
place_by_test p xs n true e = cc
place_by_test p xs n false e = absurd (cc)

pub authority_ends : (bytes : List ℕ) (n : ℕ) → Some n ≡ position ends_authority bytes → take (length bytes - n) (drop n bytes) ≡ after_authority bytes
authority_ends bytes n e =
    let place : n ≡ position_or_len ends_authority bytes = place_by_test ends_authority bytes n _ e in
    take_all _ (drop n bytes) (omega (arith, length-drop n bytes)) ∙ ap (λ (k : ℕ). drop k bytes) place ∙ sym (after_authority-is bytes)

pub authority_is_all : (bytes : List ℕ) → None ≡ position ends_authority bytes → [] ≡ after_authority bytes
authority_is_all bytes e =
    sym (drop_all _ bytes (no_place ends_authority bytes _ refl e)) ∙ sym (after_authority-is bytes)

-- ---- a word that stands first

pub too_short : (word bytes : List ℕ) → length bytes < length word → begins_with word bytes ≡ false
too_short word bytes short = elim (cases_Bool (begins_with word bytes)) as (λ w. begins_with word bytes ≡ false) [
  | inl same ↦
      let lists = (bytes_decides (str_to_ascii_lowercase (take (length word) bytes)) (str_to_ascii_lowercase word)).0 same in
      absurd (omega (arith, simp length-map at (ap length lists), length-take (length word) bytes))
  | inr other ↦ other
]

-- ---- the slash of a path

slash_by_test : (b : ℕ) (bytes : List ℕ) (s m : Bool) → eqb b 47 ≡ s → eqb b 63 ≡ m → (s || m) ≡ true
    → behind_slash (with_path (b ∷ bytes)) ≡ Some (without_slash (b ∷ bytes))
slash_by_test b bytes true true s m e =
    let one : b ≡ 47 = eqb-true b 47 s in
    let other : b ≡ 63 = eqb-true b 63 m in
    absurd (omega arith)
slash_by_test b bytes true false s m e = simp (s, m)
slash_by_test b bytes false true s m e = simp (s, m)
slash_by_test b bytes false false s m e = absurd (cc)

rest_by_test : (b : ℕ) (bytes : List ℕ) → behind_slash (with_path (after_authority bytes)) ≡ Some (without_slash (after_authority bytes))
    → (t : Bool) → ends_authority b ≡ t
    → behind_slash (with_path (cond t (b ∷ bytes) (after_authority bytes))) ≡ Some (without_slash (cond t (b ∷ bytes) (after_authority bytes)))
rest_by_test b bytes ih true e = slash_by_test b bytes (eqb b 47) (eqb b 63) refl refl e
rest_by_test b bytes ih false e = ih

-- behind an authority stands a path or nothing, and then the slash is put there
path_of_rest : (bytes : List ℕ) → behind_slash (with_path (after_authority bytes)) ≡ Some (without_slash (after_authority bytes))
path_of_rest [] = refl
path_of_rest (b ∷ bytes) = rest_by_test b bytes (path_of_rest bytes) (ends_authority b) refl

-- ---- both forms

scheme_by_tests : (target rest : List ℕ) (http https : Bool)
    → cond http (Some (drop 7 target)) (cond https (Some (drop 8 target)) None) ≡ Some rest
    → cond http (within_authority (codes "http://") target) (cond https (within_authority (codes "https://") target) target) ≡ with_path (after_authority rest)
scheme_by_tests target rest true https e = let same : drop 7 target ≡ rest = cc in ap (λ (r : List ℕ). with_path (after_authority r)) same
scheme_by_tests target rest false true e = let same : drop 8 target ≡ rest = cc in ap (λ (r : List ℕ). with_path (after_authority r)) same
scheme_by_tests target rest false false e = absurd (cc)

pub absolute_is : (target rest : List ℕ) → behind_scheme target ≡ Some rest → behind_slash (origin_form target) ≡ Some (without_slash (after_authority rest))
absolute_is target rest e =
    ap behind_slash (scheme_by_tests target rest (begins_with (codes "http://") target) (begins_with (codes "https://") target) e)
    ∙ path_of_rest rest

origin_by_tests : (target : List ℕ) (http https : Bool)
    → cond http (Some (drop 7 target)) (cond https (Some (drop 8 target)) None) ≡ None
    → cond http (within_authority (codes "http://") target) (cond https (within_authority (codes "https://") target) target) ≡ target
origin_by_tests target true https e = absurd (cc)
origin_by_tests target false true e = absurd (cc)
origin_by_tests target false false e = refl

pub origin_is : (target : List ℕ) → behind_scheme target ≡ None → origin_form target ≡ target
origin_is target e = origin_by_tests target (begins_with (codes "http://") target) (begins_with (codes "https://") target) e
