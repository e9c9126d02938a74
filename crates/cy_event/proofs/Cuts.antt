-- Bytes that are cut at the first of a kind, or at all of them.
use Rattle.std.proofs.Common.{◌≡◌, ℕ, ◌+◌, ◌-◌, ◌<◌, ◌≤◌, Bool, true, false, cond, List, [], ◌∷◌, ◌++◌, length, get_or, take, drop, refl, sym, ap, ◌∙◌, subst, arith, eqb, ltb, Option, Some, None, length-take, length-drop, get_or-take, take-append-drop}
use Rattle.std.specs.List.{All, join_with_byte, onto_first, position, position_or_len}
use Rattle.std.proofs.lemmas.List.{drop_more, take_all}
use Rattle.std.proofs.lemmas.List.Elements.{All-head, All-tail, All-cons, All-nil, All-from_get_or}
use Rattle.std.proofs.lemmas.List.Quantifiers.{position-Some}
use Rattle.std.proofs.lemmas.List.Sums.{fails_before_first}
use Rattle.std.proofs.lemmas.Bool.{cond-true, cond-false, ltb-false, eqb-true, eq-eqb}
use Rattle.cy_event.specs.Heads.{parts_at, cut_at, onto_cut}

-- none of the bytes is this one
abbrev pub Lacks : ℕ → List ℕ → Type 0
Lacks byte bytes = All (λ b. eqb b byte ≡ false) bytes

-- ---- parts

pub parts_at-first : (c : ℕ) (xs rest : List ℕ) → Lacks c xs → parts_at c (xs ++ c ∷ rest) ≡ xs ∷ parts_at c rest
parts_at-first c [] rest lacks = cond-true (eqb c c) _ _ (eq-eqb c c refl)
parts_at-first c (x ∷ xs) rest lacks =
    cond-false _ _ _ (All-head (λ b. eqb b c ≡ false) x xs lacks)
    ∙ ap (onto_first x) (parts_at-first c xs rest (All-tail (λ b. eqb b c ≡ false) x xs lacks))

pub parts_at-last : (c : ℕ) (xs : List ℕ) → Lacks c xs → parts_at c xs ≡ xs ∷ []
parts_at-last c [] lacks = refl
parts_at-last c (x ∷ xs) lacks =
    cond-false _ _ _ (All-head (λ b. eqb b c ≡ false) x xs lacks)
    ∙ ap (onto_first x) (parts_at-last c xs (All-tail (λ b. eqb b c ≡ false) x xs lacks))

some_of_test : (x : ℕ) (t : Bool) (ps qs : List (List ℕ)) → cond t ([] ∷ ps) (onto_first x qs) ≡ [] → ⊥
some_of_test x true ps qs e = cc
some_of_test x false ps [] e = cc
some_of_test x false ps (q ∷ qs) e = cc

-- there is a first part
pub parts_at-some : (c : ℕ) (xs : List ℕ) → parts_at c xs ≡ [] → ⊥
parts_at-some c [] e = cc
parts_at-some c (x ∷ xs) e = some_of_test x (eqb x c) (parts_at c xs) (parts_at c xs) e

-- ---- a cut at the first byte of a kind

pub cut_at-first : (c : ℕ) (xs rest : List ℕ) → Lacks c xs → cut_at c (xs ++ c ∷ rest) ≡ Some (xs, rest)
cut_at-first c [] rest lacks = cond-true (eqb c c) _ _ (eq-eqb c c refl)
cut_at-first c (x ∷ xs) rest lacks =
    cond-false _ _ _ (All-head (λ b. eqb b c ≡ false) x xs lacks)
    ∙ ap (onto_cut x) (cut_at-first c xs rest (All-tail (λ b. eqb b c ≡ false) x xs lacks))

pub cut_at-none : (c : ℕ) (xs : List ℕ) → Lacks c xs → cut_at c xs ≡ None
cut_at-none c [] lacks = refl
cut_at-none c (x ∷ xs) lacks =
    cond-false _ _ _ (All-head (λ b. eqb b c ≡ false) x xs lacks)
    ∙ ap (onto_cut x) (cut_at-none c xs (All-tail (λ b. eqb b c ≡ false) x xs lacks))

-- a text with such a byte, by its place
pub lacks_before : (c : ℕ) (xs : List ℕ) (n : ℕ) → n ≤ length xs → ((k : ℕ) → k < n → eqb (get_or xs k 0) c ≡ false) → Lacks c (take n xs)
lacks_before c xs n fits each =
    All-from_get_or (λ b. eqb b c ≡ false) (take n xs) 0 λ k below.
    let inside : k < n = omega (arith, length-take n xs) in
    rw get_or-take (each k inside)

split_at_place : (c : ℕ) (xs : List ℕ) (n : ℕ) → n < length xs → eqb (get_or xs n 0) c ≡ true → xs ≡ take n xs ++ c ∷ drop (n + 1) xs
split_at_place c xs n inside here =
    let is : get_or xs n 0 ≡ c = eqb-true _ _ here in
    sym (take-append-drop n xs) ∙ ap (λ (r : List ℕ). take n xs ++ r) (drop_more xs n 0 inside ∙ ap (λ (b : ℕ). b ∷ drop (n + 1) xs) is)

pub cut_at_place : (c : ℕ) (xs : List ℕ) (n : ℕ) → Some n ≡ position (λ b. eqb b c) xs
    → cut_at c xs ≡ Some (take n xs, take (length xs - (n + 1)) (drop (n + 1) xs))
cut_at_place c xs n e =
    let place = position-Some (λ b. eqb b c) xs n 0 (sym e) in
    let inside : n < length xs = place.0 in
    let all : take (length xs - (n + 1)) (drop (n + 1) xs) ≡ drop (n + 1) xs = take_all _ (drop (n + 1) xs) (omega (arith, length-drop (n + 1) xs)) in
    ap (cut_at c) (split_at_place c xs n inside place.1)
    ∙ cut_at-first c (take n xs) (drop (n + 1) xs) (lacks_before c xs n (omega arith) place.2)
    ∙ ap (λ (r : List ℕ). Some (take n xs, r)) (sym all)

-- where no byte passes, the place is past the end
pub no_place : (p : ℕ → Bool) (xs : List ℕ) (t : Bool) → ltb (position_or_len p xs) (length xs) ≡ t
    → None ≡ cond t (Some (position_or_len p xs)) None → length xs ≤ position_or_len p xs
no_place p xs true inside e = absurd (cc)
no_place p xs false outside e = ltb-false _ _ outside

pub cut_at_no_place : (c : ℕ) (xs : List ℕ) → None ≡ position (λ b. eqb b c) xs → cut_at c xs ≡ None
cut_at_no_place c xs e =
    let p : ℕ → Bool = λ b. eqb b c in
    let past = no_place p xs _ refl e in
    cut_at-none c xs (All-from_get_or (λ b. eqb b c ≡ false) xs 0 (λ k below. fails_before_first p xs k 0 (omega (arith, past))))

-- ---- a cut and the parts

some_parts : {a b : List ℕ} (p : List ℕ × List ℕ) → Some p ≡ Some (a, b) → (p.0 ≡ a) × (p.1 ≡ b)
some_parts p e = (cc, cc)

parts_by_test : (c x : ℕ) (xs a b : List ℕ) (cut : Option (List ℕ × List ℕ))
    → ((f r : List ℕ) → cut ≡ Some (f, r) → parts_at c xs ≡ f ∷ parts_at c r)
    → (t : Bool) → cond t (Some ([], xs)) (onto_cut x cut) ≡ Some (a, b)
    → cond t ([] ∷ parts_at c xs) (onto_first x (parts_at c xs)) ≡ a ∷ parts_at c b
parts_by_test c x xs a b cut ih true e =
    let p = some_parts ([], xs) e in
    ap (λ (f : List ℕ). f ∷ parts_at c xs) p.0 ∙ ap (λ (r : List ℕ). a ∷ parts_at c r) p.1
parts_by_test c x xs a b None ih false e = absurd (cc)
parts_by_test c x xs a b (Some cut) ih false e =
    let p = some_parts (x ∷ cut.0, cut.1) e in
    ap (onto_first x) (ih cut.0 cut.1 refl)
    ∙ ap (λ (f : List ℕ). f ∷ parts_at c cut.1) p.0 ∙ ap (λ (r : List ℕ). a ∷ parts_at c r) p.1

pub parts_at-cut : (c : ℕ) (xs a b : List ℕ) → cut_at c xs ≡ Some (a, b) → parts_at c xs ≡ a ∷ parts_at c b
parts_at-cut c [] a b e = absurd (cc)
parts_at-cut c (x ∷ xs) a b e = parts_by_test c x xs a b (cut_at c xs) (parts_at-cut c xs) (eqb x c) e

uncut_by_test : (c x : ℕ) (xs : List ℕ) (cut : Option (List ℕ × List ℕ)) → (cut ≡ None → Lacks c xs)
    → (t : Bool) → eqb x c ≡ t → cond t (Some ([], xs)) (onto_cut x cut) ≡ None → Lacks c (x ∷ xs)
uncut_by_test c x xs cut ih true is e = absurd (cc)
uncut_by_test c x xs None ih false is e = All-cons (λ b. eqb b c ≡ false) x xs is (ih refl)
uncut_by_test c x xs (Some cut) ih false is e = absurd (cc)

-- where nothing is cut there is no such byte
pub uncut_lacks : (c : ℕ) (xs : List ℕ) → cut_at c xs ≡ None → Lacks c xs
uncut_lacks c [] e = All-nil (λ b. eqb b c ≡ false)
uncut_lacks c (x ∷ xs) e = uncut_by_test c x xs (cut_at c xs) (uncut_lacks c xs) (eqb x c) refl e

pub parts_at-uncut : (c : ℕ) (xs : List ℕ) → cut_at c xs ≡ None → parts_at c xs ≡ xs ∷ []
parts_at-uncut c xs e = parts_at-last c xs (uncut_lacks c xs e)

front_by_test : (c x : ℕ) (xs a b : List ℕ) (cut : Option (List ℕ × List ℕ))
    → ((f r : List ℕ) → cut ≡ Some (f, r) → Lacks c f)
    → (t : Bool) → eqb x c ≡ t → cond t (Some ([], xs)) (onto_cut x cut) ≡ Some (a, b) → Lacks c a
front_by_test c x xs a b cut ih true is e = subst (Lacks c) (some_parts ([], xs) e).0 (All-nil (λ v. eqb v c ≡ false))
front_by_test c x xs a b None ih false is e = absurd (cc)
front_by_test c x xs a b (Some cut) ih false is e =
    subst (Lacks c) (some_parts (x ∷ cut.0, cut.1) e).0 (All-cons (λ v. eqb v c ≡ false) x cut.0 is (ih cut.0 cut.1 refl))

-- no such byte stands before the cut
pub front_lacks : (c : ℕ) (xs a b : List ℕ) → cut_at c xs ≡ Some (a, b) → Lacks c a
front_lacks c [] a b e = absurd (cc)
front_lacks c (x ∷ xs) a b e = front_by_test c x xs a b (cut_at c xs) (front_lacks c xs) (eqb x c) refl e

join_by_test : (c x : ℕ) (xs a b : List ℕ) (cut : Option (List ℕ × List ℕ))
    → ((f r : List ℕ) → cut ≡ Some (f, r) → xs ≡ f ++ c ∷ r)
    → (t : Bool) → eqb x c ≡ t → cond t (Some ([], xs)) (onto_cut x cut) ≡ Some (a, b) → x ∷ xs ≡ a ++ c ∷ b
join_by_test c x xs a b cut ih true is e =
    let p = some_parts ([], xs) e in
    let same : x ≡ c = eqb-true x c is in
    rw (← p.0, ← p.1, same)
join_by_test c x xs a b None ih false is e = absurd (cc)
join_by_test c x xs a b (Some cut) ih false is e =
    let p = some_parts (x ∷ cut.0, cut.1) e in
    rw (← p.0, ← p.1) (ap (λ (ys : List ℕ). x ∷ ys) (ih cut.0 cut.1 refl))

-- what was cut is the text
pub join-cut_at : (c : ℕ) (xs a b : List ℕ) → cut_at c xs ≡ Some (a, b) → xs ≡ a ++ c ∷ b
join-cut_at c [] a b e = absurd (cc)
join-cut_at c (x ∷ xs) a b e = join_by_test c x xs a b (cut_at c xs) (join-cut_at c xs) (eqb x c) refl e

-- ---- all parts

onto_both : (x : ℕ) (ps qs : List (List ℕ)) → (ps ≡ [] → ⊥) → onto_first x (ps ++ qs) ≡ onto_first x ps ++ qs
onto_both x [] qs some = absurd (some refl)
onto_both x (p ∷ ps) qs some = refl

two_by_test : (c x : ℕ) (xs ys : List ℕ) → parts_at c (xs ++ c ∷ ys) ≡ parts_at c xs ++ parts_at c ys → (t : Bool)
    → cond t ([] ∷ parts_at c (xs ++ c ∷ ys)) (onto_first x (parts_at c (xs ++ c ∷ ys)))
    ≡ cond t ([] ∷ parts_at c xs) (onto_first x (parts_at c xs)) ++ parts_at c ys
two_by_test c x xs ys ih true = ap (λ (ps : List (List ℕ)). [] ∷ ps) ih
two_by_test c x xs ys ih false = ap (onto_first x) ih ∙ onto_both x (parts_at c xs) (parts_at c ys) (parts_at-some c xs)

-- the parts of two texts with the byte between them are those of both
pub parts_at-between : (c : ℕ) (xs ys : List ℕ) → parts_at c (xs ++ c ∷ ys) ≡ parts_at c xs ++ parts_at c ys
parts_at-between c [] ys = cond-true (eqb c c) _ _ (eq-eqb c c refl)
parts_at-between c (x ∷ xs) ys = two_by_test c x xs ys (parts_at-between c xs ys) (eqb x c)

lacking_by_test : (c x : ℕ) (parts : List (List ℕ)) → All (Lacks c) parts → (t : Bool) → eqb x c ≡ t → All (Lacks c) (cond t ([] ∷ parts) (onto_first x parts))
lacking_by_test c x parts all true is = All-cons (Lacks c) [] parts (All-nil (λ b. eqb b c ≡ false)) all
lacking_by_test c x [] all false is = All-cons (Lacks c) (x ∷ []) [] (All-cons (λ b. eqb b c ≡ false) x [] is (All-nil (λ b. eqb b c ≡ false))) all
lacking_by_test c x (part ∷ parts) all false is =
    All-cons (Lacks c) (x ∷ part) parts (All-cons (λ b. eqb b c ≡ false) x part is (All-head (Lacks c) part parts all)) (All-tail (Lacks c) part parts all)

-- no part has the byte
pub parts_lack : (c : ℕ) (xs : List ℕ) → All (Lacks c) (parts_at c xs)
parts_lack c [] = All-cons (Lacks c) [] [] (All-nil (λ b. eqb b c ≡ false)) (All-nil (Lacks c))
parts_lack c (x ∷ xs) = lacking_by_test c x (parts_at c xs) (parts_lack c xs) (eqb x c) refl

-- ---- parts joined again

join-onto_first : (c x : ℕ) (parts : List (List ℕ)) → join_with_byte c (onto_first x parts) ≡ x ∷ join_with_byte c parts
join-onto_first c x [] = refl
join-onto_first c x (p ∷ []) = refl
join-onto_first c x (p ∷ q ∷ parts) = refl

join_after : (c : ℕ) (parts : List (List ℕ)) → (parts ≡ [] → ⊥) → join_with_byte c ([] ∷ parts) ≡ c ∷ join_with_byte c parts
join_after c [] some = absurd (some refl)
join_after c (p ∷ parts) some = refl

joined_by_test : (c x : ℕ) (xs : List ℕ) (parts : List (List ℕ)) → (parts ≡ [] → ⊥) → join_with_byte c parts ≡ xs
    → (t : Bool) → eqb x c ≡ t → join_with_byte c (cond t ([] ∷ parts) (onto_first x parts)) ≡ x ∷ xs
joined_by_test c x xs parts some same true e =
    let is : x ≡ c = eqb-true x c e in
    join_after c parts some ∙ cc
joined_by_test c x xs parts some same false e = join-onto_first c x parts ∙ ap (λ (ys : List ℕ). x ∷ ys) same

-- the parts, joined by the byte at which they were cut, are the text
pub join-parts_at : (c : ℕ) (xs : List ℕ) → join_with_byte c (parts_at c xs) ≡ xs
join-parts_at c [] = refl
join-parts_at c (x ∷ xs) = joined_by_test c x xs (parts_at c xs) (parts_at-some c xs) (join-parts_at c xs) (eqb x c) refl
