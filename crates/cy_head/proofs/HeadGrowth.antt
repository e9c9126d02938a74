-- More bytes change no answer but `awaited`.
use Rattle.std.proofs.Common.{◌≡◌, ℕ, ◌+◌, ◌<◌, ◌≤◌, Bool, true, false, not, ◌||◌, cond, List, [], ◌∷◌, ◌++◌, length, refl, sym, ap, ◌∙◌, subst, arith, length-append, eqb, leb, Option, Some, None, inl, inr}
use Rattle.std.specs.List.{onto_first, join_with_byte}
use Rattle.std.proofs.lemmas.List.{take-append-le}
use Rattle.std.proofs.lemmas.Bool.{cases_lt}
use Rattle.cy_event.specs.Heads.{awaited, malformed, parts_at, raw_lines, is_empty_line, longer_by, length_to_empty, front_length, whole_head, front_from, head_from_front, head_of}
use Rattle.cy_event.proofs.Cuts.{join-parts_at, parts_at-some}
use Rattle.cy_event.proofs.Fronts.{to_empty-cons}
use Rattle.cy_head.specs.HeadGrammar.{HeadsStay}
use Rattle.cy_head.proofs.HeadLines.{some_is, none_is_not}
use Rattle.cy_head.proofs.HeadReads.{endless_shows, large_shows}
use Rattle.cy_head.proofs.HeadFronts.{heads_are_awaited}

-- the parts of two texts in a row: the last of the first and the first of the second are one
abbrev glue : List (List ℕ) → List (List ℕ) → List (List ℕ)
glue [] later = later
glue (l ∷ []) [] = l ∷ []
glue (l ∷ []) (r ∷ later) = (l ++ r) ∷ later
glue (l ∷ m ∷ parts) later = l ∷ glue (m ∷ parts) later

glue-some : (l : List ℕ) (parts later : List (List ℕ)) → glue (l ∷ parts) later ≡ [] → ⊥
glue-some l [] [] e = cc
glue-some l [] (r ∷ later) e = cc
glue-some l (m ∷ parts) later e = cc

glue-nil : (later : List (List ℕ)) → (later ≡ [] → ⊥) → glue ([] ∷ []) later ≡ later
glue-nil [] some = absurd (some refl)
glue-nil (r ∷ later) some = refl

glue-after : (parts later : List (List ℕ)) → (parts ≡ [] → ⊥) → glue ([] ∷ parts) later ≡ [] ∷ glue parts later
glue-after [] later some = absurd (some refl)
glue-after (p ∷ parts) later some = refl

glue-onto : (x : ℕ) (parts later : List (List ℕ)) → (parts ≡ [] → ⊥) → glue (onto_first x parts) later ≡ onto_first x (glue parts later)
glue-onto x [] later some = absurd (some refl)
glue-onto x (p ∷ []) [] some = refl
glue-onto x (p ∷ []) (r ∷ later) some = refl
glue-onto x (p ∷ q ∷ parts) later some = refl

glue_by_test : (x : ℕ) (parts later all : List (List ℕ)) → (parts ≡ [] → ⊥) → all ≡ glue parts later → (t : Bool)
    → cond t ([] ∷ all) (onto_first x all) ≡ glue (cond t ([] ∷ parts) (onto_first x parts)) later
glue_by_test x parts later all some e true = ap (λ (ps : List (List ℕ)). [] ∷ ps) e ∙ sym (glue-after parts later some)
glue_by_test x parts later all some e false = ap (onto_first x) e ∙ sym (glue-onto x parts later some)

parts_at-append : (c : ℕ) (xs more : List ℕ) → parts_at c (xs ++ more) ≡ glue (parts_at c xs) (parts_at c more)
parts_at-append c [] more = sym (glue-nil (parts_at c more) (parts_at-some c more))
parts_at-append c (x ∷ xs) more =
    glue_by_test x (parts_at c xs) (parts_at c more) _ (parts_at-some c xs) (parts_at-append c xs more) (eqb x c)

-- ---- the length up to the empty line

stays_by_test : (t : Bool) (k n : ℕ) (short long : Option ℕ) → ((m : ℕ) → short ≡ Some m → long ≡ Some m)
    → cond t (Some k) (longer_by k short) ≡ Some n → cond t (Some k) (longer_by k long) ≡ Some n
stays_by_test true k n short long ih e = e
stays_by_test false k n None long ih e = absurd (none_is_not e)
stays_by_test false k n (Some m) long ih e = ap (longer_by k) (ih m refl) ∙ e

stays : (begun : Bool) (lines later : List (List ℕ)) (n : ℕ) → length_to_empty begun lines ≡ Some n
    → length_to_empty begun (glue lines later) ≡ Some n
stays begun [] later n e = absurd (none_is_not e)
stays begun (l ∷ []) later n e = absurd (none_is_not e)
stays begun (l ∷ m ∷ lines) later n e =
    to_empty-cons begun l (glue (m ∷ lines) later) (glue-some m lines later)
    ∙ stays_by_test _ (length l + 1) n _ _ (stays (begun || not (is_empty_line l)) (m ∷ lines) later) e

within_by_test : (t : Bool) (k n size : ℕ) (short : Option ℕ) → ((m : ℕ) → short ≡ Some m → m ≤ size)
    → cond t (Some k) (longer_by k short) ≡ Some n → n ≤ k + size
within_by_test true k n size short ih e = let is : k ≡ n = some_is e in omega arith
within_by_test false k n size None ih e = absurd (none_is_not e)
within_by_test false k n size (Some m) ih e = let is : k + m ≡ n = some_is e in omega (arith, ih m refl)

size-cons : (l m : List ℕ) (lines : List (List ℕ))
    → length (join_with_byte 10 (l ∷ m ∷ lines)) ≡ length l + 1 + length (join_with_byte 10 (m ∷ lines))
size-cons l m lines =
    let rest = join_with_byte 10 (m ∷ lines) in
    let e : length (l ++ 10 ∷ rest) ≡ length l + length (10 ∷ rest) = length-append l (10 ∷ rest) in
    let f : length (10 ∷ rest) ≡ length rest + 1 = omega arith in
    omega arith

within : (begun : Bool) (lines : List (List ℕ)) (n : ℕ) → length_to_empty begun lines ≡ Some n → n ≤ length (join_with_byte 10 lines)
within begun [] n e = absurd (none_is_not e)
within begun (l ∷ []) n e = absurd (none_is_not e)
within begun (l ∷ m ∷ lines) n e =
    let bound : n ≤ length l + 1 + length (join_with_byte 10 (m ∷ lines))
    = within_by_test _ (length l + 1) n _ _ (within (begun || not (is_empty_line l)) (m ∷ lines)) e in
    omega (arith, bound, size-cons l m lines)

at_least : (t : Bool) (k n : ℕ) (later : Option ℕ) → cond t (Some k) (longer_by k later) ≡ Some n → k ≤ n
at_least true k n later e = let is : k ≡ n = some_is e in omega arith
at_least false k n None e = absurd (none_is_not e)
at_least false k n (Some m) e = let is : k + m ≡ n = some_is e in omega arith

past_by_test : (t : Bool) (k n size : ℕ) (short long : Option ℕ) → (short ≡ None → (m : ℕ) → long ≡ Some m → size < m)
    → cond t (Some k) (longer_by k short) ≡ None → cond t (Some k) (longer_by k long) ≡ Some n → k + size < n
past_by_test true k n size short long ih e f = absurd (cc)
past_by_test false k n size (Some m) long ih e f = absurd (cc)
past_by_test false k n size None None ih e f = absurd (none_is_not f)
past_by_test false k n size None (Some m) ih e f = let is : k + m ≡ n = some_is f in omega (arith, ih refl m refl)

past : (begun : Bool) (lines later : List (List ℕ)) (n : ℕ) → length_to_empty begun lines ≡ None
    → (lines ≡ [] → ⊥) → length_to_empty begun (glue lines later) ≡ Some n → length (join_with_byte 10 lines) < n
past begun [] later n e some f = absurd (some refl)
past begun (l ∷ []) [] n e some f = absurd (none_is_not f)
past begun (l ∷ []) (r ∷ []) n e some f = absurd (none_is_not f)
past begun (l ∷ []) (r ∷ q ∷ later) n e some f =
    let bound : length (l ++ r) + 1 ≤ n = at_least _ (length (l ++ r) + 1) n _ f in
    omega (arith, bound, length-append l r)
past begun (l ∷ m ∷ lines) later n e some f =
    let bound : length l + 1 + length (join_with_byte 10 (m ∷ lines)) < n = past_by_test _ (length l + 1) n _ _ _
    (λ none k long. past (begun || not (is_empty_line l)) (m ∷ lines) later k none (λ x. cc) long) e
    (sym (to_empty-cons begun l (glue (m ∷ lines) later) (glue-some m lines later)) ∙ f) in
    omega (arith, bound, size-cons l m lines)

-- ---- the front

pub front_stays : (bytes more : List ℕ) (n : ℕ) → front_length bytes ≡ Some n → front_length (bytes ++ more) ≡ Some n
unfolding front_length
front_stays bytes more n e =
    ap (length_to_empty false) (parts_at-append 10 bytes more) ∙ stays false (raw_lines bytes) (raw_lines more) n e

pub front_within : (bytes : List ℕ) (n : ℕ) → front_length bytes ≡ Some n → n ≤ length bytes
unfolding front_length
front_within bytes n e =
    let bound : n ≤ length (join_with_byte 10 (raw_lines bytes)) = within false (raw_lines bytes) n e in
    subst (λ (xs : List ℕ). n ≤ length xs) (join-parts_at 10 bytes) bound

front_past : (bytes more : List ℕ) (n : ℕ) → front_length bytes ≡ None → front_length (bytes ++ more) ≡ Some n → length bytes < n
unfolding front_length
front_past bytes more n e f =
    let bound : length (join_with_byte 10 (raw_lines bytes)) < n = past false (raw_lines bytes) (raw_lines more) n e (parts_at-some 10 bytes)
    (sym (ap (length_to_empty false) (parts_at-append 10 bytes more)) ∙ f) in
    subst (λ (xs : List ℕ). length xs < n) (join-parts_at 10 bytes) bound

-- ---- the answer

size_grows : (bytes more : List ℕ) → length bytes ≤ length (bytes ++ more)
size_grows bytes more = omega (arith, length-append bytes more)

stay_endless : (max_head max_fields : ℕ) (bytes more : List ℕ) → front_length bytes ≡ None → max_head ≤ length bytes
    → (front : Option ℕ) → front_length (bytes ++ more) ≡ front → head_of max_head max_fields (bytes ++ more) ≡ malformed
stay_endless max_head max_fields bytes more none many None e =
    endless_shows max_head max_fields (bytes ++ more) (sym e) (omega (arith, many, size_grows bytes more))
stay_endless max_head max_fields bytes more none many (Some n) e =
    large_shows max_head max_fields (bytes ++ more) n (sym e) (omega (arith, many, front_past bytes more n none e))

stay_found : (max_head max_fields : ℕ) (bytes more : List ℕ) (n : ℕ) → front_length bytes ≡ Some n
    → head_of max_head max_fields (bytes ++ more) ≡ head_of max_head max_fields bytes
unfolding head_of
stay_found max_head max_fields bytes more n e =
    let inside : n ≤ length bytes = front_within bytes n e in
    ap (head_from_front max_head max_fields (bytes ++ more)) (front_stays bytes more n e)
    ∙ ap (λ (text : List ℕ). cond (leb n max_head) (front_from max_fields n (whole_head text)) malformed) (take-append-le n bytes more inside)
    ∙ ap (head_from_front max_head max_fields bytes) (sym e)

stay_by_front : (max_head max_fields : ℕ) (bytes more : List ℕ) → (head_of max_head max_fields bytes ≡ awaited → ⊥)
    → (front : Option ℕ) → front_length bytes ≡ front → head_of max_head max_fields (bytes ++ more) ≡ head_of max_head max_fields bytes
stay_by_front max_head max_fields bytes more answered (Some n) e = stay_found max_head max_fields bytes more n e
stay_by_front max_head max_fields bytes more answered None e = elim (cases_lt (length bytes) max_head) [
  | inl few ↦ absurd (answered ((heads_are_awaited max_head max_fields bytes).1 (e, few)))
  | inr many ↦ stay_endless max_head max_fields bytes more e many _ refl ∙ sym (endless_shows max_head max_fields bytes (sym e) many)
]

pub heads_stay : HeadsStay
heads_stay max_head max_fields bytes more answered = stay_by_front max_head max_fields bytes more answered _ refl
