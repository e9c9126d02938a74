-- The front is the shortest prefix that ends in an empty line after a line that isn't empty.
use Rattle.std.proofs.Common.{◌≡◌, ◌≢◌, ℕ, ◌+◌, ◌<◌, ◌≤◌, Bool, true, false, not, ◌&&◌, ◌||◌, cond, List, [], ◌∷◌, ◌++◌, length, take, drop, refl, sym, ap, ◌∙◌, subst, arith, append_assoc, length-append, length-take, take-append-drop, eqb, Option, Some, None, inl, inr}
use Rattle.std.specs.List.{All, onto_first, join_with_byte}
use Rattle.std.proofs.lemmas.List.Elements.{All-head, All-tail, All-cons, All-nil, All-weaker}
use Rattle.std.proofs.lemmas.List.{take-append-le, take_all}
use Rattle.std.proofs.lemmas.Bool.{or_right, not_from_false, cases_lt, ne_eqb, eqb-false}
use Rattle.httparse.specs.Grammar.{LineEnd, crlf, lf, print_end}
use Rattle.httparse.proofs.GrammarLemmas.{cons-append}
use Rattle.cy_event.specs.Heads.{parts_at, raw_lines, bare, is_empty, is_empty_line, longer_by, length_to_empty, front_length}
use Rattle.cy_event.proofs.Cuts.{Lacks, join-parts_at, parts_at-first, parts_at-some}
use Rattle.cy_head.specs.HeadGrammar.{ended, EndsHead, FrontsAreShortest}
use Rattle.cy_head.proofs.HeadLines.{some_is, none_is_not, end_of, bare_ends, nil_from_test}
use Rattle.cy_event.proofs.Fronts.{to_empty-cons}
use Rattle.cy_head.proofs.HeadGrowth.{front_stays, front_within}

or-false : (b : Bool) → (b || false) ≡ b
or-false true = refl
or-false false = refl

or-assoc : (a b c : Bool) → (a || (b || c)) ≡ ((a || b) || c)
or-assoc true b c = refl
or-assoc false b c = refl

ended-cons : (line : List ℕ) (lines : List (List ℕ)) (rest : List ℕ) → ended (line ∷ lines) ++ rest ≡ line ++ 10 ∷ (ended lines ++ rest)
ended-cons line lines rest = simp (append_assoc, cons-append)

regroup : (a b c d e : List ℕ) → a ++ (b ++ 10 ∷ (c ++ (d ++ e))) ≡ (a ++ (b ++ 10 ∷ (c ++ d))) ++ e
regroup a b c d e = simp append_assoc

front_size : (a b c d : List ℕ) → length (a ++ (b ++ 10 ∷ (c ++ d))) ≡ length a + (length b + 1 + (length c + length d))
front_size a b c d =
    let e : length (a ++ (b ++ 10 ∷ (c ++ d))) ≡ length a + length (b ++ 10 ∷ (c ++ d)) = length-append a (b ++ 10 ∷ (c ++ d)) in
    let f : length (b ++ 10 ∷ (c ++ d)) ≡ length b + length (10 ∷ (c ++ d)) = length-append b (10 ∷ (c ++ d)) in
    let g : length (c ++ d) ≡ length c + length d = length-append c d in
    let h : length (10 ∷ (c ++ d)) ≡ length (c ++ d) + 1 = omega arith in
    omega arith

size_by_test : (b : ℕ) (t : Bool) → is_empty (cond t [] (b ∷ [])) ≡ true → length (print_end (cond t crlf lf)) ≡ 2
size_by_test b true e = refl
size_by_test b false e = absurd (cc)

end_size : (line : List ℕ) → is_empty_line line ≡ true → length (print_end (end_of line)) ≡ length line + 1
end_size [] e = refl
end_size (b ∷ []) e = size_by_test b (eqb b 13) e
end_size (b ∷ c ∷ line) e = absurd (cc)

no_lf : (line : List ℕ) → All (λ b. b ≢ 10) line → Lacks 10 line
no_lf line each = All-weaker (λ b. b ≢ 10) (λ b. eqb b 10 ≡ false) (λ b. ne_eqb b 10) line each

each_no_lf : (line : List ℕ) → Lacks 10 line → All (λ b. b ≢ 10) line
each_no_lf line lacks = All-weaker (λ b. eqb b 10 ≡ false) (λ b. b ≢ 10) (λ b. eqb-false b 10) line lacks

front_of_prefix : (bytes : List ℕ) (m k : ℕ) → front_length (take m bytes) ≡ Some k → front_length bytes ≡ Some k
front_of_prefix bytes m k e =
    subst (λ (t : List ℕ). front_length t ≡ Some k) (take-append-drop m bytes) (front_stays (take m bytes) (drop m bytes) k e)

-- ---- a text that ends so has a front

parts_by_test : (x : ℕ) (xs_parts rest all : List (List ℕ)) → (xs_parts ≡ [] → ⊥) → all ≡ xs_parts ++ rest → (t : Bool)
    → cond t ([] ∷ all) (onto_first x all) ≡ cond t ([] ∷ xs_parts) (onto_first x xs_parts) ++ rest
parts_by_test x [] rest all some e t = absurd (some refl)
parts_by_test x (p ∷ parts) rest all some e true = ap (λ (ps : List (List ℕ)). [] ∷ ps) e
parts_by_test x (p ∷ parts) rest all some e false = ap (onto_first x) e

parts_at-join : (c : ℕ) (xs rest : List ℕ) → parts_at c (xs ++ c ∷ rest) ≡ parts_at c xs ++ parts_at c rest
parts_at-join c [] rest = parts_at-first c [] rest (All-nil (λ b. eqb b c ≡ false))
parts_at-join c (x ∷ xs) rest =
    parts_by_test x (parts_at c xs) (parts_at c rest) _ (parts_at-some c xs) (parts_at-join c xs rest) (eqb x c)

-- the lines have an empty one after one that isn't
abbrev Stops : Bool → List (List ℕ) → Type 0
Stops begun lines = (n : ℕ) × (length_to_empty begun lines ≡ Some n)

longer_stops : (t : Bool) (k : ℕ) (o : Option ℕ) → ((m : ℕ) × (o ≡ Some m)) → (n : ℕ) × (cond t (Some k) (longer_by k o) ≡ Some n)
longer_stops true k o x = (k, refl)
longer_stops false k o x = (k + x.0, ap (longer_by k) x.1)

stops-cons : (begun : Bool) (line : List ℕ) (lines : List (List ℕ)) → (lines ≡ [] → ⊥) → Stops (begun || not (is_empty_line line)) lines
    → Stops begun (line ∷ lines)
stops-cons begun line lines some x =
    let longer = longer_stops (begun && is_empty_line line) (length line + 1) (length_to_empty (begun || not (is_empty_line line)) lines) x in
    (longer.0, to_empty-cons begun line lines some ∙ longer.1)

append-some : (xs ys : List (List ℕ)) → (ys ≡ [] → ⊥) → xs ++ ys ≡ [] → ⊥
append-some [] ys some e = some e
append-some (x ∷ xs) ys some e = cc

stops_later : (begun : Bool) (lines rest : List (List ℕ)) → (rest ≡ [] → ⊥) → ((b : Bool) → Stops (begun || b) rest) → Stops begun (lines ++ rest)
stops_later begun [] rest some x = subst (λ (b : Bool). Stops b rest) (or-false begun) (x false)
stops_later begun (line ∷ lines) rest some x =
    stops-cons begun line (lines ++ rest) (append-some lines rest some)
    (stops_later (begun || not (is_empty_line line)) lines rest some (λ b. subst (λ (v : Bool). Stops v rest) (or-assoc begun (not (is_empty_line line)) b) (x (not (is_empty_line line) || b))))

stops_after_lines : (begun : Bool) (lines : List (List ℕ)) (rest : List ℕ) → ((b : Bool) → Stops (begun || b) (raw_lines rest))
    → Stops begun (raw_lines (ended lines ++ rest))
stops_after_lines begun [] rest x = subst (λ (b : Bool). Stops b (raw_lines rest)) (or-false begun) (x false)
stops_after_lines begun (line ∷ lines) rest x =
    subst (λ (ls : List (List ℕ)). Stops begun ls)
    (sym (ap raw_lines (ended-cons line lines rest) ∙ parts_at-join 10 line (ended lines ++ rest)))
    (stops_later begun (raw_lines line) (raw_lines (ended lines ++ rest)) (parts_at-some 10 (ended lines ++ rest))
    (λ b. stops_after_lines (begun || b) lines rest (λ d. subst (λ (v : Bool). Stops v (raw_lines rest)) (or-assoc begun b d) (x (b || d)))))

stops_at_end : (last : LineEnd) → Stops true (raw_lines (print_end last))
stops_at_end crlf = (2, refl)
stops_at_end lf = (1, refl)

pub ends_has_front : (text : List ℕ) → EndsHead text → (n : ℕ) × (front_length text ≡ Some n)
unfolding front_length
ends_has_front text x =
    let tail = ended x.between ++ print_end x.last in
    let after : Stops true (raw_lines tail) = stops_after_lines true x.between (print_end x.last) (λ b. stops_at_end x.last) in
    let lines : raw_lines (x.line ++ 10 ∷ tail) ≡ x.line ∷ raw_lines tail = parts_at-first 10 x.line tail (no_lf x.line x.one) in
    subst (λ (t : List ℕ). Stops false (raw_lines t)) (sym x.printed)
    (stops_after_lines false x.before (x.line ++ 10 ∷ tail)
    (λ b. subst (Stops b) (sym lines) (stops-cons b x.line (raw_lines tail) (parts_at-some 10 tail)
    (subst (λ (v : Bool). Stops v (raw_lines tail)) (sym (or_right b (not (is_empty_line x.line)) (not_from_false _ x.some))) after))))

-- ---- a front ends so

-- the lines, with what follows them, up to an empty one
record Found (lines : List (List ℕ)) (n : ℕ) : Type 0 where
  between : List (List ℕ)
  line : List ℕ
  rest : List ℕ
  empty : is_empty_line line ≡ true
  text : join_with_byte 10 lines ≡ ended between ++ (line ++ 10 ∷ rest)
  size : n ≡ length (ended between) + (length line + 1)

ended_size : (line : List ℕ) (lines : List (List ℕ)) → length (ended (line ∷ lines)) ≡ length line + 1 + length (ended lines)
ended_size line lines =
    let e : length ((line ++ 10 ∷ []) ++ ended lines) ≡ length (line ++ 10 ∷ []) + length (ended lines) = length-append (line ++ 10 ∷ []) (ended lines) in
    let f : length (line ++ 10 ∷ []) ≡ length line + 1 = length-append line (10 ∷ []) in
    omega arith

found_by_test : (t : Bool) (l m : List ℕ) (lines : List (List ℕ)) (n : ℕ) (later : Option ℕ) → is_empty_line l ≡ t
    → ((k : ℕ) → later ≡ Some k → Found (m ∷ lines) k) → cond t (Some (length l + 1)) (longer_by (length l + 1) later) ≡ Some n
    → Found (l ∷ m ∷ lines) n
found_by_test true l m lines n later empty ih e =
    let is : length l + 1 ≡ n = some_is e in
    record { between = []; line = l; rest = join_with_byte 10 (m ∷ lines); empty = empty; text = refl; size = omega arith }
found_by_test false l m lines n None empty ih e = absurd (none_is_not e)
found_by_test false l m lines n (Some k) empty ih e =
    let is : length l + 1 + k ≡ n = some_is e in
    let f = ih k refl in
    record {
      between = l ∷ f.between;
      line = f.line;
      rest = f.rest;
      empty = f.empty;
      text = ap (λ (t : List ℕ). l ++ 10 ∷ t) f.text ∙ sym (ended-cons l f.between (f.line ++ 10 ∷ f.rest));
      size = omega (arith, is, f.size, ended_size l f.between);
    }

found_after : (lines : List (List ℕ)) (n : ℕ) → length_to_empty true lines ≡ Some n → Found lines n
found_after [] n e = absurd (none_is_not e)
found_after (l ∷ []) n e = absurd (none_is_not e)
found_after (l ∷ m ∷ lines) n e = found_by_test (is_empty_line l) l m lines n _ refl (found_after (m ∷ lines)) e

-- the same from the first line that isn't empty
record Begins (lines : List (List ℕ)) (n : ℕ) : Type 0 where
  before : List (List ℕ)
  line : List ℕ
  later : List (List ℕ)
  some : is_empty_line line ≡ false
  one : Lacks 10 line
  k : ℕ
  after : Found later k
  text : join_with_byte 10 lines ≡ ended before ++ (line ++ 10 ∷ join_with_byte 10 later)
  size : n ≡ length (ended before) + (length line + 1 + k)

begins_by_test : (t : Bool) (l m : List ℕ) (lines : List (List ℕ)) (n : ℕ) → is_empty_line l ≡ t → Lacks 10 l
    → ((k : ℕ) → length_to_empty false (m ∷ lines) ≡ Some k → Begins (m ∷ lines) k)
    → longer_by (length l + 1) (length_to_empty (not t) (m ∷ lines)) ≡ Some n → Begins (l ∷ m ∷ lines) n
begins_by_test true l m lines n empty one ih e = begins_more (length_to_empty false (m ∷ lines)) refl e
  where
    begins_more : (o : Option ℕ) → length_to_empty false (m ∷ lines) ≡ o → longer_by (length l + 1) o ≡ Some n → Begins (l ∷ m ∷ lines) n
    begins_more None is f = absurd (none_is_not f)
    begins_more (Some k) is f =
        let size : length l + 1 + k ≡ n = some_is f in
        let b = ih k is in
        record {
          before = l ∷ b.before;
          line = b.line;
          later = b.later;
          some = b.some;
          one = b.one;
          k = b.k;
          after = b.after;
          text = ap (λ (t : List ℕ). l ++ 10 ∷ t) b.text ∙ sym (ended-cons l b.before (b.line ++ 10 ∷ join_with_byte 10 b.later));
          size = omega (arith, size, b.size, ended_size l b.before);
        }
begins_by_test false l m lines n empty one ih e = begins_here (length_to_empty true (m ∷ lines)) refl e
  where
    begins_here : (o : Option ℕ) → length_to_empty true (m ∷ lines) ≡ o → longer_by (length l + 1) o ≡ Some n → Begins (l ∷ m ∷ lines) n
    begins_here None is f = absurd (none_is_not f)
    begins_here (Some k) is f =
        let size : length l + 1 + k ≡ n = some_is f in
        record {
          before = [];
          line = l;
          later = m ∷ lines;
          some = empty;
          one = one;
          k = k;
          after = found_after (m ∷ lines) k is;
          text = refl;
          size = omega (arith, size);
        }

begins : (lines : List (List ℕ)) (n : ℕ) → All (Lacks 10) lines → length_to_empty false lines ≡ Some n → Begins lines n
begins [] n one e = absurd (none_is_not e)
begins (l ∷ []) n one e = absurd (none_is_not e)
begins (l ∷ m ∷ lines) n one e =
    begins_by_test (is_empty_line l) l m lines n refl (All-head (Lacks 10) l (m ∷ lines) one)
    (λ k. begins (m ∷ lines) k (All-tail (Lacks 10) l (m ∷ lines) one)) e

lack_by_test : (c x : ℕ) (parts : List (List ℕ)) → All (Lacks c) parts → (t : Bool) → eqb x c ≡ t
    → All (Lacks c) (cond t ([] ∷ parts) (onto_first x parts))
lack_by_test c x parts each true e = All-cons (Lacks c) [] parts (All-nil (λ b. eqb b c ≡ false)) each
lack_by_test c x [] each false e =
    All-cons (Lacks c) (x ∷ []) [] (All-cons (λ b. eqb b c ≡ false) x [] e (All-nil (λ b. eqb b c ≡ false))) (All-nil (Lacks c))
lack_by_test c x (p ∷ parts) each false e =
    All-cons (Lacks c) (x ∷ p) parts (All-cons (λ b. eqb b c ≡ false) x p e (All-head (Lacks c) p parts each)) (All-tail (Lacks c) p parts each)

parts_lack : (c : ℕ) (xs : List ℕ) → All (Lacks c) (parts_at c xs)
parts_lack c [] = All-cons (Lacks c) [] [] (All-nil (λ b. eqb b c ≡ false)) (All-nil (Lacks c))
parts_lack c (x ∷ xs) = lack_by_test c x (parts_at c xs) (parts_lack c xs) (eqb x c) refl

take-front : (xs ys : List ℕ) → take (length xs) (xs ++ ys) ≡ xs
take-front xs ys = take-append-le (length xs) xs ys (omega arith) ∙ take_all (length xs) xs (omega arith)

pub front_ends : (bytes : List ℕ) (n : ℕ) → front_length bytes ≡ Some n → EndsHead (take n bytes)
unfolding front_length
front_ends bytes n e =
    let b = begins (raw_lines bytes) n (parts_lack 10 bytes) e in
    let f = b.after in
    let last = end_of f.line in
    let stop : f.line ++ 10 ∷ f.rest ≡ print_end last ++ f.rest
    = bare_ends f.line f.rest ∙ ap (λ (t : List ℕ). t ++ (print_end last ++ f.rest)) (nil_from_test (bare f.line) f.empty) in
    let stop_size : length (print_end last) ≡ length f.line + 1 = end_size f.line f.empty in
    let front = ended b.before ++ (b.line ++ 10 ∷ (ended f.between ++ print_end last)) in
    let whole : bytes ≡ front ++ f.rest
    = sym (join-parts_at 10 bytes) ∙ b.text
    ∙ ap (λ (t : List ℕ). ended b.before ++ (b.line ++ 10 ∷ t)) (f.text ∙ ap (λ (t : List ℕ). ended f.between ++ t) stop)
    ∙ regroup (ended b.before) b.line (ended f.between) (print_end last) f.rest in
    let size : n ≡ length front
    = omega (arith, b.size, f.size, stop_size, front_size (ended b.before) b.line (ended f.between) (print_end last)) in
    record {
      before = b.before;
      between = f.between;
      line = b.line;
      last = last;
      some = b.some;
      one = each_no_lf b.line b.one;
      printed = ap (λ (k : ℕ). take k bytes) size ∙ ap (take (length front)) whole ∙ take-front front f.rest;
    }

-- ---- the law

pub fronts_are : FrontsAreShortest
fronts_are bytes n = (
  λ e. (front_within bytes n e, front_ends bytes n e, λ m below x. shorter m below x e),
  λ x. longest (ends_has_front (take n bytes) x.1) x.2,
)
  where
    shorter : (m : ℕ) → m < n → EndsHead (take m bytes) → front_length bytes ≡ Some n → ⊥
    shorter m below x e =
        let k = ends_has_front (take m bytes) x in
        let inside : k.0 ≤ length (take m bytes) = front_within (take m bytes) k.0 k.1 in
        let same : k.0 ≡ n = some_is (sym (front_of_prefix bytes m k.0 k.1) ∙ e) in
        omega (arith, inside, same, length-take m bytes)

    longest : ((k : ℕ) × (front_length (take n bytes) ≡ Some k)) → ((m : ℕ) → m < n → EndsHead (take m bytes) → ⊥) → front_length bytes ≡ Some n
    longest k none =
        let inside : k.0 ≤ length (take n bytes) = front_within (take n bytes) k.0 k.1 in
        let is : front_length bytes ≡ Some k.0 = front_of_prefix bytes n k.0 k.1 in
        elim (cases_lt k.0 n) [
          | inl below ↦ absurd (none k.0 below (front_ends bytes k.0 is))
          | inr past ↦ is ∙ ap (λ (j : ℕ). Some j) (omega (arith, inside, past, length-take n bytes))
        ]
