-- Lines and parts of a text, against the text that is printed from them.
use Rattle.std.proofs.Common.{◌≡◌, ℕ, ◌<◌, Bool, true, false, cond, IsTrue, List, [], ◌∷◌, ◌++◌, length, refl, sym, ap, ◌∙◌, arith, append_assoc, append-nil, eqb, Option, Some, None}
use Rattle.std.specs.Prelude.{if◌then◌else◌, ◌==◌}
use Rattle.std.specs.List.{All, list_all}
use Rattle.std.proofs.lemmas.List.Elements.{All-head, All-tail, All-weaker}
use Rattle.std.proofs.lemmas.Bool.{cond-false, eqb-true, ne_eqb, false≢true}
use Rattle.std.proofs.lemmas.Bool.Decides.{Decides-by_and}
use Rattle.httparse.specs.Grammar.{LineEnd, crlf, lf, print_end}
use Rattle.cy_event.specs.Heads.{bare, is_empty}
use Rattle.cy_event.proofs.Cuts.{Lacks}

-- the CR before a line's LF
abbrev pub before_end : LineEnd → List ℕ
before_end crlf = 13 ∷ []
before_end lf = []

pub some_is : {A : Type 0} {x y : A} → Some x ≡ Some y → x ≡ y
some_is {A} {x} {y} e = ap (λ (o : Option A). elim o [ None ↦ x | Some z ↦ z ]) e

pub none_is_not : {A : Type 0} {x : A} → ◌≡◌ {A = Option A} None (Some x) → ⊥
none_is_not e = cc

-- where a test fails at a byte, a text that passes it lacks the byte
pub lacks : (test : ℕ → Bool) (c : ℕ) → test c ≡ false → (xs : List ℕ) → All (λ b. IsTrue (test b)) xs → Lacks c xs
lacks test c fails xs all =
    All-weaker (λ b. IsTrue (test b)) (λ b. eqb b c ≡ false)
    (λ x passes. ne_eqb x c (λ e. false≢true (sym fails ∙ ap test (sym e) ∙ passes))) xs all

-- a line that ends in no CR is bare
pub bare_clean : (xs : List ℕ) → Lacks 13 xs → bare xs ≡ xs
bare_clean [] lacks = refl
bare_clean (x ∷ []) lacks = cond-false _ _ _ (All-head (λ b. eqb b 13 ≡ false) x [] lacks)
bare_clean (x ∷ y ∷ xs) lacks =
    ap (λ (ys : List ℕ). x ∷ ys) (bare_clean (y ∷ xs) (All-tail (λ b. eqb b 13 ≡ false) x (y ∷ xs) lacks))

bare_cr : (xs : List ℕ) → bare (xs ++ 13 ∷ []) ≡ xs
bare_cr [] = refl
bare_cr (x ∷ []) = refl
bare_cr (x ∷ y ∷ xs) = ap (λ (ys : List ℕ). x ∷ ys) (bare_cr (y ∷ xs))

pub bare_line : (xs : List ℕ) (end : LineEnd) → Lacks 13 xs → bare (xs ++ before_end end) ≡ xs
bare_line xs crlf lacks = bare_cr xs
bare_line xs lf lacks = ap bare (append-nil xs) ∙ bare_clean xs lacks

-- a line and its end, before what follows
pub line_end : (xs rest : List ℕ) (end : LineEnd) → xs ++ (print_end end ++ rest) ≡ (xs ++ before_end end) ++ 10 ∷ rest
line_end xs rest crlf = simp append_assoc
line_end xs rest lf = simp append_assoc

-- how the line ended
abbrev pub end_of : List ℕ → LineEnd
end_of [] = lf
end_of (b ∷ []) = if b == 13 then crlf else lf
end_of (b ∷ c ∷ xs) = end_of (c ∷ xs)

end_by_test : (b : ℕ) (rest : List ℕ) (t : Bool) → eqb b 13 ≡ t
    → b ∷ 10 ∷ rest ≡ cond t [] (b ∷ []) ++ (print_end (cond t crlf lf) ++ rest)
end_by_test b rest true e = let is : b ≡ 13 = eqb-true b 13 e in rw is
end_by_test b rest false e = refl

pub bare_ends : (xs rest : List ℕ) → xs ++ 10 ∷ rest ≡ bare xs ++ (print_end (end_of xs) ++ rest)
bare_ends [] rest = refl
bare_ends (x ∷ []) rest = end_by_test x rest (eqb x 13) refl
bare_ends (x ∷ y ∷ xs) rest = ap (λ (ys : List ℕ). x ∷ ys) (bare_ends (y ∷ xs) rest)

-- ---- tests

pub list_all-All : (test : ℕ → Bool) (xs : List ℕ) → All (λ b. IsTrue (test b)) xs → list_all test xs ≡ true
list_all-All test xs = (Decides-by_and test (λ b. IsTrue (test b)) (list_all test) (λ x. (λ e. e, λ e. e)) refl (λ _ _. refl) xs).1

pub All-list_all : (test : ℕ → Bool) (xs : List ℕ) → list_all test xs ≡ true → All (λ b. IsTrue (test b)) xs
All-list_all test xs = (Decides-by_and test (λ b. IsTrue (test b)) (list_all test) (λ x. (λ e. e, λ e. e)) refl (λ _ _. refl) xs).0

pub not_empty : (xs : List ℕ) → 0 < length xs → is_empty xs ≡ false
not_empty [] some = absurd (omega arith)
not_empty (x ∷ xs) some = refl

pub some_from_test : (xs : List ℕ) → is_empty xs ≡ false → 0 < length xs
some_from_test [] e = absurd (cc)
some_from_test (x ∷ xs) e = omega arith

pub nil_from_test : (xs : List ℕ) → is_empty xs ≡ true → xs ≡ []
nil_from_test [] e = refl
nil_from_test (x ∷ xs) e = absurd (cc)
