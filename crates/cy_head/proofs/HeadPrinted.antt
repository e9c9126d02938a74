-- What the grammar prints is read as the head that it is.
use Rattle.std.proofs.Common.{◌≡◌, ℕ, ◌<◌, ◌≤◌, Bool, true, false, not, cond, IsTrue, List, [], ◌∷◌, ◌++◌, length, map, refl, sym, ap, ◌∙◌, subst, arith, append_assoc, append-nil, eqb, Option, Some, ◌⊎◌, inl, inr}
use Rattle.std.specs.Prelude.{IsUtf8}
use Rattle.std.specs.List.{All, list_all}
use Rattle.std.proofs.lemmas.List.Elements.{All-head, All-tail, All-cons, All-nil, All-append, All-weaker}
use Rattle.std.proofs.lemmas.Bool.{cond-true, cond-false, and_parts, and_from, not_from_false, not-true}
use Rattle.std.proofs.lemmas.Str.{IsUtf8-from_is_utf8, is_utf8-from_IsUtf8}
use Rattle.httparse.specs.Grammar.{LineEnd, crlf, lf, print_end, print_blank, print_version, Field as FieldLine, IsField, IsToken, AllPass, print_section, RequestHead, ReadsRequest, is_token_byte, is_uri_byte, skip_ows, trim_ows}
use Rattle.httparse.proofs.PieceLemmas.{colon_ends_token, space_ends_token}
use Rattle.httparse.proofs.GrammarLemmas.{print_request-append, cons-append}
use Rattle.cy_event.specs.Heads.{Field, Head, is_name_byte, is_value_byte, is_name, is_target, is_blank, skip_blanks, trimmed, is_empty, parts_at, raw_lines, bare, is_empty_line, field_from, field_of, with_field, fields_of, minor_of, head_from, head_of_words, head_of_lines, skip_empty_lines, whole_head}
use Rattle.cy_event.proofs.Cuts.{Lacks, cut_at-first, parts_at-first, parts_at-last}
use Rattle.cy_head.specs.HeadGrammar.{field_of_line, head_of_tree}
use Rattle.cy_head.proofs.HeadLines.{none_is_not, lacks, before_end, bare_line, line_end, list_all-All, All-list_all, not_empty, some_from_test}

-- ---- the classes are those of the grammar

name_byte_is : (b : ℕ) → is_name_byte b ≡ is_token_byte b
unfolding is_name_byte is_token_byte
name_byte_is b = refl

name_bytes_are : is_name_byte ≡ is_token_byte
name_bytes_are = λ i b. name_byte_is b i

skip_is : (xs : List ℕ) → skip_blanks xs ≡ skip_ows xs
skip_is [] = refl
skip_is (x ∷ xs) = ap (λ (ys : List ℕ). cond (is_blank x) ys (x ∷ xs)) (skip_is xs)

pub trimmed_is : (xs : List ℕ) → trimmed xs ≡ trim_ows xs
unfolding trimmed trim_ows
trimmed_is xs = simp skip_is

pub is_name-IsToken : (xs : List ℕ) → IsToken xs → is_name xs ≡ true
is_name-IsToken xs token =
    and_from _ _ (not_from_false _ (not_empty xs token.0))
    (ap (λ (test : ℕ → Bool). list_all test xs) name_bytes_are ∙ list_all-All is_token_byte xs token.1)

pub IsToken-is_name : (xs : List ℕ) → is_name xs ≡ true → IsToken xs
IsToken-is_name xs name =
    let parts = and_parts _ _ name in (
      some_from_test xs (not-true _ parts.0),
      All-list_all is_token_byte xs (ap (λ (test : ℕ → Bool). list_all test xs) (sym name_bytes_are) ∙ parts.1),
    )

abbrev pub IsTarget : List ℕ → Type 0
IsTarget xs = ((0 < length xs) × AllPass is_uri_byte xs) × IsUtf8 xs

pub is_target-IsTarget : (xs : List ℕ) → IsTarget xs → is_target xs ≡ true
is_target-IsTarget xs target =
    and_from _ _ (not_from_false _ (not_empty xs target.0.0))
    (and_from _ _ (list_all-All is_uri_byte xs target.0.1) (is_utf8-from_IsUtf8 xs target.1))

pub IsTarget-is_target : (xs : List ℕ) → is_target xs ≡ true → IsTarget xs
IsTarget-is_target xs target =
    let parts = and_parts _ _ target in
    let bytes = and_parts _ _ parts.1 in
    ((some_from_test xs (not-true _ parts.0), All-list_all is_uri_byte xs bytes.0), IsUtf8-from_is_utf8 xs bytes.1)

-- ---- what is printed is read

token_no_lf : is_token_byte 10 ≡ false
unfolding is_token_byte
token_no_lf = refl

token_no_cr : is_token_byte 13 ≡ false
unfolding is_token_byte
token_no_cr = refl

lacks_in_line : (c : ℕ) (xs ys : List ℕ) (b : ℕ) → Lacks c xs → eqb b c ≡ false → Lacks c ys → Lacks c (xs ++ b ∷ ys)
lacks_in_line c xs ys b left middle right =
    All-append (λ v. eqb v c ≡ false) xs (b ∷ ys) left (All-cons (λ v. eqb v c ≡ false) b ys middle right)

lacks_end : (xs : List ℕ) (end : LineEnd) → Lacks 10 xs → Lacks 10 (xs ++ before_end end)
lacks_end xs crlf line = lacks_in_line 10 xs [] 13 line refl (All-nil (λ v. eqb v 10 ≡ false))
lacks_end xs lf line = subst (Lacks 10) (sym (append-nil xs)) line

-- the first line of a text
lines-first : (xs rest : List ℕ) (end : LineEnd) → Lacks 10 xs
    → raw_lines (xs ++ (print_end end ++ rest)) ≡ (xs ++ before_end end) ∷ raw_lines rest
lines-first xs rest end line =
    ap raw_lines (line_end xs rest end) ∙ parts_at-first 10 (xs ++ before_end end) rest (lacks_end xs end line)

abbrev pub field_with : List ℕ → List ℕ → Field
field_with name value = record { name = name; value = value }

field_is_read : (f : FieldLine) → IsField f → field_of (f.name ++ 58 ∷ f.raw) ≡ Some (field_of_line f)
field_is_read f valid =
    ap field_from (cut_at-first 58 f.name f.raw (lacks is_token_byte 58 colon_ends_token f.name valid.name.1))
    ∙ cond-true _ _ _ (and_from _ _ (is_name-IsToken f.name valid.name) (list_all-All is_value_byte f.raw valid.raw))
    ∙ ap (λ (v : List ℕ). Some (field_with f.name v)) (trimmed_is f.raw)

fields_of-cons : (line : List ℕ) (lines : List (List ℕ)) (fields : List Field) → fields_of lines ≡ Some fields
    → fields_of (line ∷ lines) ≡ with_field (field_of (bare line)) (Some fields)
fields_of-cons line [] fields e = absurd (none_is_not e)
fields_of-cons line (a ∷ []) fields e = absurd (none_is_not e)
fields_of-cons line (a ∷ b ∷ lines) fields e = ap (with_field (field_of (bare line))) e

pub section_line : (f : FieldLine) (fs : List FieldLine) (last : LineEnd)
    → print_section (f ∷ fs) last ≡ (f.name ++ 58 ∷ f.raw) ++ (print_end f.end ++ print_section fs last)
section_line f fs last = simp (append_assoc, cons-append)

fields_are_read : (fs : List FieldLine) (last : LineEnd) → All IsField fs
    → fields_of (raw_lines (print_section fs last)) ≡ Some (map field_of_line fs)
fields_are_read [] crlf valid = refl
fields_are_read [] lf valid = refl
fields_are_read (f ∷ fs) last valid =
    let first = All-head IsField f fs valid in
    let later = fields_are_read fs last (All-tail IsField f fs valid) in
    let line = f.name ++ 58 ∷ f.raw in
    let no_lf : Lacks 10 line = lacks_in_line 10 f.name f.raw 58 (lacks is_token_byte 10 token_no_lf f.name first.name.1) refl (lacks is_value_byte 10 refl f.raw first.raw) in
    let no_cr : Lacks 13 line = lacks_in_line 13 f.name f.raw 58 (lacks is_token_byte 13 token_no_cr f.name first.name.1) refl (lacks is_value_byte 13 refl f.raw first.raw) in
    ap fields_of (ap raw_lines (section_line f fs last) ∙ lines-first line (print_section fs last) f.end no_lf)
    ∙ fields_of-cons (line ++ before_end f.end) _ _ later
    ∙ ap (λ (o : Option Field). with_field o (Some (map field_of_line fs))) (ap field_of (bare_line line f.end no_cr) ∙ field_is_read f first)

blank_is_skipped : (ends : List LineEnd) (rest : List ℕ)
    → skip_empty_lines (raw_lines (print_blank ends ++ rest)) ≡ skip_empty_lines (raw_lines rest)
blank_is_skipped [] rest = refl
blank_is_skipped (crlf ∷ ends) rest =
    ap (λ (t : List ℕ). skip_empty_lines (raw_lines t)) (append_assoc (print_end crlf) (print_blank ends) rest) ∙ blank_is_skipped ends rest
blank_is_skipped (lf ∷ ends) rest =
    ap (λ (t : List ℕ). skip_empty_lines (raw_lines t)) (append_assoc (print_end lf) (print_blank ends) rest) ∙ blank_is_skipped ends rest

zero_or_one : (n : ℕ) → n ≤ 1 → (n ≡ 0) ⊎ (n ≡ 1)
zero_or_one n small = grind arith

tested : (c : ℕ) (xs : List ℕ) → list_all (λ b. not (eqb b c)) xs ≡ true → Lacks c xs
tested c xs e = All-weaker (λ b. IsTrue (not (eqb b c))) (λ b. eqb b c ≡ false) (λ b. not-true (eqb b c)) xs (All-list_all (λ b. not (eqb b c)) xs e)

-- HTTP/1.minor
version_is_read : (minor : ℕ) → minor ≤ 1 → (minor_of (print_version minor) ≡ Some minor) × (Lacks 32 (print_version minor) × (Lacks 10 (print_version minor) × Lacks 13 (print_version minor)))
version_is_read minor small = elim (zero_or_one minor small) [
  | inl zero ↦ subst (λ (n : ℕ). (minor_of (print_version n) ≡ Some n) × (Lacks 32 (print_version n) × (Lacks 10 (print_version n) × Lacks 13 (print_version n)))) (sym zero) (refl, (tested 32 (print_version 0) refl, (tested 10 (print_version 0) refl, tested 13 (print_version 0) refl)))
  | inr one ↦ subst (λ (n : ℕ). (minor_of (print_version n) ≡ Some n) × (Lacks 32 (print_version n) × (Lacks 10 (print_version n) × Lacks 13 (print_version n)))) (sym one) (refl, (tested 32 (print_version 1) refl, (tested 10 (print_version 1) refl, tested 13 (print_version 1) refl)))
]

words_are_parts : (method target version : List ℕ) → Lacks 32 method → Lacks 32 target → Lacks 32 version
    → parts_at 32 (method ++ 32 ∷ (target ++ 32 ∷ version)) ≡ method ∷ target ∷ version ∷ []
words_are_parts method target version m t v =
    parts_at-first 32 method (target ++ 32 ∷ version) m
    ∙ ap (λ (ps : List (List ℕ)). method ∷ ps) (parts_at-first 32 target version t
    ∙ ap (λ (ps : List (List ℕ)). target ∷ ps) (parts_at-last 32 version v))

abbrev pub head_with : List ℕ → List ℕ → ℕ → List Field → Head
head_with method target minor fields = record { method = method; target = target; minor = minor; fields = fields }

pub regroup_start : (m t v r : List ℕ) → m ++ 32 ∷ (t ++ 32 ∷ (v ++ r)) ≡ (m ++ 32 ∷ (t ++ 32 ∷ v)) ++ r
regroup_start m t v r = simp (append_assoc, cons-append)

line_is_some : (m rest : List ℕ) → 0 < length m → is_empty (m ++ rest) ≡ false
line_is_some [] rest some = absurd (omega arith)
line_is_some (b ∷ m) rest some = refl

start_is_read : (m t v : List ℕ) (minor : ℕ) (end : LineEnd) (rest : List ℕ) (fields : List Field)
    → IsToken m → IsTarget t → v ≡ print_version minor → minor ≤ 1
    → fields_of (raw_lines rest) ≡ Some fields
    → head_of_lines (skip_empty_lines (raw_lines ((m ++ 32 ∷ (t ++ 32 ∷ v)) ++ (print_end end ++ rest))))
    ≡ Some (head_with m t minor fields)
start_is_read m t v minor end rest fields token target is_version small read =
    let line = m ++ 32 ∷ (t ++ 32 ∷ v) in
    let version = version_is_read minor small in
    let v32 : Lacks 32 v = subst (Lacks 32) (sym is_version) version.1.0 in
    let v10 : Lacks 10 v = subst (Lacks 10) (sym is_version) version.1.1.0 in
    let v13 : Lacks 13 v = subst (Lacks 13) (sym is_version) version.1.1.1 in
    let no_lf : Lacks 10 line = lacks_in_line 10 m _ 32 (lacks is_token_byte 10 token_no_lf m token.1) refl
    (lacks_in_line 10 t v 32 (lacks is_uri_byte 10 refl t target.0.1) refl v10) in
    let no_cr : Lacks 13 line = lacks_in_line 13 m _ 32 (lacks is_token_byte 13 token_no_cr m token.1) refl
    (lacks_in_line 13 t v 32 (lacks is_uri_byte 13 refl t target.0.1) refl v13) in
    let bare_is : bare (line ++ before_end end) ≡ line = bare_line line end no_cr in
    let some : is_empty_line (line ++ before_end end) ≡ false = ap is_empty bare_is ∙ line_is_some m _ token.0 in
    ap (λ (ls : List (List ℕ)). head_of_lines (skip_empty_lines ls)) (lines-first line rest end no_lf)
    ∙ ap head_of_lines (cond-false _ _ _ some)
    ∙ ap (λ (ws : List (List ℕ)). head_of_words ws (fields_of (raw_lines rest)))
    (ap (parts_at 32) bare_is ∙ words_are_parts m t v (lacks is_token_byte 32 space_ends_token m token.1) (lacks is_uri_byte 32 refl t target.0.1) v32)
    ∙ ap (λ (o : Option (List Field)). head_from m t (minor_of v) o) read
    ∙ ap (λ (o : Option ℕ). head_from m t o (Some fields)) (ap minor_of is_version ∙ version.0)
    ∙ cond-true _ _ _ (and_from _ _ (is_name-IsToken m token) (is_target-IsTarget t target))

-- a head of the grammar is read
pub tree_is_read : (text : List ℕ) (g : RequestHead) → ReadsRequest text g [] → whole_head text ≡ Some (head_of_tree g)
unfolding whole_head
tree_is_read text g reads =
    let section = print_section g.fields g.last in
    let version = print_version g.minor in
    let whole : text ≡ print_blank g.blank ++ ((g.method ++ 32 ∷ (g.target ++ 32 ∷ version)) ++ (print_end g.line_end ++ (section ++ [])))
    = reads.1 ∙ print_request-append g [] ∙ ap (λ (t : List ℕ). print_blank g.blank ++ t) (regroup_start g.method g.target version _) in
    let fields : fields_of (raw_lines (section ++ [])) ≡ Some (map field_of_line g.fields)
    = ap (λ (t : List ℕ). fields_of (raw_lines t)) (append-nil section) ∙ fields_are_read g.fields g.last reads.0.fields in
    ap (λ (t : List ℕ). head_of_lines (skip_empty_lines (raw_lines t))) whole
    ∙ ap head_of_lines (blank_is_skipped g.blank _)
    ∙ start_is_read g.method g.target version g.minor g.line_end (section ++ []) (map field_of_line g.fields)
    reads.0.method (reads.0.target, reads.0.target_text) refl reads.0.minor fields
