-- What is read as a head is printed by the grammar, so that the two are one.
use Rattle.std.proofs.Common.{◌≡◌, ℕ, ◌≤◌, Bool, true, false, ◌&&◌, cond, List, [], ◌∷◌, ◌++◌, map, refl, sym, ap, ◌∙◌, subst, arith, append_assoc, append-nil, codes, Option, Some, None}
use Rattle.std.specs.List.{All, join_with_byte}
use Rattle.std.proofs.lemmas.List.Elements.{All-cons, All-nil}
use Rattle.std.proofs.lemmas.Bool.{and_parts}
use Rattle.std.specs.Cmp.Lexicographic.{bytes_decides}
use Rattle.httparse.specs.Grammar.{LineEnd, print_end, print_blank, print_version, Field as FieldLine, IsField, IsToken, print_section, RequestHead, ReadsRequest}
use Rattle.httparse.proofs.GrammarLemmas.{print_request-append}
use Rattle.cy_event.specs.Heads.{Field, Head, is_value_byte, is_empty, cut_at, parts_at, raw_lines, bare, is_empty_line, field_from, field_of, with_field, fields_of, minor_of, head_from, head_of_words, head_of_lines, skip_empty_lines, whole_head}
use Rattle.cy_event.proofs.Cuts.{join-cut_at, join-parts_at}
use Rattle.cy_head.specs.HeadGrammar.{field_of_line, head_of_tree}
use Rattle.cy_head.proofs.HeadLines.{some_is, none_is_not, end_of, bare_ends, All-list_all, nil_from_test}
use Rattle.cy_head.proofs.HeadPrinted.{trimmed_is, IsToken-is_name, IsTarget, IsTarget-is_target, field_with, section_line, head_with, regroup_start}

-- ---- what is read is printed

-- the line is this field line without its end
record IsLineOf (line : List ℕ) (field : Field) (f : FieldLine) : Type 0 where
  valid : IsField f
  text : line ≡ f.name ++ 58 ∷ f.raw
  same : field_of_line f ≡ field

record FieldLineOf (end : LineEnd) (line : List ℕ) (field : Field) : Type 0 where
  tree : FieldLine
  is : IsLineOf line field tree
  ends : tree.end ≡ end

cond_some : {A : Type 0} (t : Bool) {x y : A} → cond t (Some x) None ≡ Some y → (t ≡ true) × (x ≡ y)
cond_some true e = (refl, some_is e)
cond_some false e = absurd (none_is_not e)

field_from_cut : (line : List ℕ) (end : LineEnd) (field : Field) (cut : Option (List ℕ × List ℕ)) → cut_at 58 line ≡ cut
    → field_from cut ≡ Some field → FieldLineOf end line field
field_from_cut line end field None is e = absurd (none_is_not e)
field_from_cut line end field (Some parts) is e =
    let tests = cond_some _ e in
    let both = and_parts _ _ tests.0 in
    record {
      tree = record { name = parts.0; raw = parts.1; end = end };
      is = record {
        valid = record { name = IsToken-is_name parts.0 both.0; raw = All-list_all is_value_byte parts.1 both.1 };
        text = join-cut_at 58 line parts.0 parts.1 is;
        same = ap (λ (v : List ℕ). field_with parts.0 v) (sym (trimmed_is parts.1)) ∙ tests.1;
      };
      ends = refl;
    }

field_is_printed : (line : List ℕ) (end : LineEnd) (field : Field) → field_of line ≡ Some field → FieldLineOf end line field
field_is_printed line end field e = field_from_cut line end field (cut_at 58 line) refl e

-- the lines, joined, are these field lines and the empty line after them
record Section (lines : List (List ℕ)) (fields : List Field) : Type 0 where
  trees : List FieldLine
  last : LineEnd
  valid : All IsField trees
  text : join_with_byte 10 lines ≡ print_section trees last
  same : map field_of_line trees ≡ fields

record Both (field : Option Field) (fields : Option (List Field)) (all : List Field) : Type 0 where
  first : Field
  later : List Field
  first_is : field ≡ Some first
  later_is : fields ≡ Some later
  all_is : first ∷ later ≡ all

both_are : (field : Option Field) (fields : Option (List Field)) (all : List Field) → with_field field fields ≡ Some all → Both field fields all
both_are None fields all e = absurd (none_is_not e)
both_are (Some field) None all e = absurd (none_is_not e)
both_are (Some field) (Some fields) all e =
    record { first = field; later = fields; first_is = refl; later_is = refl; all_is = some_is e }

last_line : (line rest : List ℕ) (fields : List Field) → cond (is_empty_line line && is_empty rest) (Some []) None ≡ Some fields
    → Section (line ∷ rest ∷ []) fields
last_line line rest fields e =
    let tests = cond_some _ e in
    let both = and_parts _ _ tests.0 in
    let nothing : bare line ≡ [] = nil_from_test _ both.0 in
    let end : rest ≡ [] = nil_from_test _ both.1 in
    record {
      trees = [];
      last = end_of line;
      valid = All-nil IsField;
      text = ap (λ (r : List ℕ). line ++ 10 ∷ r) end ∙ bare_ends line []
          ∙ ap (λ (b : List ℕ). b ++ (print_end (end_of line) ++ [])) nothing ∙ append-nil (print_end (end_of line));
      same = tests.1;
    }

section_text : (line : List ℕ) (text : List ℕ) (f : FieldLine) (fs : List FieldLine) (last : LineEnd)
    → bare line ≡ f.name ++ 58 ∷ f.raw → f.end ≡ end_of line → text ≡ print_section fs last
    → line ++ 10 ∷ text ≡ print_section (f ∷ fs) last
section_text line text f fs last is end rest =
    bare_ends line text
    ∙ ap (λ (b : List ℕ). b ++ (print_end (end_of line) ++ text)) is
    ∙ ap (λ (e : LineEnd). (f.name ++ 58 ∷ f.raw) ++ (print_end e ++ text)) (sym end)
    ∙ ap (λ (t : List ℕ). (f.name ++ 58 ∷ f.raw) ++ (print_end f.end ++ t)) rest
    ∙ sym (section_line f fs last)

next_line : (line : List ℕ) (a b : List ℕ) (lines : List (List ℕ)) (fields later : List Field) (field : Field)
    → field_of (bare line) ≡ Some field → Section (a ∷ b ∷ lines) later → field ∷ later ≡ fields
    → Section (line ∷ a ∷ b ∷ lines) fields
next_line line a b lines fields later field e section all =
    let f = field_is_printed (bare line) (end_of line) field e in
    record {
      trees = f.tree ∷ section.trees;
      last = section.last;
      valid = All-cons IsField f.tree section.trees f.is.valid section.valid;
      text = section_text line _ f.tree section.trees section.last f.is.text f.ends section.text;
      same = ap (λ (x : Field). x ∷ map field_of_line section.trees) f.is.same
          ∙ ap (λ (xs : List Field). field ∷ xs) section.same ∙ all;
    }

fields_are_printed : (lines : List (List ℕ)) (fields : List Field) → fields_of lines ≡ Some fields → Section lines fields
fields_are_printed [] fields e = absurd (none_is_not e)
fields_are_printed (line ∷ []) fields e = absurd (none_is_not e)
fields_are_printed (line ∷ rest ∷ []) fields e = last_line line rest fields e
fields_are_printed (line ∷ a ∷ b ∷ lines) fields e =
    let both = both_are (field_of (bare line)) (fields_of (a ∷ b ∷ lines)) fields e in
    next_line line a b lines fields both.later both.first both.first_is
    (fields_are_printed (a ∷ b ∷ lines) both.later both.later_is) both.all_is

-- the empty lines at the front, and the lines after them
record Begun (lines : List (List ℕ)) (head : Head) : Type 0 where
  ends : List LineEnd
  line : List ℕ
  later : List (List ℕ)
  read : head_of_lines (line ∷ later) ≡ Some head
  text : join_with_byte 10 lines ≡ print_blank ends ++ join_with_byte 10 (line ∷ later)

one_more_blank : (line a : List ℕ) (lines : List (List ℕ)) (head : Head) → is_empty_line line ≡ true → Begun (a ∷ lines) head
    → Begun (line ∷ a ∷ lines) head
one_more_blank line a lines head empty begun =
    let text = join_with_byte 10 (a ∷ lines) in
    record {
      ends = end_of line ∷ begun.ends;
      line = begun.line;
      later = begun.later;
      read = begun.read;
      text = bare_ends line text
          ∙ ap (λ (b : List ℕ). b ++ (print_end (end_of line) ++ text)) (nil_from_test (bare line) empty)
          ∙ ap (λ (t : List ℕ). print_end (end_of line) ++ t) begun.text
          ∙ sym (append_assoc (print_end (end_of line)) (print_blank begun.ends) _);
    }

begun_by_test : (line : List ℕ) (lines : List (List ℕ)) (head : Head) (t : Bool) → is_empty_line line ≡ t
    → (head_of_lines (skip_empty_lines lines) ≡ Some head → Begun lines head)
    → head_of_lines (cond t (skip_empty_lines lines) (line ∷ lines)) ≡ Some head → Begun (line ∷ lines) head
begun_by_test line [] head true empty ih e = absurd (none_is_not e)
begun_by_test line (a ∷ lines) head true empty ih e = one_more_blank line a lines head empty (ih e)
begun_by_test line lines head false some ih e =
    record { ends = []; line = line; later = lines; read = e; text = refl }

lines_begin : (lines : List (List ℕ)) (head : Head) → head_of_lines (skip_empty_lines lines) ≡ Some head → Begun lines head
lines_begin [] head e = absurd (none_is_not e)
lines_begin (line ∷ lines) head e = begun_by_test line lines head (is_empty_line line) refl (lines_begin lines head) e

-- the request line's three words
record Start (words : List (List ℕ)) (fields : Option (List Field)) (head : Head) : Type 0 where
  version : List ℕ
  words_are : words ≡ head.method ∷ head.target ∷ version ∷ []
  fields_are : fields ≡ Some head.fields
  minor_is : minor_of version ≡ Some head.minor
  method : IsToken head.method
  target : IsTarget head.target

start_from : (m t v : List ℕ) (minor : Option ℕ) (fields : Option (List Field)) (head : Head) → minor_of v ≡ minor
    → head_from m t minor fields ≡ Some head → Start (m ∷ t ∷ v ∷ []) fields head
start_from m t v None fields head is e = absurd (none_is_not e)
start_from m t v (Some minor) None head is e = absurd (none_is_not e)
start_from m t v (Some minor) (Some fields) head is e =
    let tests = cond_some _ e in
    let both = and_parts _ _ tests.0 in
    subst (Start (m ∷ t ∷ v ∷ []) (Some fields)) tests.1 record {
      version = v;
      words_are = refl;
      fields_are = refl;
      minor_is = is;
      method = IsToken-is_name m both.0;
      target = IsTarget-is_target t both.1;
    }

start_is_printed : (words : List (List ℕ)) (fields : Option (List Field)) (head : Head) → head_of_words words fields ≡ Some head
    → Start words fields head
start_is_printed [] fields head e = absurd (none_is_not e)
start_is_printed (a ∷ []) fields head e = absurd (none_is_not e)
start_is_printed (a ∷ b ∷ []) fields head e = absurd (none_is_not e)
start_is_printed (m ∷ t ∷ v ∷ []) fields head e = start_from m t v (minor_of v) fields head refl e
start_is_printed (a ∷ b ∷ c ∷ d ∷ words) fields head e = absurd (none_is_not e)

version_by_test : (v : List ℕ) (minor : ℕ) (one zero : Bool) → (one ≡ true → v ≡ codes "HTTP/1.1") → (zero ≡ true → v ≡ codes "HTTP/1.0")
    → cond one (Some 1) (cond zero (Some 0) None) ≡ Some minor → (v ≡ print_version minor) × (minor ≤ 1)
version_by_test v minor true zero is1 is0 e =
    let same = some_is e in
    (is1 refl ∙ ap print_version same, omega arith)
version_by_test v minor false true is1 is0 e =
    let same = some_is e in
    (is0 refl ∙ ap print_version same, omega arith)
version_by_test v minor false false is1 is0 e = absurd (none_is_not e)

version_is_printed : (v : List ℕ) (minor : ℕ) → minor_of v ≡ Some minor → (v ≡ print_version minor) × (minor ≤ 1)
version_is_printed v minor e =
    version_by_test v minor _ _ ((bytes_decides v (codes "HTTP/1.1")).0) ((bytes_decides v (codes "HTTP/1.0")).0) e

-- a head of the grammar that the text is, with these parts
abbrev pub HasTree : List ℕ → Head → Type 0
HasTree text head = (g : RequestHead) × ReadsRequest text g [] × (head_of_tree g ≡ head)

tree_of : (ends : List LineEnd) (line : List ℕ) (lines : List (List ℕ)) (head : Head) → Start (parts_at 32 (bare line)) (fields_of lines) head
    → Section lines head.fields → (text : List ℕ) → text ≡ print_blank ends ++ (line ++ 10 ∷ join_with_byte 10 lines) → HasTree text head
tree_of ends line lines head start section text is =
    let version = version_is_printed start.version head.minor start.minor_is in
    let g : RequestHead = record {
      blank = ends;
      method = head.method;
      target = head.target;
      minor = head.minor;
      line_end = end_of line;
      fields = section.trees;
      last = section.last;
    } in
    let words : bare line ≡ head.method ++ 32 ∷ (head.target ++ 32 ∷ start.version)
    = sym (join-parts_at 32 (bare line)) ∙ ap (join_with_byte 32) start.words_are in
    let rest = join_with_byte 10 lines in (
      g,
      (
        record {
          method = start.method;
          target = start.target.0;
          target_text = start.target.1;
          minor = version.1;
          fields = section.valid;
        },
        is ∙ ap (λ (t : List ℕ). print_blank ends ++ t)
            (bare_ends line rest
            ∙ ap (λ (b : List ℕ). b ++ (print_end (end_of line) ++ rest)) words
            ∙ sym (regroup_start head.method head.target start.version _)
            ∙ ap (λ (v : List ℕ). head.method ++ 32 ∷ (head.target ++ 32 ∷ (v ++ (print_end (end_of line) ++ rest)))) version.0
            ∙ ap (λ (t : List ℕ). head.method ++ 32 ∷ (head.target ++ 32 ∷ (print_version head.minor ++ (print_end (end_of line) ++ t)))) (section.text ∙ sym (append-nil _)))
            ∙ sym (print_request-append g []),
      ),
      ap (head_with head.method head.target head.minor) section.same,
    )

join_two : (line : List ℕ) (lines : List (List ℕ)) (fields : List Field) → fields_of lines ≡ Some fields
    → join_with_byte 10 (line ∷ lines) ≡ line ++ 10 ∷ join_with_byte 10 lines
join_two line [] fields e = absurd (none_is_not e)
join_two line (a ∷ lines) fields e = refl

-- a head that is read is one of the grammar
pub read_is_tree : (text : List ℕ) (head : Head) → whole_head text ≡ Some head → HasTree text head
unfolding whole_head
read_is_tree text head e =
    let begun = lines_begin (raw_lines text) head e in
    let start = start_is_printed (parts_at 32 (bare begun.line)) (fields_of begun.later) head begun.read in
    tree_of begun.ends begun.line begun.later head start (fields_are_printed begun.later head.fields start.fields_are) text
    (sym (join-parts_at 10 text) ∙ begun.text ∙ ap (λ (t : List ℕ). print_blank begun.ends ++ t) (join_two begun.line begun.later head.fields start.fields_are))
