-- The first empty line of an answer is its head's end: before it stand whole lines that aren't empty.
use Rattle.std.proofs.Common.{◌≡◌, ℕ, ◌+◌, Bool, true, false, not, ◌&&◌, ◌||◌, cond, List, [], ◌∷◌, ◌++◌, length, codes, flat_map, Option, Some, None, refl, sym, ap, ◌∙◌, subst, arith, append_assoc, length-append}
use Rattle.std.specs.Prelude.{decimal}
use Rattle.std.specs.List.{list_all}
use Rattle.std.proofs.lemmas.Bool.{and_parts, not-true}
use Rattle.cy_bytes.specs.Tokens.{is_token_byte}
use Rattle.cy_event.specs.Answers.{Answer, Connection, silent, close, keep_alive, connection_line, crlf, field_line}
use Rattle.cy_event.specs.AnswerModes.{chunked_line, framing_lines, head_of_shape, length_line}
use Rattle.cy_event.specs.Dates.{date_at}
use Rattle.cy_event.specs.Heads.{Field, colon, cut_at, front_length, is_empty, is_empty_line, length_to_empty, line_feed, longer_by, raw_lines}
use Rattle.cy_event.proofs.Cuts.{cut_at-first, parts_at-first, parts_at-some}
use Rattle.cy_event.proofs.Fronts.{to_empty-cons}
use Rattle.cy_respond.specs.Fields.{is_line_byte, is_one_line, is_free_name, may_stand}
use Rattle.cy_respond.specs.HeadParts.{start_lines}
use Rattle.cy_respond.specs.Laws.{FieldsStandAlone, HeadsEndOnce}
use Rattle.cy_respond.proofs.HeadSizes.{head_is}
use Rattle.cy_respond.proofs.Without.{date_unbroken, decimal_unbroken, is_unbroken, is_without, unbroken-append, without-Lacks, without_by}

-- No empty line ends within the bytes: what is looked for stands behind them, as far on as they are long.
record HasNoEmptyLine (begun : Bool) (bytes : List ℕ) : Type 0 where
  later : (rest : List ℕ) → length_to_empty begun (raw_lines (bytes ++ rest)) ≡ longer_by (length bytes) (length_to_empty true (raw_lines rest))

-- ---- bytes one after another

longer_by_none : (o : Option ℕ) → o ≡ longer_by 0 o
longer_by_none None = refl
longer_by_none (Some n) = ap Some (omega arith)

longer_by_both : (n m : ℕ) (o : Option ℕ) → longer_by n (longer_by m o) ≡ longer_by (n + m) o
longer_by_both n m None = refl
longer_by_both n m (Some k) = ap Some (omega arith)

no_lines : HasNoEmptyLine true []
no_lines = record { later = λ rest. longer_by_none (length_to_empty true (raw_lines rest)) }

more_lines : (begun : Bool) (xs ys : List ℕ) → HasNoEmptyLine begun xs → HasNoEmptyLine true ys → HasNoEmptyLine begun (xs ++ ys)
more_lines begun xs ys first more = record {
  later = λ rest.
      ap (λ (t : List ℕ). length_to_empty begun (raw_lines t)) (append_assoc xs ys rest)
      ∙ first.later (ys ++ rest)
      ∙ ap (longer_by (length xs)) (more.later rest)
      ∙ longer_by_both (length xs) (length ys) (length_to_empty true (raw_lines rest))
      ∙ ap (λ (n : ℕ). longer_by n (length_to_empty true (raw_lines rest))) (sym (length-append xs ys));
}

-- ---- a line

not_empty_with_cr : (text : List ℕ) → is_empty text ≡ false → is_empty_line (text ++ 13 ∷ []) ≡ false
not_empty_with_cr [] some = some
not_empty_with_cr (b ∷ []) some = refl
not_empty_with_cr (b ∷ c ∷ text) some = refl

past_line : (begun empty : Bool) (n : ℕ) (lines : List (List ℕ)) → empty ≡ false
    → cond (begun && empty) (Some n) (longer_by n (length_to_empty (begun || not empty) lines)) ≡ longer_by n (length_to_empty true lines)
past_line true true n lines some = cc
past_line true false n lines some = refl
past_line false true n lines some = cc
past_line false false n lines some = refl

one_line : (begun : Bool) (text : List ℕ) → is_empty text ≡ false → is_unbroken text ≡ true → HasNoEmptyLine begun (text ++ crlf)
one_line begun text some unbroken =
    let line = text ++ 13 ∷ [] in
    let size : length line + 1 ≡ length (text ++ crlf) = omega (arith, length-append text (13 ∷ []), length-append text crlf) in
    record {
      later = λ rest.
          let regrouped : (text ++ crlf) ++ rest ≡ line ++ 10 ∷ rest = simp append_assoc in
          ap (λ (t : List ℕ). length_to_empty begun (raw_lines t)) regrouped
          ∙ ap (length_to_empty begun) (parts_at-first 10 line rest (without-Lacks line_feed line (unbroken-append text (13 ∷ []) unbroken refl)))
          ∙ to_empty-cons begun line (raw_lines rest) (parts_at-some 10 rest)
          ∙ past_line begun (is_empty_line line) (length line + 1) (raw_lines rest) (not_empty_with_cr text some)
          ∙ ap (λ (n : ℕ). longer_by n (length_to_empty true (raw_lines rest))) size;
    }

-- ---- the lines of a head

is_empty-append : (xs ys : List ℕ) → is_empty xs ≡ false → is_empty (xs ++ ys) ≡ false
is_empty-append [] ys some = cc
is_empty-append (x ∷ xs) ys some = refl

no_name_has : (is_token_byte line_feed ≡ false) × (is_token_byte colon ≡ false)
unfolding is_token_byte
no_name_has = (refl, refl)

-- what the name and the value of a field that may stand lack
record Stands (f : Field) : Type 0 where
  some : is_empty f.name ≡ false
  name_in_line : is_unbroken f.name ≡ true
  value_in_line : is_unbroken f.value ≡ true
  name_ends : is_without colon f.name ≡ true

stands : (f : Field) → may_stand f ≡ true → Stands f
stands f passes =
    let parts = and_parts (is_free_name f.name) (is_one_line f.value) passes in
    let token = and_parts _ _ (and_parts _ _ parts.0).0 in
    record {
      some = not-true _ token.0;
      name_in_line = without_by line_feed is_token_byte no_name_has.0 f.name token.1;
      value_in_line = without_by line_feed is_line_byte refl f.value parts.1;
      name_ends = without_by colon is_token_byte no_name_has.1 f.name token.1;
    }

-- a field's line without its end
abbrev field_text : Field → List ℕ
field_text f = f.name ++ codes ": " ++ f.value

text_in_line : (f : Field) → Stands f → is_unbroken (field_text f) ≡ true
text_in_line f s = unbroken-append (f.name ++ codes ": ") f.value (unbroken-append f.name (codes ": ") s.name_in_line refl) s.value_in_line

field_is_line : (f : Field) → may_stand f ≡ true → HasNoEmptyLine true (field_line f)
field_is_line f passes =
    let s = stands f passes in
    one_line true (field_text f) (is_empty-append (f.name ++ codes ": ") f.value (is_empty-append f.name (codes ": ") s.some)) (text_in_line f s)

fields_are_lines : (fields : List Field) → list_all may_stand fields ≡ true → HasNoEmptyLine true (flat_map field_line fields)
fields_are_lines [] stand = no_lines
fields_are_lines (f ∷ fields) stand =
    let parts = and_parts (may_stand f) (list_all may_stand fields) stand in
    more_lines true (field_line f) (flat_map field_line fields) (field_is_line f parts.0) (fields_are_lines fields parts.1)

start_is_lines : (a : Answer) → list_all may_stand a.fields ≡ true → HasNoEmptyLine false (start_lines a)
start_is_lines a stand =
    let status = decimal a.status in
    let text = codes "HTTP/1.1 " ++ status ++ codes " " in
    let unbroken : is_unbroken text ≡ true = unbroken-append (codes "HTTP/1.1 ") (status ++ codes " ") refl (unbroken-append status (codes " ") (decimal_unbroken a.status) refl) in
    let regrouped : text ++ crlf ≡ codes "HTTP/1.1 " ++ status ++ codes " \r\n" = simp append_assoc in
    more_lines false (codes "HTTP/1.1 " ++ status ++ codes " \r\n") (flat_map field_line a.fields)
    (subst (HasNoEmptyLine false) regrouped (one_line false text refl unbroken)) (fields_are_lines a.fields stand)

length_is_lines : (n : Option ℕ) → HasNoEmptyLine true (length_line n)
length_is_lines None = no_lines
length_is_lines (Some n) =
    one_line true (codes "Content-Length: " ++ decimal n) refl (unbroken-append (codes "Content-Length: ") (decimal n) refl (decimal_unbroken n))

chunked_is_lines : (told : Bool) → HasNoEmptyLine true (chunked_line told)
chunked_is_lines false = no_lines
chunked_is_lines true = one_line true (codes "Transfer-Encoding: chunked") refl refl

connection_is_lines : (connection : Connection) → HasNoEmptyLine true (connection_line connection)
connection_is_lines silent = no_lines
connection_is_lines close = one_line true (codes "Connection: close") refl refl
connection_is_lines keep_alive = one_line true (codes "Connection: keep-alive") refl refl

-- ---- the laws

pub fields_stand_alone : FieldsStandAlone
fields_stand_alone f rest passes =
    let s = stands f passes in
    let line = field_text f ++ 13 ∷ [] in
    let regrouped : field_line f ++ rest ≡ line ++ 10 ∷ rest = simp append_assoc in
    let by_colon : field_line f ≡ f.name ++ 58 ∷ (codes " " ++ f.value ++ crlf) = simp append_assoc in
    record {
      line = ap (cut_at line_feed) regrouped ∙ cut_at-first line_feed line rest (without-Lacks line_feed line (unbroken-append (field_text f) (13 ∷ []) (text_in_line f s) refl));
      name = ap (cut_at colon) by_colon ∙ cut_at-first colon f.name (codes " " ++ f.value ++ crlf) (without-Lacks colon f.name s.name_ends);
    }

empty_line_ends : (content : List ℕ) → length_to_empty true (raw_lines (crlf ++ content)) ≡ Some 2
empty_line_ends content = to_empty-cons true (13 ∷ []) (raw_lines content) (parts_at-some 10 content)

front_ends : (bytes content : List ℕ) → HasNoEmptyLine false bytes → front_length ((bytes ++ crlf) ++ content) ≡ Some (length (bytes ++ crlf))
unfolding front_length
front_ends bytes content lines =
    ap (λ (t : List ℕ). length_to_empty false (raw_lines t)) (append_assoc bytes crlf content)
    ∙ lines.later (crlf ++ content)
    ∙ ap (longer_by (length bytes)) (empty_line_ends content)
    ∙ ap Some (sym (length-append bytes crlf))

pub heads_end_once : HeadsEndOnce
heads_end_once a shape at content stand =
    let framing = framing_lines shape.told_length shape.in_chunks in
    let date = codes "Date: " ++ date_at at in
    let connection = connection_line shape.connection in
    let framed = more_lines false (start_lines a) framing (start_is_lines a stand)
    (more_lines true (length_line shape.told_length) (chunked_line shape.in_chunks) (length_is_lines shape.told_length) (chunked_is_lines shape.in_chunks)) in
    let dated = more_lines true (date ++ crlf) connection
    (one_line true date refl (unbroken-append (codes "Date: ") (date_at at) refl (date_unbroken at))) (connection_is_lines shape.connection) in
    let lines = (start_lines a ++ framing) ++ ((date ++ crlf) ++ connection) in
    let whole : head_of_shape a shape at ≡ lines ++ crlf
    = head_is a shape at ∙ sym (append_assoc (start_lines a ++ framing) ((date ++ crlf) ++ connection) crlf) in
    subst (λ (head : List ℕ). front_length (head ++ content) ≡ Some (length head)) (sym whole)
    (front_ends lines content (more_lines false (start_lines a ++ framing) ((date ++ crlf) ++ connection) framed dated))
