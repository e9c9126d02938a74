-- What a table of a head holds, field by field.
use Rattle.std.proofs.Common.{◌≡◌, ℕ, ◌+◌, ◌<◌, ◌≤◌, Bool, true, false, cond, List, [], ◌∷◌, ◌++◌, length, take, drop, map, reverse, get_or, sym, ap, ◌∙◌, arith, length-append, length-take, take-append-drop}
use Rattle.std.specs.List.{flat_map}
use Rattle.std.proofs.lemmas.List.{take_more, map-append, length-reverse}
use Rattle.std.proofs.lemmas.List.Sums.{sum_by-append, sum_by-cons}
use Rattle.httparse.specs.Grammar.{RequestHead, ReadsRequest, print_section, print_field, print_end, print_blank, print_version, trim_ows, skip_ows, is_ows, field_value, Field as FieldLine}
use Rattle.httparse.proofs.GrammarLemmas.{print_request-append}
use Rattle.httparse.specs.declared.spans.HeaderSpan.{HeaderSpan}
use Rattle.cy_event.specs.Heads.{colon, Field, Head, found, head_of}
use Rattle.cy_head.specs.Answers.{size_of_fields}
use Rattle.cy_head.specs.HeadGrammar.{field_of_line, head_of_tree}
use Rattle.cy_head.specs.HeadSpans.{field_at, fields_at}
use Rattle.cy_head.proofs.HeadFronts.{found_tells}
use Rattle.cy_head.proofs.HeadLaws.{read_is_tree}

-- the fields of one more span
fields_more : (buf : List ℕ) (fields : List HeaderSpan) (i : ℕ) (d : HeaderSpan) → i < length fields
    → fields_at buf (take (i + 1) fields) ≡ fields_at buf (take i fields) ++ field_at buf (get_or fields i d) ∷ []
fields_more buf fields i d inside =
    ap (fields_at buf) (take_more fields i d inside) ∙ map-append (field_at buf) (take i fields) (get_or fields i d ∷ [])

size-append : (fields more : List Field) → size_of_fields (fields ++ more) ≡ size_of_fields fields + size_of_fields more
size-append fields more = sum_by-append (λ (f : Field). length f.name + length f.value) fields more

size_last : (fields : List Field) (f : Field) → size_of_fields (fields ++ f ∷ []) ≡ size_of_fields fields + length f.name + length f.value
size_last fields f =
    let one : size_of_fields (f ∷ []) ≡ length f.name + length f.value = omega arith in
    omega (arith, size-append fields (f ∷ []))

-- the fields so far and the next one are within the size of all
pub size_so_far : (buf : List ℕ) (fields : List HeaderSpan) (i : ℕ) (d : HeaderSpan) → i < length fields
    → size_of_fields (fields_at buf (take i fields)) + length (field_at buf (get_or fields i d)).name + length (field_at buf (get_or fields i d)).value
    ≤ size_of_fields (fields_at buf fields)
size_so_far buf fields i d inside =
    let first = fields_at buf (take i fields) in
    let last = field_at buf (get_or fields i d) in
    let some = fields_at buf (take (i + 1) fields) in
    let rest = fields_at buf (drop (i + 1) fields) in
    let more : size_of_fields some ≡ size_of_fields first + length last.name + length last.value
    = ap size_of_fields (fields_more buf fields i d inside) ∙ size_last first last in
    let all : size_of_fields (fields_at buf fields) ≡ size_of_fields some + size_of_fields rest
    = ap (λ (xs : List HeaderSpan). size_of_fields (fields_at buf xs)) (sym (take-append-drop (i + 1) fields))
    ∙ ap size_of_fields (map-append (field_at buf) (take (i + 1) fields) (drop (i + 1) fields)) ∙ size-append some rest in
    omega arith

-- ---- the fields of a head are within its front

skip_by_test : (t : Bool) (b : ℕ) (bytes : List ℕ) → length (skip_ows bytes) ≤ length bytes
    → length (cond t (skip_ows bytes) (b ∷ bytes)) ≤ length (b ∷ bytes)
skip_by_test true b bytes few = omega arith
skip_by_test false b bytes few = omega arith

skip_size : (bytes : List ℕ) → length (skip_ows bytes) ≤ length bytes
skip_size [] = omega arith
skip_size (b ∷ bytes) = skip_by_test (is_ows b) b bytes (skip_size bytes)

trim_size : (bytes : List ℕ) → length (trim_ows bytes) ≤ length bytes
unfolding trim_ows
trim_size bytes =
    omega (arith, length-reverse (skip_ows (reverse (skip_ows bytes))), skip_size (reverse (skip_ows bytes)), length-reverse (skip_ows bytes), skip_size bytes)

left_within : (xs ys : List ℕ) → length xs ≤ length (xs ++ ys)
left_within xs ys = omega (arith, length-append xs ys)

right_within : (xs ys : List ℕ) → length ys ≤ length (xs ++ ys)
right_within xs ys = omega (arith, length-append xs ys)

line_size : (f : FieldLine) → length f.name + length (field_value f) ≤ length (print_field f)
line_size f =
    let first : length (f.name ++ colon ∷ f.raw) ≡ length f.name + length (colon ∷ f.raw) = length-append f.name (colon ∷ f.raw) in
    let raw : length (colon ∷ f.raw) ≡ length f.raw + 1 = omega arith in
    omega (arith, trim_size f.raw, left_within (f.name ++ colon ∷ f.raw) (print_end f.end))

lines_size : (fs : List FieldLine) → size_of_fields (map field_of_line fs) ≤ length (flat_map print_field fs)
lines_size [] = omega arith
lines_size (f ∷ fs) =
    let size : size_of_fields (map field_of_line (f ∷ fs)) ≡ (length f.name + length (field_value f)) + size_of_fields (map field_of_line fs)
    = sum_by-cons (λ (g : Field). length g.name + length g.value) (field_of_line f) (map field_of_line fs) in
    let text : length (flat_map print_field (f ∷ fs)) ≡ length (print_field f) + length (flat_map print_field fs)
    = length-append (print_field f) (flat_map print_field fs) in
    omega (arith, line_size f, lines_size fs)

section_within : (a b c d e f : List ℕ) → length f ≤ length (a ++ (b ++ 32 ∷ (c ++ 32 ∷ (d ++ (e ++ (f ++ []))))))
section_within a b c d e f =
    let one = f ++ [] in
    let two = e ++ one in
    let three = d ++ two in
    let four = c ++ 32 ∷ three in
    let five = b ++ 32 ∷ four in
    let cons4 : length (32 ∷ three) ≡ length three + 1 = omega arith in
    let cons5 : length (32 ∷ four) ≡ length four + 1 = omega arith in
    omega (arith, left_within f [], right_within e one, right_within d two, right_within c (32 ∷ three), right_within b (32 ∷ four), right_within a five)

tree_size : (text : List ℕ) (g : RequestHead) → ReadsRequest text g [] → size_of_fields (head_of_tree g).fields ≤ length text
tree_size text g reads =
    let whole : length text ≡ length (print_blank g.blank ++ (g.method ++ 32 ∷ (g.target ++ 32 ∷ (print_version g.minor ++ (print_end g.line_end ++ (print_section g.fields g.last ++ []))))))
    = ap length (reads.1 ∙ print_request-append g []) in
    omega (
      arith,
      lines_size g.fields,
      left_within (flat_map print_field g.fields) (print_end g.last),
      section_within (print_blank g.blank) g.method g.target (print_version g.minor) (print_end g.line_end) (print_section g.fields g.last),
    )

-- a head's fields are within its front
pub size_within : (max_head max_fields : ℕ) (bytes : List ℕ) (n : ℕ) (h : Head) → head_of max_head max_fields bytes ≡ found n h
    → size_of_fields h.fields ≤ n
size_within max_head max_fields bytes n h e =
    let tree = read_is_tree (take n bytes) h (found_tells max_head max_fields bytes n h e).read in
    let fields : size_of_fields h.fields ≡ size_of_fields (head_of_tree tree.0).fields = ap (λ (k : Head). size_of_fields k.fields) (sym tree.2) in
    omega (arith, tree_size (take n bytes) tree.0 tree.1, length-take n bytes)
