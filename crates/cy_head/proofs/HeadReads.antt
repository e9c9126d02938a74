-- What the loops that read a head keep, and what its spans tell.
use Rattle.std.proofs.Common.{◌≡◌, ℕ, ◌<◌, ◌≤◌, Bool, true, false, ◌&&◌, cond, List, [], ◌∷◌, ◌++◌, length, take, drop, map, refl, sym, ap, ◌∙◌, arith, leb, Option, Some, None}
use Rattle.std.proofs.lemmas.List.{length-map}
use Rattle.std.proofs.lemmas.Bool.{cond-true, cond-false, leb-true, le-leb, lt-leb, and_from, and_right}
use Rattle.cy_event.specs.Heads.{is_empty_line, front_length, is_one_host, values_of}
use Rattle.cy_event.specs.Heads.{Field, Head, awaited, found, malformed, whole_head, host_fits, head_of, head_from_front, front_from}
use Rattle.cy_head.proofs.HeadFronts.{heads_are_awaited}
use Rattle.cy_head.specs.HeadGrammar.{field_of_line, head_of_tree}
use Rattle.cy_head.specs.HeadSpans.{field_at, fields_at, head_at, HasWhole}
use Rattle.cy_head.proofs.HeadPrinted.{tree_is_read}
use Rattle.cy_head.proofs.HeadLaws.{read_is_tree}
use Rattle.httparse.specs.Grammar.{RequestHead, ReadsRequest}
use Rattle.httparse.specs.Spans.{span_bytes, header_bytes, name_and_value, IsWithin, IsRequestAt}
use Rattle.httparse.specs.declared.spans.RequestSpans.{RequestSpans}
use Rattle.httparse.specs.declared.spans.Span.{Span}
use Rattle.httparse.specs.declared.spans.HeaderSpan.{HeaderSpan}
use Rattle.std.specs.Prelude.{codes, IfSome}

-- ---- lines

-- a line of two or more bytes isn't empty
pub long_line : (line : List ℕ) → 2 ≤ length line → false ≡ is_empty_line line
long_line [] long = absurd (omega arith)
long_line (a ∷ []) long = absurd (omega arith)
long_line (a ∷ b ∷ line) long = refl

-- ---- the values of Host

-- the value that was seen
abbrev pub seen : List ℕ → Option Span → List (List ℕ)
seen front None = []
seen front (Some s) = span_bytes front s ∷ []

-- the values of the fields that are called Host
abbrev pub hosts : List ℕ → List HeaderSpan → List (List ℕ)
hosts front fields = values_of (codes "Host") (fields_at front fields)

-- the values of Host are the one that was seen and those of the fields from i on
pub record HostsSeen (front : List ℕ) (fields : List HeaderSpan) (i : ℕ) (host : Option Span) : Type 0 where
  pub within : IfSome host (IsWithin (length front))
  pub values : hosts front fields ≡ seen front host ++ hosts front (drop i fields)

-- ---- a head from its spans

abbrev as_field : List ℕ × List ℕ → Field
as_field p = record { name = p.0; value = p.1 }

map_twice : {A B C : Type 0} (f : B → C) (g : A → B) (xs : List A) → map f (map g xs) ≡ map (λ x. f (g x)) xs
map_twice f g [] = refl
map_twice f g (x ∷ xs) = ap (λ ys. f (g x) ∷ ys) (map_twice f g xs)

-- the spans cover the parts of the head of the grammar
pub spans_are : (front : List ℕ) (spans : List HeaderSpan) (r : RequestSpans) (g : RequestHead) → IsRequestAt front spans r g
    → head_at front r (take r.headers spans) ≡ head_of_tree g
spans_are front spans r g at_spans =
    let fields : map (field_at front) (take r.headers spans) ≡ map field_of_line g.fields
    = sym (map_twice as_field (header_bytes front) (take r.headers spans)) ∙ ap (map as_field) at_spans.fields ∙ map_twice as_field name_and_value g.fields in
    λ i. record { method = at_spans.method i; target = at_spans.path i; minor = at_spans.version i; fields = fields i }

-- the whole front is this head
pub read_tells : (front : List ℕ) (spans : List HeaderSpan) (r : RequestSpans) (g : RequestHead)
    → ReadsRequest front g [] → IsRequestAt front spans r g → whole_head front ≡ Some (head_at front r (take r.headers spans))
read_tells front spans r g reads at_spans =
    tree_is_read front g reads ∙ ap (λ (h : Head). Some h) (sym (spans_are front spans r g at_spans))

-- as many fields as the grammar reads
pub count_is : (front : List ℕ) (spans : List HeaderSpan) (r : RequestSpans) (g : RequestHead) → IsRequestAt front spans r g
    → length (head_at front r (take r.headers spans)).fields ≡ length g.fields
count_is front spans r g at_spans =
    ap (λ (h : Head). length h.fields) (spans_are front spans r g at_spans) ∙ length-map g.fields field_of_line

none_by_size : (front : List ℕ) (room n : ℕ) (h : Head) (t : Bool) → leb (length h.fields) room ≡ t → whole_head front ≡ Some h
    → (HasWhole front room → ⊥) → cond (t && host_fits h) (found n h) malformed ≡ malformed
none_by_size front room n h true small read none =
    let tree = read_is_tree front h read in
    absurd (none (tree.0, tree.1, omega (arith, leb-true _ _ small, length-map tree.0.fields field_of_line, ap (λ (k : Head). length k.fields) tree.2)))
none_by_size front room n h false large read none = refl

none_by_head : (front : List ℕ) (room n : ℕ) (head : Option Head) → whole_head front ≡ head → (HasWhole front room → ⊥)
    → front_from room n head ≡ malformed
none_by_head front room n None read none = refl
none_by_head front room n (Some h) read none = none_by_size front room n h _ refl read none

-- ---- what stands at the front, from the front and what it is read as

pub awaited_shows : (max_head max_fields : ℕ) (bytes : List ℕ) → None ≡ front_length bytes → length bytes < max_head
    → head_of max_head max_fields bytes ≡ awaited
awaited_shows max_head max_fields bytes e few = (heads_are_awaited max_head max_fields bytes).1 (sym e, few)

pub endless_shows : (max_head max_fields : ℕ) (bytes : List ℕ) → None ≡ front_length bytes → max_head ≤ length bytes
    → head_of max_head max_fields bytes ≡ malformed
unfolding head_of
endless_shows max_head max_fields bytes e many =
    ap (head_from_front max_head max_fields bytes) (sym e) ∙ cond-true _ _ _ (le-leb _ _ many)

pub large_shows : (max_head max_fields : ℕ) (bytes : List ℕ) (n : ℕ) → Some n ≡ front_length bytes → max_head < n
    → head_of max_head max_fields bytes ≡ malformed
unfolding head_of
large_shows max_head max_fields bytes n e large =
    ap (head_from_front max_head max_fields bytes) (sym e) ∙ cond-false _ _ _ (lt-leb _ _ large)

-- a front within its limit
front_shows : (max_head max_fields : ℕ) (bytes : List ℕ) (n : ℕ) → Some n ≡ front_length bytes → n ≤ max_head
    → head_of max_head max_fields bytes ≡ front_from max_fields n (whole_head (take n bytes))
unfolding head_of
front_shows max_head max_fields bytes n e within =
    ap (head_from_front max_head max_fields bytes) (sym e) ∙ cond-true _ _ _ (le-leb _ _ within)

-- a front that is read as a head whose Host is right
pub head_shows : (max_head max_fields : ℕ) (bytes : List ℕ) (n : ℕ) (h : Head) → Some n ≡ front_length bytes → n ≤ max_head
    → whole_head (take n bytes) ≡ Some h → length h.fields ≤ max_fields → host_fits h ≡ true
    → head_of max_head max_fields bytes ≡ found n h
head_shows max_head max_fields bytes n h e within read few host =
    front_shows max_head max_fields bytes n e within ∙ ap (front_from max_fields n) read
    ∙ cond-true _ _ _ (and_from _ _ (le-leb _ _ few) host)

-- a front that is read as a head whose Host is wrong
pub host_shows : (max_head max_fields : ℕ) (bytes : List ℕ) (n : ℕ) (h : Head) → Some n ≡ front_length bytes → n ≤ max_head
    → whole_head (take n bytes) ≡ Some h → host_fits h ≡ false → head_of max_head max_fields bytes ≡ malformed
host_shows max_head max_fields bytes n h e within read host =
    front_shows max_head max_fields bytes n e within ∙ ap (front_from max_fields n) read
    ∙ cond-false _ _ _ (and_right (leb (length h.fields) max_fields) (host_fits h) host)

-- a front that isn't read
pub malformed_shows : (max_head max_fields : ℕ) (bytes : List ℕ) (n : ℕ) → Some n ≡ front_length bytes → n ≤ max_head
    → (HasWhole (take n bytes) max_fields → ⊥) → head_of max_head max_fields bytes ≡ malformed
malformed_shows max_head max_fields bytes n e within none =
    front_shows max_head max_fields bytes n e within ∙ none_by_head (take n bytes) max_fields n _ refl none

-- ---- where the parts of a head are

-- what a front that is read whole tells
pub record Whole (front : List ℕ) (spans : List HeaderSpan) (room : ℕ) (r : RequestSpans) : Type 0 where
  pub tree : RequestHead
  pub reads : ReadsRequest front tree []
  pub few : length tree.fields ≤ room
  pub at_spans : IsRequestAt front spans r tree

host_is : (front : List ℕ) (r : RequestSpans) (fields : List HeaderSpan) (host : Bool)
    → host ≡ is_one_host r.version (hosts front fields) → host_fits (head_at front r fields) ≡ host
unfolding host_fits
host_is front r fields host e = sym e

-- the whole front is a head whose Host is right
pub found_by_spans : (max_head room : ℕ) (bytes : List ℕ) (n : ℕ) (spans : List HeaderSpan) (r : RequestSpans) (host : Bool)
    → Some n ≡ front_length bytes → n ≤ max_head → r.len ≡ n → Whole (take n bytes) spans room r
    → host ≡ is_one_host r.version (hosts (take n bytes) (take r.headers spans)) → host ≡ true
    → head_of max_head room bytes ≡ found r.len (head_at (take r.len bytes) r (take r.headers spans))
found_by_spans max_head room bytes n spans r host e within size whole is right =
    let front = take n bytes in
    let h = head_at front r (take r.headers spans) in
    head_shows max_head room bytes n h e within (read_tells front spans r whole.tree whole.reads whole.at_spans)
    (omega (arith, whole.few, count_is front spans r whole.tree whole.at_spans)) (host_is front r (take r.headers spans) host is ∙ right)
    ∙ ap (λ (k : ℕ). found k (head_at (take k bytes) r (take r.headers spans))) (sym size)

-- the whole front is a head whose Host is wrong
pub refused_by_host : (max_head room : ℕ) (bytes : List ℕ) (n : ℕ) (spans : List HeaderSpan) (r : RequestSpans) (host : Bool)
    → Some n ≡ front_length bytes → n ≤ max_head → Whole (take n bytes) spans room r
    → host ≡ is_one_host r.version (hosts (take n bytes) (take r.headers spans)) → host ≡ false
    → head_of max_head room bytes ≡ malformed
refused_by_host max_head room bytes n spans r host e within whole is wrong =
    let front = take n bytes in
    host_shows max_head room bytes n (head_at front r (take r.headers spans)) e within
    (read_tells front spans r whole.tree whole.reads whole.at_spans) (host_is front r (take r.headers spans) host is ∙ wrong)
