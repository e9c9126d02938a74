-- What `head_of` answers, case by case.
use Rattle.std.proofs.Common.{◌≡◌, ℕ, ◌<◌, ◌≤◌, Bool, true, false, ◌&&◌, cond, List, length, take, refl, sym, ap, ◌∙◌, subst, arith, leb, Option, Some, None}
use Rattle.std.proofs.lemmas.List.{length-map}
use Rattle.std.proofs.lemmas.Bool.{cond-true, cond-false, and_parts, and_from, leb-true, leb-false, le-leb, lt-leb}
use Rattle.httparse.specs.Grammar.{RequestHead}
use Rattle.cy_event.specs.Heads.{Head, awaited, found, malformed, front_length, whole_head, host_fits, front_from, head_from_front, head_of}
use Rattle.cy_head.specs.HeadGrammar.{field_of_line, head_of_tree, HeadsAreTheGrammar, HeadsAreAwaited}
use Rattle.cy_head.proofs.HeadPrinted.{tree_is_read}
use Rattle.cy_head.proofs.HeadLaws.{read_is_tree}

-- what a found head tells
pub record IsFound (max_head max_fields : ℕ) (bytes : List ℕ) (front : Option ℕ) (n : ℕ) (h : Head) : Type 0 where
  pub front_is : front ≡ Some n
  pub within : n ≤ max_head
  pub read : whole_head (take n bytes) ≡ Some h
  pub few : length h.fields ≤ max_fields
  pub host : host_fits h ≡ true

not_found_by : (t : Bool) (n : ℕ) (h : Head) → cond t malformed awaited ≡ found n h → ⊥
not_found_by true n h e = cc
not_found_by false n h e = cc

found_by_fields : (max_head max_fields m : ℕ) (bytes : List ℕ) (n : ℕ) (h k : Head) (t : Bool)
    → (leb (length k.fields) max_fields && host_fits k) ≡ t → m ≤ max_head → whole_head (take m bytes) ≡ Some k
    → cond t (found m k) malformed ≡ found n h → IsFound max_head max_fields bytes (Some m) n h
found_by_fields max_head max_fields m bytes n h k true tests within read e =
    let both : (leb (length k.fields) max_fields ≡ true) × (host_fits k ≡ true) = and_parts _ _ tests in
    let place : m ≡ n = cc in
    let head : k ≡ h = cc in
    subst (λ (j : ℕ). IsFound max_head max_fields bytes (Some m) j h) place
    (subst (IsFound max_head max_fields bytes (Some m) m) head record {
      front_is = refl;
      within = within;
      read = read;
      few = leb-true _ _ both.0;
      host = both.1;
    })
found_by_fields max_head max_fields m bytes n h k false tests within read e = absurd (cc)

found_by_head : (max_head max_fields m : ℕ) (bytes : List ℕ) (n : ℕ) (h : Head) (head : Option Head) → m ≤ max_head
    → whole_head (take m bytes) ≡ head → front_from max_fields m head ≡ found n h → IsFound max_head max_fields bytes (Some m) n h
found_by_head max_head max_fields m bytes n h None within read e = absurd (cc)
found_by_head max_head max_fields m bytes n h (Some k) within read e =
    found_by_fields max_head max_fields m bytes n h k _ refl within read e

found_by_limit : (max_head max_fields m : ℕ) (bytes : List ℕ) (n : ℕ) (h : Head) (t : Bool) → leb m max_head ≡ t
    → cond t (front_from max_fields m (whole_head (take m bytes))) malformed ≡ found n h → IsFound max_head max_fields bytes (Some m) n h
found_by_limit max_head max_fields m bytes n h true within e =
    found_by_head max_head max_fields m bytes n h (whole_head (take m bytes)) (leb-true _ _ within) refl e
found_by_limit max_head max_fields m bytes n h false over e = absurd (cc)

found_by_front : (max_head max_fields : ℕ) (bytes : List ℕ) (front : Option ℕ) (n : ℕ) (h : Head)
    → head_from_front max_head max_fields bytes front ≡ found n h → IsFound max_head max_fields bytes front n h
found_by_front max_head max_fields bytes None n h e = absurd (not_found_by _ n h e)
found_by_front max_head max_fields bytes (Some m) n h e = found_by_limit max_head max_fields m bytes n h _ refl e

pub found_tells : (max_head max_fields : ℕ) (bytes : List ℕ) (n : ℕ) (h : Head) → head_of max_head max_fields bytes ≡ found n h
    → IsFound max_head max_fields bytes (front_length bytes) n h
unfolding head_of
found_tells max_head max_fields bytes n h e = found_by_front max_head max_fields bytes (front_length bytes) n h e

pub found_from : (max_head max_fields : ℕ) (bytes : List ℕ) (n : ℕ) (h : Head)
    → IsFound max_head max_fields bytes (front_length bytes) n h → head_of max_head max_fields bytes ≡ found n h
unfolding head_of
found_from max_head max_fields bytes n h x =
    ap (head_from_front max_head max_fields bytes) x.front_is
    ∙ cond-true _ _ _ (le-leb _ _ x.within)
    ∙ ap (front_from max_fields n) x.read
    ∙ cond-true _ _ _ (and_from _ _ (le-leb _ _ x.few) x.host)

-- ---- the law

fields_length : (g : RequestHead) (h : Head) → head_of_tree g ≡ h → length h.fields ≡ length g.fields
fields_length g h same = ap (λ (k : Head). length k.fields) (sym same) ∙ length-map g.fields field_of_line

pub heads_are : HeadsAreTheGrammar
heads_are max_head max_fields bytes n h = (
  λ e.
      let x = found_tells max_head max_fields bytes n h e in
      let tree = read_is_tree (take n bytes) h x.read in
      (x.front_is, x.within, tree.0, tree.1, omega (arith, x.few, fields_length tree.0 h tree.2), tree.2, x.host),
  λ x. found_from max_head max_fields bytes n h record {
    front_is = x.0;
    within = x.1;
    read = tree_is_read (take n bytes) x.2 x.3 ∙ ap (λ (k : Head). Some k) x.5;
    few = omega (arith, x.4, fields_length x.2 h x.5);
    host = x.6;
  },
)

-- ---- where a head is awaited

not_awaited_by_head : (t : Bool) (m : ℕ) (k : Head) → cond t (found m k) malformed ≡ awaited → ⊥
not_awaited_by_head true m k e = cc
not_awaited_by_head false m k e = cc

not_awaited_in_front : (max_fields m : ℕ) (head : Option Head) → front_from max_fields m head ≡ awaited → ⊥
not_awaited_in_front max_fields m None e = cc
not_awaited_in_front max_fields m (Some k) e = not_awaited_by_head _ m k e

not_awaited_by_limit : (max_fields m : ℕ) (head : Option Head) (t : Bool) → cond t (front_from max_fields m head) malformed ≡ awaited → ⊥
not_awaited_by_limit max_fields m head true e = not_awaited_in_front max_fields m head e
not_awaited_by_limit max_fields m head false e = cc

awaited_by_size : (max_head size : ℕ) (t : Bool) → leb max_head size ≡ t → cond t malformed awaited ≡ awaited → size < max_head
awaited_by_size max_head size true over e = absurd (cc)
awaited_by_size max_head size false under e = leb-false _ _ under

awaited_by_front : (max_head max_fields : ℕ) (bytes : List ℕ) (front : Option ℕ) → head_from_front max_head max_fields bytes front ≡ awaited
    → (front ≡ None) × (length bytes < max_head)
awaited_by_front max_head max_fields bytes None e = (refl, awaited_by_size max_head (length bytes) _ refl e)
awaited_by_front max_head max_fields bytes (Some m) e = absurd (not_awaited_by_limit max_fields m (whole_head (take m bytes)) _ e)

pub heads_are_awaited : HeadsAreAwaited
unfolding head_of
heads_are_awaited max_head max_fields bytes = (
  awaited_by_front max_head max_fields bytes (front_length bytes),
  λ x. ap (head_from_front max_head max_fields bytes) x.0 ∙ cond-false _ _ _ (lt-leb _ _ x.1),
)

-- ---- room for few fields is enough, where the answer isn't that the head is malformed

few_by_tests : (few many m : ℕ) (k : Head) (t : Bool) → few ≤ many → (leb (length k.fields) few && host_fits k) ≡ t
    → (cond t (found m k) malformed ≡ malformed → ⊥)
    → cond (leb (length k.fields) many && host_fits k) (found m k) malformed ≡ cond t (found m k) malformed
few_by_tests few many m k true more tests right =
    let both : (leb (length k.fields) few ≡ true) × (host_fits k ≡ true) = and_parts _ _ tests in
    let within : length k.fields ≤ few = leb-true _ _ both.0 in
    let still : length k.fields ≤ many = omega arith in
    cond-true _ _ _ (and_from _ _ (le-leb _ _ still) both.1)
few_by_tests few many m k false more tests right = absurd (right refl)

few_by_head : (few many m : ℕ) (head : Option Head) → few ≤ many → (front_from few m head ≡ malformed → ⊥)
    → front_from many m head ≡ front_from few m head
few_by_head few many m None more right = refl
few_by_head few many m (Some k) more right = few_by_tests few many m k _ more refl right

few_by_limit : (few many m : ℕ) (head : Option Head) (t : Bool) → few ≤ many
    → (cond t (front_from few m head) malformed ≡ malformed → ⊥)
    → cond t (front_from many m head) malformed ≡ cond t (front_from few m head) malformed
few_by_limit few many m head true more right = few_by_head few many m head more right
few_by_limit few many m head false more right = refl

few_by_front : (max_head few many : ℕ) (bytes : List ℕ) (front : Option ℕ) → few ≤ many
    → (head_from_front max_head few bytes front ≡ malformed → ⊥)
    → head_from_front max_head many bytes front ≡ head_from_front max_head few bytes front
few_by_front max_head few many bytes None more right = refl
few_by_front max_head few many bytes (Some m) more right =
    few_by_limit few many m (whole_head (take m bytes)) (leb m max_head) more right

pub few_are_enough : (max_head few many : ℕ) (bytes : List ℕ) → few ≤ many → (head_of max_head few bytes ≡ malformed → ⊥)
    → head_of max_head many bytes ≡ head_of max_head few bytes
unfolding head_of
few_are_enough max_head few many bytes more right = few_by_front max_head few many bytes (front_length bytes) more right
