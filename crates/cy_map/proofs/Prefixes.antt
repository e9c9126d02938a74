-- The longest prefix that a path is under, among the bases that end in the path.
use Rattle.std.proofs.Common.{◌≡◌, ℕ, ◌+◌, ◌<◌, ◌≤◌, Bool, true, false, ◌&&◌, ◌||◌, ◌⊎◌, inl, inr, not, nat_le, List, [], ◌∷◌, ◌++◌, length, take, drop, Option, None, Some, refl, sym, ◌∙◌, ap, subst, suc, get_or, arith, length-append, length-take-le, take-append-drop, take-suc, append_assoc, nat_eq, nat_lt}
use Rattle.std.specs.Prelude.{find, codes, bytes_eq, slice_get}
use Rattle.std.specs.List.{list_all, starts_with}
use borrow.Author.Tests.{ltb-true, ltb-false, eqb-true, leb-true}
use Rattle.std.proofs.Math.Seq.{take-append_seam, take-length}
use Rattle.std.proofs.lemmas.Bool.{cases_Bool, true≢false}
use Rattle.std.proofs.lemmas.Bool.Decides.{nat_tests}
use Rattle.std.proofs.lemmas.Slice.Eq.{bytes_eq-Decides}
use Rattle.std.proofs.lemmas.Option.{slice_get_past, slice_get_within, slice_get-get_or, get_or_from_slice_get}
use Rattle.cy_map.specs.declared.rule.Rule.{Rule}
use Rattle.cy_map.specs.declared.index.Form.TheVariants.{Prefix}
use Rattle.cy_map.specs.Patterns.{prefix_base, is_under, ends_base, slash}
use Rattle.cy_map.specs.Mapping.{reads_as, is_prefix_for, is_no_longer, is_longest_for}
use Rattle.cy_map.specs.Indexes.{first_read}
use Rattle.cy_map.proofs.Members.{IsMember, find_same, find_none, none_passes, found_passes, all_pass, each_passes, same_bool}
use Rattle.cy_map.proofs.Readings.{read_text, text_read, base_read, both, not_or, length-prefix}

-- the byte at the seam of two lists is the first of the second
at_seam : (xs ys : List ℕ) → slice_get (xs ++ ys) (length xs) ≡ slice_get ys 0
at_seam [] ys = refl
at_seam (x ∷ xs) ys = at_seam xs ys

-- a base stands at the path's front and ends there
pub record EndsAt (base path : List ℕ) : Type 0 where
  pub within : length base ≤ length path
  pub front : take (length base) path ≡ base
  pub ends : ends_base path (length base) ≡ true

goes_on : (base rest path : List ℕ) → path ≡ base ++ (slash ∷ rest) → EndsAt base path
goes_on base rest path is =
    rw is (record {
      within = omega (arith, length-append base (slash ∷ rest));
      front = take-append_seam base (slash ∷ rest);
      ends = rw (at_seam base (slash ∷ rest)) refl;
    })

is_all : (base path : List ℕ) → base ≡ path → nat_lt 0 (length path) ≡ true → EndsAt base path
is_all base path is some = rw is (record {
  within = omega arith;
  front = take-length path;
  ends = rw (slice_get_past path (length path) (omega arith)) some;
})

pub base_ends : (base path : List ℕ) → is_under base path ≡ true → EndsAt base path
base_ends base path under =
    elim (cases_Bool (starts_with nat_eq path (base ++ codes "/"))) [
      | inl starts ↦
          let needle = base ++ codes "/" in
          let front : needle ≡ take (length needle) path = (bytes_eq-Decides needle (take (length needle) path)).0 starts in
          let whole : take (length needle) path ++ drop (length needle) path ≡ path = take-append-drop (length needle) path in
          let is : path ≡ base ++ (slash ∷ drop (length needle) path) = sym whole ∙ (rw (← front) (append_assoc base (codes "/") (drop (length needle) path))) in
          goes_on base (drop (length needle) path) path is
      | inr other ↦
          let rest : bytes_eq base path && nat_lt 0 (length path) ≡ true = rw other at under in
          let parts = both _ _ rest in
          is_all base path ((bytes_eq-Decides base path).0 parts.0) parts.1
    ]

get_cases : (o : Option ℕ) → (o ≡ None) ⊎ ((b : ℕ) × (o ≡ Some b))
get_cases None = inl refl
get_cases (Some b) = inr (b, refl)

-- there is no byte only at the end
at_end : (path : List ℕ) (end : ℕ) → end ≤ length path → slice_get path end ≡ None → end ≡ length path
at_end path end within none =
    elim (cases_Bool (nat_lt end (length path))) [
      | inl inside ↦ let some = slice_get-get_or path end 0 (ltb-true _ _ inside) in absurd (cc)
      | inr past ↦ omega (arith, ltb-false _ _ past)
    ]

true_or : (a b : Bool) → a ≡ true → a || b ≡ true
true_or a b is = rw is refl

or_true : (a b : Bool) → b ≡ true → a || b ≡ true
or_true true b is = refl
or_true false b is = is

both_true : (a b : Bool) → a ≡ true → b ≡ true → a && b ≡ true
both_true a b first second = rw first second

-- the way back: the front of a path is a base that it is under, where a base ends there
pub front_under : (path : List ℕ) (end : ℕ) → end ≤ length path → ends_base path end ≡ true → is_under (take end path) path ≡ true
front_under path end within ends =
    elim (get_cases (slice_get path end)) [
      | inl past ↦
          let positive : nat_lt 0 end ≡ true = rw past at ends in
          let all : end ≡ length path = at_end path end within past in
          let whole : take end path ≡ path = rw all (take-length path) in
          rw whole (or_true _ _ (both_true _ _ ((bytes_eq-Decides path path).1 refl) (rw (← all) positive)))
      | inr at ↦
          let is_slash : at.0 ≡ slash = eqb-true _ _ (rw at.1 at ends) in
          let inside : end < length path = slice_get_within path end at.0 at.1 in
          let byte : get_or path end 0 ≡ slash = get_or_from_slice_get path end at.0 0 at.1 ∙ is_slash in
          let needle = take end path ++ codes "/" in
          let long : length needle ≡ suc end = omega (arith, length-append (take end path) (codes "/"), length-take-le end path within) in
          let front : take (suc end) path ≡ needle = take-suc path end 0 inside ∙ ap (λ b. take end path ++ (b ∷ [])) byte in
          let same : needle ≡ take (length needle) path = rw long (sym front) in
          true_or _ _ ((bytes_eq-Decides needle (take (length needle) path)).1 same)
    ]

or_not : (a b : Bool) → (a ≡ true → b ≡ true) → not a || b ≡ true
or_not true b h = h refl
or_not false b h = refl

le_true : (m n : ℕ) → m ≤ n → nat_le m n ≡ true
le_true m n h = grind (arith, nat_tests)

-- ---- rules

-- a base of this length ends in the path, and the rule's pattern is read as it
record HasBaseAt (path : List ℕ) (rule : Rule) (end : ℕ) : Type 0 where
  within : end ≤ length path
  ends : ends_base path end ≡ true
  reads : reads_as (prefix_base rule.pattern) (take end path) ≡ true
  long : length rule.pattern ≡ end + 2

base_at : (path : List ℕ) (rule : Rule) → is_prefix_for path rule ≡ true → (end : ℕ) × HasBaseAt path rule end
base_at path rule prefix =
    let read = base_read path (prefix_base rule.pattern) prefix in
    let ends = base_ends read.0 path read.2 in (
      length read.0,
      record {
        within = ends.within;
        ends = ends.ends;
        reads = text_read (prefix_base rule.pattern) (take (length read.0) path) (read.1 ∙ ap (λ t. Some t) (sym ends.front));
        long = length-prefix rule.pattern read.0 read.1;
      },
    )

at_base : (path : List ℕ) (rule : Rule) (end : ℕ) → end ≤ length path → ends_base path end ≡ true → reads_as (prefix_base rule.pattern) (take end path) ≡ true
    → (is_prefix_for path rule ≡ true) × (length rule.pattern ≡ end + 2)
at_base path rule end within ends reads =
    let is = read_text (prefix_base rule.pattern) (take end path) reads in
    (rw is (front_under path end within ends), length-prefix rule.pattern (take end path) is ∙ ap (λ n. n + 2) (length-take-le end path within))

-- no rule is read as a longer front of the path that is a base
abbrev pub NoneLonger : List Rule → List ℕ → ℕ → Type 0
NoneLonger rules path end = (longer : ℕ) → end < longer → longer ≤ length path → ends_base path longer ≡ true → first_read Prefix rules (take longer path) ≡ None

-- so every prefix for the path is at most this long
at_most : (rules : List Rule) (path : List ℕ) (end : ℕ) → NoneLonger rules path end → (rule : Rule) → IsMember rule rules → is_prefix_for path rule ≡ true → length rule.pattern ≤ end + 2
at_most rules path end none rule member prefix =
    let base = base_at path rule prefix in
    elim (cases_Bool (nat_lt end base.0)) [
      | inl longer ↦
          let found = none base.0 (ltb-true _ _ longer) base.1.within base.1.ends in
          absurd (true≢false (sym base.1.reads ∙ none_passes _ rules found rule member))
      | inr shorter ↦ omega (arith, ltb-false _ _ shorter, base.1.long)
    ]

-- the length of a longest one is that length
longest_reads : (rules : List Rule) (path : List ℕ) (end : ℕ) (found : Rule) → end ≤ length path → ends_base path end ≡ true → first_read Prefix rules (take end path) ≡ Some found → NoneLonger rules path end
    → (rule : Rule) → IsMember rule rules → is_longest_for rules path rule ≡ true → reads_as (prefix_base rule.pattern) (take end path) ≡ true
longest_reads rules path end found within ends is none rule member longest =
    let parts = both (is_prefix_for path rule) (list_all (is_no_longer path rule) rules) longest in
    let base = base_at path rule parts.0 in
    let there = found_passes _ rules found is in
    let prefix = at_base path found end within ends there.1 in
    let least = not_or (is_prefix_for path found) (nat_le (length found.pattern) (length rule.pattern)) (each_passes (is_no_longer path rule) rules parts.1 found there.0) prefix.0 in
    let least : length found.pattern ≤ length rule.pattern = leb-true _ _ least in
    let most : length rule.pattern ≤ end + 2 = at_most rules path end none rule member parts.0 in
    let same : base.0 ≡ end = omega (arith, prefix.1, base.1.long) in
    subst (λ n. reads_as (prefix_base rule.pattern) (take n path) ≡ true) same base.1.reads

-- one of that length is a longest one
reads_longest : (rules : List Rule) (path : List ℕ) (end : ℕ) → end ≤ length path → ends_base path end ≡ true → NoneLonger rules path end
    → (rule : Rule) → IsMember rule rules → reads_as (prefix_base rule.pattern) (take end path) ≡ true → is_longest_for rules path rule ≡ true
reads_longest rules path end within ends none rule member reads =
    let prefix = at_base path rule end within ends reads in
    both_true _ _ prefix.0 (all_pass (is_no_longer path rule) rules (λ other m. or_not (is_prefix_for path other) (nat_le (length other.pattern) (length rule.pattern)) (λ is. le_true _ _ (omega (arith, at_most rules path end none other m is, prefix.1)))))

same_test : (rules : List Rule) (path : List ℕ) (end : ℕ) (found : Rule) → end ≤ length path → ends_base path end ≡ true → first_read Prefix rules (take end path) ≡ Some found → NoneLonger rules path end
    → (rule : Rule) → IsMember rule rules → is_longest_for rules path rule ≡ reads_as (prefix_base rule.pattern) (take end path)
same_test rules path end found within ends is none rule member =
    same_bool _ _ (longest_reads rules path end found within ends is none rule member) (reads_longest rules path end within ends none rule member)

no_prefix : (rules : List Rule) (path : List ℕ) → ((end : ℕ) → end ≤ length path → ends_base path end ≡ true → first_read Prefix rules (take end path) ≡ None)
    → (rule : Rule) → IsMember rule rules → is_prefix_for path rule ≡ false
no_prefix rules path none rule member =
    elim (cases_Bool (is_prefix_for path rule)) [
      | inl prefix ↦
          let base = base_at path rule prefix in
          absurd (true≢false (sym base.1.reads ∙ none_passes _ rules (none base.0 base.1.within base.1.ends) rule member))
      | inr other ↦ other
    ]

not_longest : (a b : Bool) → a ≡ false → a && b ≡ false
not_longest a b is = rw is refl

pub longest_found : (rules : List Rule) (path : List ℕ) (end : ℕ) (found : Rule) → end ≤ length path → ends_base path end ≡ true → first_read Prefix rules (take end path) ≡ Some found → NoneLonger rules path end
    → find (is_longest_for rules path) rules ≡ Some found
longest_found rules path end found within ends is none = find_same _ _ rules (same_test rules path end found within ends is none) ∙ is

-- where no base that ends in the path is read, no prefix is for the path
pub no_longest : (rules : List Rule) (path : List ℕ) → ((end : ℕ) → end ≤ length path → ends_base path end ≡ true → first_read Prefix rules (take end path) ≡ None)
    → find (is_longest_for rules path) rules ≡ None
no_longest rules path none =
    find_none (is_longest_for rules path) rules (λ rule member. not_longest (is_prefix_for path rule) (list_all (is_no_longer path rule) rules) (no_prefix rules path none rule member))
