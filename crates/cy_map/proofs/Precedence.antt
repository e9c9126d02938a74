-- Which of the four forms a path finds.
use Rattle.std.proofs.Common.{◌≡◌, ◌≢◌, ℕ, suc, ◌-◌, ◌<◌, ◌≤◌, Bool, true, false, not, ◌||◌, ◌⊎◌, inl, inr, List, [], ◌∷◌, ◌++◌, length, take, drop, Option, None, Some, IsSome, IsTrue, All, refl, sym, ◌∙◌, ap, subst, arith, nat_eq, nat_le, length-drop, take-append-drop}
use borrow.Author.Tests.{ltb-true, eqb-true, leb-true}
use Rattle.std.specs.Prelude.{find, codes}
use Rattle.std.specs.List.{list_all, ends_with}
use Rattle.std.specs.Option.{option_map_or}
use Rattle.std.proofs.lemmas.Bool.{false≢true, true≢false}
use Rattle.std.proofs.lemmas.Slice.Eq.{bytes_eq-Decides}
use Rattle.std.proofs.lemmas.List.Folds.{list_any-append}
use Rattle.cy_map.specs.declared.rule.Rule.{Rule}
use Rattle.cy_map.specs.Patterns.{star, slash, has_byte, exact_path, prefix_base, is_base, extension_name, is_default, extension_of}
use Rattle.cy_map.specs.Mapping.{reads_as, is_exact_for, is_prefix_for, is_no_longer, is_longest_for, is_extension_for, is_default_rule, mapped, first_of_two}
use Rattle.cy_map.proofs.Members.{found_passes, each_passes, found_behind, all_from_members, member_from_all}
use Rattle.cy_map.proofs.Readings.{read_text, text_read, base_read, both, chosen, not_or}

some_is : {X : Type 0} (o : Option X) → IsSome o → (x : X) × (o ≡ Some x)
some_is None is = absurd (false≢true is)
some_is (Some x) is = (x, refl)

-- an exact pattern is read as itself
exact_is : (pattern path : List ℕ) → exact_path pattern ≡ Some path → pattern ≡ path
exact_is pattern path is = (chosen _ pattern path is).1

differs : (a b : Bool) → (a ≡ true → ⊥) → a ≡ false
differs true b never = absurd (never refl)
differs false b never = refl

-- the exact rule is found, whatever else stands there
pub exact_found : (before after : List Rule) (rule : Rule) → IsSome (exact_path rule.pattern) → All (λ other. other.pattern ≢ rule.pattern) before
    → mapped (before ++ rule ∷ after) rule.pattern ≡ Some rule
exact_found before after rule exact others =
    let path = rule.pattern in
    let read = some_is (exact_path path) exact in
    let itself : exact_path path ≡ Some path = read.1 ∙ ap (λ t. Some t) (sym (exact_is path read.0 read.1)) in
    let first : find (is_exact_for path) (before ++ rule ∷ after) ≡ Some rule =
    found_behind (is_exact_for path) before after rule
    (λ other m. differs _ true (λ is. member_from_all (λ o. o.pattern ≢ path) before others other m (exact_is other.pattern path (read_text (exact_path other.pattern) path is))))
    (text_read (exact_path path) path itself) in
    rw first refl

-- ---- a pattern that is a prefix has no other form

not_true : (b : Bool) → not b ≡ true → b ≡ false
not_true true h = absurd (false≢true h)
not_true false h = refl

not_star : (pattern path : List ℕ) → exact_path pattern ≡ Some path → has_byte star pattern ≡ false
not_star pattern path is =
    let parts = both _ _ (chosen _ pattern path is).0 in
    not_true _ (both _ _ parts.1).1

end_is : (pattern base : List ℕ) → prefix_base pattern ≡ Some base → drop (length pattern - 2) pattern ≡ codes "/*"
end_is pattern base is =
    let parts = both _ _ (chosen _ _ _ is).0 in
    sym ((bytes_eq-Decides (codes "/*") (drop (length pattern - 2) pattern)).0 parts.0)

or_true : (a : Bool) → a || true ≡ true
or_true true = refl
or_true false = refl

-- it has a `*`
has_star : (pattern base : List ℕ) → prefix_base pattern ≡ Some base → has_byte star pattern ≡ true
has_star pattern base is =
    let front = take (length pattern - 2) pattern in
    let whole : front ++ codes "/*" ≡ pattern = rw (← end_is pattern base is) (take-append-drop (length pattern - 2) pattern) in
    subst (λ t. has_byte star t ≡ true) whole (list_any-append (λ b. nat_eq b star) front (codes "/*") ∙ or_true _)

exact_no_prefix : (pattern path base : List ℕ) → exact_path pattern ≡ Some path → prefix_base pattern ≡ Some base → ⊥
exact_no_prefix pattern path base exact prefix = true≢false (sym (has_star pattern base prefix) ∙ not_star pattern path exact)

default_no_prefix : (pattern base : List ℕ) → is_default pattern ≡ true → prefix_base pattern ≡ Some base → ⊥
default_no_prefix pattern base default' prefix =
    let is : pattern ≡ codes "/" = (bytes_eq-Decides pattern (codes "/")).0 default' in
    let none : prefix_base (codes "/") ≡ None = refl in
    let some : prefix_base (codes "/") ≡ Some base = subst (λ t. prefix_base t ≡ Some base) is prefix in
    absurd (cc)

-- it begins with a slash, if it is longer than two bytes
begins : (first : ℕ) (rest : List ℕ) (n : ℕ) → is_base (take (suc n) (first ∷ rest)) ≡ true → first ≡ slash
begins first rest n base = eqb-true _ _ (both _ _ base).0

extension_no_prefix : (pattern name base : List ℕ) → extension_name pattern ≡ Some name → prefix_base pattern ≡ Some base → ⊥
extension_no_prefix [] name base extension prefix = absurd (cc)
extension_no_prefix (first ∷ rest) name base extension prefix =
    let parts = both _ _ (chosen _ _ _ extension).0 in
    let star_dot : codes "*." ≡ take 2 (first ∷ rest) = (bytes_eq-Decides (codes "*.") (take 2 (first ∷ rest))).0 parts.0 in
    let is_star : star ≡ first = cc in
    let long : 0 < length (drop 2 (first ∷ rest)) = ltb-true _ _ (both _ _ parts.1).0 in
    let base_parts = both (ends_with nat_eq (first ∷ rest) (codes "/*")) (is_base (take (length (first ∷ rest) - 2) (first ∷ rest))) (chosen _ _ base prefix).0 in
    let count : length (first ∷ rest) - 2 ≡ suc (length rest - 2) = omega (arith, long, length-drop 2 (first ∷ rest)) in
    let is_slash : first ≡ slash = begins first rest (length rest - 2) (subst (λ n. is_base (take n (first ∷ rest)) ≡ true) count base_parts.1) in
    let same : star ≡ slash = is_star ∙ is_slash in
    absurd (omega (arith, same))

-- ---- the rule that is found by its prefix

extension_read : (found : Option (List ℕ)) (reading : Option (List ℕ)) → option_map_or (λ extension. reads_as reading extension) found false ≡ true → (name : List ℕ) × (reading ≡ Some name)
extension_read None reading is = absurd (false≢true is)
extension_read (Some name) reading is = (name, read_text reading name is)

from_two : (first second : Option Rule) (rule : Rule) → first_of_two first second ≡ Some rule → (first ≡ Some rule) ⊎ (second ≡ Some rule)
from_two None second rule is = inr is
from_two (Some found) second rule is = inl is

no_shorter : (rules : List Rule) (path : List ℕ) (rule : Rule) → find (is_longest_for rules path) rules ≡ Some rule
    → All (λ other. IsTrue (is_prefix_for path other) → length other.pattern ≤ length rule.pattern) rules
no_shorter rules path rule longest =
    let parts = both (is_prefix_for path rule) (list_all (is_no_longer path rule) rules) (found_passes (is_longest_for rules path) rules rule longest).1 in
    all_from_members (λ other. IsTrue (is_prefix_for path other) → length other.pattern ≤ length rule.pattern) rules
    (λ other member prefix. leb-true _ _ (not_or (is_prefix_for path other) (nat_le (length other.pattern) (length rule.pattern)) (each_passes (is_no_longer path rule) rules parts.1 other member) prefix))

pub longest_is_found : (rules : List Rule) (path : List ℕ) (rule : Rule) → mapped rules path ≡ Some rule → IsTrue (is_prefix_for path rule)
    → All (λ other. IsTrue (is_prefix_for path other) → length other.pattern ≤ length rule.pattern) rules
longest_is_found rules path rule is prefix =
    let read = base_read path (prefix_base rule.pattern) prefix in
    elim (from_two _ _ rule is) [
      | inl exact ↦ absurd (exact_no_prefix rule.pattern path read.0 (read_text (exact_path rule.pattern) path (found_passes (is_exact_for path) rules rule exact).1) read.1)
      | inr less ↦ elim (from_two _ _ rule less) [
        | inl longest ↦ no_shorter rules path rule longest
        | inr least ↦ elim (from_two _ _ rule least) [
          | inl extension ↦
              let name = extension_read (extension_of path) (extension_name rule.pattern) (found_passes (is_extension_for path) rules rule extension).1 in
              absurd (extension_no_prefix rule.pattern name.0 read.0 name.1 read.1)
          | inr last ↦ absurd (default_no_prefix rule.pattern read.0 (found_passes is_default_rule rules rule last).1 read.1)
        ]
      ]
    ]
