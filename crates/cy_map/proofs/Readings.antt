-- What a pattern is read as.
use Rattle.std.proofs.Common.{◌≡◌, ℕ, ◌+◌, ◌-◌, Bool, true, false, cond, not, ◌&&◌, ◌||◌, List, length, take, drop, Option, None, Some, refl, ap, arith, length-drop, length-take}
use Rattle.std.specs.Prelude.{codes}
use Rattle.std.specs.Option.{option_map_or}
use Rattle.std.proofs.lemmas.Bool.{false≢true}
use Rattle.std.proofs.lemmas.Slice.Eq.{bytes_eq-Decides}
use Rattle.cy_map.specs.Patterns.{prefix_base, is_under}
use Rattle.cy_map.specs.Mapping.{reads_as}

pub read_text : (reading : Option (List ℕ)) (text : List ℕ) → reads_as reading text ≡ true → reading ≡ Some text
read_text None text reads = absurd (false≢true reads)
read_text (Some read) text reads = ap (λ t. Some t) ((bytes_eq-Decides read text).0 reads)

pub text_read : (reading : Option (List ℕ)) (text : List ℕ) → reading ≡ Some text → reads_as reading text ≡ true
text_read reading text is = rw is ((bytes_eq-Decides text text).1 refl)

pub base_read : (path : List ℕ) (reading : Option (List ℕ)) → option_map_or (λ base. is_under base path) reading false ≡ true
    → (base : List ℕ) × (reading ≡ Some base) × (is_under base path ≡ true)
base_read path None under = absurd (false≢true under)
base_read path (Some base) under = (base, refl, under)

-- both of two tests that pass together
pub both : (a b : Bool) → a && b ≡ true → (a ≡ true) × (b ≡ true)
both true b h = (refl, h)
both false b h = absurd (false≢true h)

-- a test that holds where another does
pub not_or : (a b : Bool) → not a || b ≡ true → a ≡ true → b ≡ true
not_or true b h is = h
not_or false b h is = absurd (false≢true is)

-- a choice that is made was made for its test
pub chosen : {X : Type 0} (test : Bool) (x y : X) → cond test (Some x) None ≡ Some y → (test ≡ true) × (x ≡ y)
chosen true x y is = (refl, cc)
chosen false x y is = absurd (cc)

-- a prefix is its base and two bytes more
pub length-prefix : (pattern base : List ℕ) → prefix_base pattern ≡ Some base → length pattern ≡ length base + 2
length-prefix pattern base is =
    let parts = chosen _ _ _ is in
    let ends = (both _ _ parts.0).0 in
    let end : codes "/*" ≡ drop (length pattern - 2) pattern = (bytes_eq-Decides (codes "/*") (drop (length pattern - 2) pattern)).0 ends in
    let two : 2 ≡ length (drop (length pattern - 2) pattern) = ap length end in
    let base_is : take (length pattern - 2) pattern ≡ base = parts.1 in
    omega (arith, two, length-drop (length pattern - 2) pattern, length-take (length pattern - 2) pattern, ap length base_is)
