-- What the indexes of a mapper find.
use Rattle.std.proofs.Common.{◌≡◌, ℕ, ◌+◌, ◌<◌, ◌≤◌, Bool, true, false, cond, List, [], ◌∷◌, ◌++◌, length, take, drop, Option, None, Some, IfSome, inl, inr, refl, sym, ◌∙◌, ap, subst, max, arith, zero, suc, add-one, take-suc, take_all, get_or, drop-cons}
use Rattle.std.specs.Prelude.{find, bytes_eq, slice_get, option_and_then}
use Rattle.std.specs.Option.{option_map_or}
use Rattle.std.specs.Ordering.{ord_max, nat_cmp}
use Rattle.std.proofs.lemmas.Bool.Decides.{nat_tests}
use Rattle.std.proofs.lemmas.Bool.{cases_Bool}
use Rattle.std.proofs.lemmas.Option.{slice_get-get_or}
use Rattle.std.proofs.lemmas.Slice.Eq.{bytes_eq-Decides}
use Rattle.cy_map.specs.declared.rule.Rule.{Rule}
use Rattle.cy_map.specs.declared.index.Form.{Form}
use Rattle.cy_map.specs.declared.index.Form.TheVariants.{Prefix, Extension}
use Rattle.cy_map.specs.Patterns.{prefix_base, extension_name, extension_of}
use Rattle.cy_map.specs.Mapping.{reads_as, is_exact_for, is_longest_for, is_extension_for, is_default_rule, mapped}
use Rattle.cy_map.specs.Indexes.{reading_of, first_read, rule_at, IsIndexOf, AreBasesWithin}
use Rattle.cy_map.specs.declared.index.Index.{Index}
use Rattle.cy_map.proofs.Members.{find_none, member_from_all}

-- ---- an index

put_there : (rules : List Rule) (place : ℕ) (rule : Rule) (test : Bool) (old : Option ℕ) (rest : Option Rule) → slice_get rules place ≡ Some rule → option_and_then (slice_get rules) old ≡ rest
    → option_and_then (slice_get rules) (cond test (Some place) old) ≡ cond test (Some rule) rest
put_there rules place rule true old rest at before = at
put_there rules place rule false old rest at before = before

-- a rule that is put at what it is read as comes before those behind it
pub put_first : (form : Form) (rules : List Rule) (place : ℕ) (rule : Rule) (read : List ℕ) (old new : List ℕ → Option ℕ) → place < length rules → rule ≡ get_or rules place rule
    → reading_of form rule.pattern ≡ Some read → ((text : List ℕ) → new text ≡ cond (bytes_eq read text) (Some place) (old text))
    → ((text : List ℕ) → option_and_then (slice_get rules) (old text) ≡ first_read form (drop (suc place) rules) text)
    → (text : List ℕ) → option_and_then (slice_get rules) (new text) ≡ first_read form (drop place rules) text
put_first form rules place rule read old new within is reads puts before text =
    let at : slice_get rules place ≡ Some rule = slice_get-get_or rules place rule within ∙ ap (λ r. Some r) (sym is) in
    let behind : drop place rules ≡ rule ∷ drop (suc place) rules = drop-cons rules place rule within ∙ ap (λ r. r ∷ drop (suc place) rules) (sym is) in
    let test : reads_as (reading_of form rule.pattern) text ≡ bytes_eq read text = rw reads refl in
    rw (puts text, behind, test) (put_there rules place rule (bytes_eq read text) (old text) _ at (before text))

-- what an index of the rules finds is the first that is read so
pub read_at : (form : Form) (index : Index) (rules items : List Rule) (text : List ℕ) (found : Option Rule) → found ≡ rule_at index rules text → rules ≡ items → IsIndexOf form items index
    → first_read form items text ≡ found
read_at form index rules items text found is same of = sym (of text) ∙ subst (λ r. rule_at index r text ≡ found) same (sym is)

-- ---- the length of a base

not_read : (reading : Option (List ℕ)) (longest : ℕ) (text : List ℕ) → longest < length text → IfSome reading (λ base. length base ≤ longest) → reads_as reading text ≡ false
not_read None longest text more within = refl
not_read (Some base) longest text more within =
    elim (cases_Bool (bytes_eq base text)) [
      | inl same ↦ absurd (omega (arith, more, within, ap length ((bytes_eq-Decides base text).0 same)))
      | inr differ ↦ differ
    ]

-- a text that is longer than all bases is no base
pub too_long : (rules : List Rule) (longest : ℕ) (text : List ℕ) → AreBasesWithin rules longest → longest < length text → first_read Prefix rules text ≡ None
too_long rules longest text within more =
    find_none (λ rule. reads_as (prefix_base rule.pattern) text) rules
    (λ rule member. not_read (prefix_base rule.pattern) longest text more (member_from_all (λ r. IfSome (prefix_base r.pattern) (λ base. length base ≤ longest)) rules within rule member))

if_more : (reading : Option (List ℕ)) (longest more : ℕ) → longest ≤ more → IfSome reading (λ base. length base ≤ longest) → IfSome reading (λ base. length base ≤ more)
if_more None longest more up within = tt
if_more (Some base) longest more up within = omega (arith, up, within)

bases_up : (rules : List Rule) (longest more : ℕ) → longest ≤ more → AreBasesWithin rules longest → AreBasesWithin rules more
bases_up rules longest more up within k d inside = if_more (prefix_base (get_or rules k d).pattern) longest more up (within k d inside)

bases_push : (rules : List Rule) (rule : Rule) (longest : ℕ) → AreBasesWithin rules longest → IfSome (prefix_base rule.pattern) (λ base. length base ≤ longest) → AreBasesWithin (rules ++ rule ∷ []) longest
bases_push [] rule longest within last zero d inside = last
bases_push [] rule longest within last (suc k) d inside = absurd (omega (arith, inside))
bases_push (first ∷ rest) rule longest within last zero d inside = within 0 d (omega arith)
bases_push (first ∷ rest) rule longest within last (suc k) d inside = bases_push rest rule longest (λ j e below. within (suc j) e (omega (arith, below))) last k d (omega (arith, inside))

-- one more rule
pub bases_more : (rules : List Rule) (place : ℕ) (rule : Rule) (longest more : ℕ) → place < length rules → rule ≡ get_or rules place rule → longest ≤ more
    → IfSome (prefix_base rule.pattern) (λ base. length base ≤ more) → AreBasesWithin (take place rules) longest → AreBasesWithin (take (place + 1) rules) more
bases_more rules place rule longest more inside is up here before =
    let parts : take (place + 1) rules ≡ take place rules ++ (rule ∷ []) = rw (add-one, take-suc rules place rule inside) (ap (λ r. take place rules ++ (r ∷ [])) (sym is)) in
    rw parts (bases_push (take place rules) rule more (bases_up (take place rules) longest more up before) here)

pub bases_all : (rules : List Rule) (place longest : ℕ) → length rules ≤ place → AreBasesWithin (take place rules) longest → AreBasesWithin rules longest
bases_all rules place longest past within = subst (λ r. AreBasesWithin r longest) (take_all place rules past) within

pub base_within : (base pattern text : List ℕ) (longest : ℕ) → text ≡ pattern → Some base ≡ prefix_base text → length base ≤ longest → IfSome (prefix_base pattern) (λ b. length b ≤ longest)
base_within base pattern text longest same is within =
    let read : Some base ≡ prefix_base pattern = is ∙ ap (λ t. prefix_base t) same in
    subst (λ o. IfSome o (λ b. length b ≤ longest)) read within

pub no_base_within : (pattern text : List ℕ) (longest : ℕ) → text ≡ pattern → None ≡ prefix_base text → IfSome (prefix_base pattern) (λ b. length b ≤ longest)
no_base_within pattern text longest same is =
    let read : None ≡ prefix_base pattern = is ∙ ap (λ t. prefix_base t) same in
    subst (λ o. IfSome o (λ b. length b ≤ longest)) read tt

pub ord_max_is : (m n : ℕ) → ord_max nat_cmp m n ≡ max m n
ord_max_is m n = grind (arith, nat_tests)

-- ---- an extension

by_extension : (rules : List Rule) (path : List ℕ) (name : Option (List ℕ)) → extension_of path ≡ name
    → find (is_extension_for path) rules ≡ find (λ rule. option_map_or (λ extension. reads_as (extension_name rule.pattern) extension) name false) rules
by_extension rules path name is = ap (λ o. find (λ (rule : Rule). option_map_or (λ extension. reads_as (extension_name rule.pattern) extension) o false) rules) is

pub first_extension : (rules : List Rule) (path name : List ℕ) → Some name ≡ extension_of path → first_read Extension rules name ≡ find (is_extension_for path) rules
first_extension rules path name is = sym (by_extension rules path (Some name) (sym is))

pub no_extension : (rules : List Rule) (path : List ℕ) → None ≡ extension_of path → None ≡ find (is_extension_for path) rules
no_extension rules path none = sym (by_extension rules path None (sym none) ∙ find_none (λ _. false) rules (λ _ _. refl))

-- ---- what a mapper finds

pub finds_exact : (rules : List Rule) (path : List ℕ) (rule : Rule) → find (is_exact_for path) rules ≡ Some rule → mapped rules path ≡ Some rule
finds_exact rules path rule exact = rw exact refl

pub finds_longest : (rules : List Rule) (path : List ℕ) (rule : Rule) → find (is_exact_for path) rules ≡ None → find (is_longest_for rules path) rules ≡ Some rule → mapped rules path ≡ Some rule
finds_longest rules path rule none longest = rw (none, longest) refl

pub finds_extension : (rules : List Rule) (path : List ℕ) (rule : Rule) → find (is_exact_for path) rules ≡ None → find (is_longest_for rules path) rules ≡ None → find (is_extension_for path) rules ≡ Some rule
    → mapped rules path ≡ Some rule
finds_extension rules path rule none less extension = rw (none, less, extension) refl

pub finds_default : (rules : List Rule) (path : List ℕ) (found : Option Rule) → find (is_exact_for path) rules ≡ None → find (is_longest_for rules path) rules ≡ None → find (is_extension_for path) rules ≡ None
    → found ≡ find is_default_rule rules → found ≡ mapped rules path
finds_default rules path found none less least last = rw (none, less, least) last
