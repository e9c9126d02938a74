-- Laws of outcomes.
use Rattle.std.proofs.Common.{◌≡◌, ℕ, Bool, true, false, ◌&&◌, ◌⊎◌, ◌↔◌, inl, inr, List, [], ◌∷◌, ◌++◌, length, map, Option, Some, None, Result, Ok, Err, Ordering, Less, Equal, Greater, nat_cmp, refl, sym, ap, subst, ◌∙◌, append_assoc}
use Rattle.std.specs.Cmp.Lexicographic.{slice_cmp}
use Rattle.std.specs.List.{filter_map}
use Rattle.std.specs.Ordering.{is_lt, match_ordering, ordering_reverse}
use Rattle.std.specs.Cmp.{tied_itself}
use Rattle.std.proofs.lemmas.Bool.{and_parts}
use Rattle.std.proofs.lemmas.List.{append-nil}
use Rattle.std.proofs.lemmas.Cmp.{nat_list_cmp_total}
use Rattle.toml.specs.Data.{Data, Members, no_members, member, get_member, is_before, is_sorted, members_are_sorted}
use Rattle.toml.specs.Parse.{parse_document}
use Rattle.cy_map.specs.declared.rule.Rule.{Rule}
use Rattle.cy_config.specs.declared.fault.SetFault.{SetFault}
use Rattle.cy_config.specs.declared.fault.SetFault.TheVariants.{NotToml}
use Rattle.cy_config.specs.Members.{entries, keys, members_in, is_table, is_text, is_flag, connector, rule, pattern, part, async, in_rule}
use Rattle.cy_config.specs.Meaning.{◌>>=◌, Values, bad_pattern, elements_found, is_part, is_rule_list, members_found, outcome, pattern_of, read_rule, read_rules, refusals_of, refused_key, repeated_pattern, rule_of, too_many_threads, unknown_at_top, unknown_in_rule, unless, values_of}
use Rattle.cy_config.specs.Refusals.{HoldTheSame, refusals, refusals_in_rule, refusals_in_rules, settings_in}
use Rattle.cy_config.specs.Texts.{IsToml, Means}
use Rattle.cy_config.proofs.Taken.{equal_keys}

-- ---- the first of all refusals

unless-append : {A : Type 0} (a b : List SetFault) (answer : Result A SetFault) → unless (a ++ b) answer ≡ unless a (unless b answer)
unless-append [] b answer = refl
unless-append (x ∷ a) b answer = refl

unless-then : {A B : Type 0} (a : List SetFault) (answer : Result A SetFault) (f : A → Result B SetFault) → (unless a answer >>= f) ≡ unless a (answer >>= f)
unless-then [] answer f = refl
unless-then (x ∷ a) answer f = refl

-- what is answered behind five refusals
five : {A : Type 0} (a b c d e : List SetFault) (answer : Result A SetFault) → unless (a ++ (b ++ (c ++ (d ++ e)))) answer ≡ unless a (unless b (unless c (unless d (unless e answer))))
five a b c d e answer =
    unless-append a _ answer
    ∙ ap (unless a) (unless-append b _ answer ∙ ap (unless b) (unless-append c _ answer ∙ ap (unless c) (unless-append d e answer)))

six : {A : Type 0} (a b c d e f : List SetFault) (answer : Result A SetFault) → unless (a ++ (b ++ (c ++ (d ++ (e ++ f))))) answer ≡ unless a (unless b (unless c (unless d (unless e (unless f answer)))))
six a b c d e f answer =
    five a b c d (e ++ f) answer
    ∙ ap (λ (r : Result _ SetFault). unless a (unless b (unless c (unless d r)))) (unless-append e f answer)

five_then : {A B : Type 0} (a b c d e : List SetFault) (answer : Result A SetFault) (f : A → Result B SetFault)
    → (unless a (unless b (unless c (unless d (unless e answer)))) >>= f) ≡ unless a (unless b (unless c (unless d (unless e (answer >>= f)))))
five_then a b c d e answer f =
    unless-then a _ f
    ∙ ap (unless a) (unless-then b _ f ∙ ap (unless b) (unless-then c _ f ∙ ap (unless c) (unless-then d _ f ∙ ap (unless d) (unless-then e answer f))))

-- one rule more
rule_first : {A : Type 0} (before : List Rule) (ms : Members) (f : Rule → Result A SetFault) (answer : Result A SetFault) → f (rule_of ms) ≡ unless (repeated_pattern before (pattern_of ms)) answer
    → (read_rule (length before) ms >>= f) ≡ unless (refusals_in_rule before ms) answer
rule_first before ms f answer next =
    five_then (filter_map (unknown_in_rule (length before)) (keys ms)) (refusals_of (in_rule (length before) pattern) is_text true (get_member pattern ms))
    (refusals_of (in_rule (length before) part) is_part true (get_member part ms)) (refusals_of (in_rule (length before) async) is_flag false (get_member async ms))
    (bad_pattern (length before) (pattern_of ms)) (Ok (rule_of ms)) f
    ∙ ap (λ (r : Result _ SetFault). unless (filter_map (unknown_in_rule (length before)) (keys ms)) (unless (refusals_of (in_rule (length before) pattern) is_text true (get_member pattern ms))
    (unless (refusals_of (in_rule (length before) part) is_part true (get_member part ms)) (unless (refusals_of (in_rule (length before) async) is_flag false (get_member async ms))
    (unless (bad_pattern (length before) (pattern_of ms)) r))))) next
    ∙ sym (six (filter_map (unknown_in_rule (length before)) (keys ms)) (refusals_of (in_rule (length before) pattern) is_text true (get_member pattern ms))
    (refusals_of (in_rule (length before) part) is_part true (get_member part ms)) (refusals_of (in_rule (length before) async) is_flag false (get_member async ms))
    (bad_pattern (length before) (pattern_of ms)) (repeated_pattern before (pattern_of ms)) answer)

abbrev rule_at : Data → Rule
rule_at value = rule_of (members_in value)

rules_first : (before : List Rule) (values : List Data) → read_rules before values ≡ unless (refusals_in_rules before values) (Ok (before ++ map rule_at values))
rules_first before [] = ap Ok (sym (append-nil before))
rules_first before (value ∷ more) =
    let grown : (before ++ rule_at value ∷ []) ++ map rule_at more ≡ before ++ rule_at value ∷ map rule_at more = append_assoc before (rule_at value ∷ []) (map rule_at more) in
    rule_first before (members_in value) (λ next. unless (repeated_pattern before next.pattern) (read_rules (before ++ next ∷ []) more)) (read_rules (before ++ rule_at value ∷ []) more) refl
    ∙ ap (unless (refusals_in_rule before (members_in value))) (rules_first (before ++ rule_at value ∷ []) more ∙ ap (λ (rules : List Rule). unless (refusals_in_rules (before ++ rule_at value ∷ []) more) (Ok rules)) grown)
    ∙ sym (unless-append (refusals_in_rule before (members_in value)) (refusals_in_rules (before ++ rule_at value ∷ []) more) _)

pub first_refusal : (top : Members) → outcome top ≡ unless (refusals top) (Ok (settings_in top))
first_refusal top =
    let found = get_member connector top in
    let rules = get_member rule top in
    let ms = members_found found in
    ap (λ (r : Result (List Rule) SetFault). unless (filter_map unknown_at_top (keys top)) (unless (refusals_of connector is_table false found) (unless (filter_map refused_key (entries ms)) (unless (too_many_threads ms)
    (unless (refusals_of rule is_rule_list false rules) (r >>= (λ (read : List Rule). Ok (values_of ms read)))))))) (rules_first [] (elements_found rules))
    ∙ ap (λ (r : Result Values SetFault). unless (filter_map unknown_at_top (keys top)) (unless (refusals_of connector is_table false found) (unless (filter_map refused_key (entries ms)) (unless (too_many_threads ms)
    (unless (refusals_of rule is_rule_list false rules) r))))) (unless-then (refusals_in_rules [] (elements_found rules)) _ (λ (read : List Rule). Ok (values_of ms read)))
    ∙ sym (six (filter_map unknown_at_top (keys top)) (refusals_of connector is_table false found) (filter_map refused_key (entries ms)) (too_many_threads ms) (refusals_of rule is_rule_list false rules) (refusals_in_rules [] (elements_found rules)) _)

-- ---- one outcome

same_members : (text : List ℕ) (one other : Members) → IsToml text one → IsToml text other → one ≡ other
same_members text one other p q =
    let same : Some one ≡ Some other = sym p.parsed ∙ q.parsed in
    cc

pub one_outcome : (text : List ℕ) (top : Members) (answer : Result Values SetFault) → IsToml text top → Means text answer ↔ (answer ≡ outcome top)
one_outcome text top answer is = (
  λ means. elim means [
    | inl found ↦ found.2 ∙ ap outcome (same_members text found.0 top found.1 is)
    | inr none ↦ absurd (none.0 top is)
  ],
  λ same. inl (top, is, same),
)

-- ---- the order of keys

less_from : (o : Ordering) → is_lt o ≡ true → o ≡ Less
less_from Less h = refl
less_from Equal h = absurd cc
less_from Greater h = absurd cc

at_less : (o : Ordering) (d : Data) (rest : Option Data) → o ≡ Less → match_ordering o rest (Some d) rest ≡ rest
at_less Less d rest h = refl
at_less Equal d rest h = absurd cc
at_less Greater d rest h = absurd cc

before_rest : (ms : Members) (k l : List ℕ) → slice_cmp nat_cmp k l ≡ Less → is_before l ms ≡ true → is_before k ms ≡ true
before_rest no_members k l less before = refl
before_rest (member m d ms) k l less before = ap is_lt (nat_list_cmp_total.trans k l m less (less_from (slice_cmp nat_cmp l m) before))

-- below the first key of a table in order nothing is found
below_first : (ms : Members) (k : List ℕ) → is_before k ms ≡ true → members_are_sorted ms ≡ true → get_member k ms ≡ None
below_first no_members k before order = refl
below_first (member l d ms) k before order =
    let front = and_parts (is_before l ms && is_sorted d) (members_are_sorted ms) order in
    let next = and_parts (is_before l ms) (is_sorted d) front.0 in
    let less = less_from (slice_cmp nat_cmp k l) before in
    at_less (slice_cmp nat_cmp k l) d (get_member k ms) less ∙ below_first ms k (before_rest ms k l less next.0) front.1

-- what stands at a key of a table is found there
at_itself : (k : List ℕ) (d : Data) (ms : Members) → get_member k (member k d ms) ≡ Some d
at_itself k d ms = rw (tied_itself nat_list_cmp_total k) refl

tail_at : (o : Ordering) (x k : List ℕ) (d e : Data) (ms ns : Members) → slice_cmp nat_cmp x k ≡ o → get_member k ms ≡ None → get_member k ns ≡ None
    → match_ordering o (get_member x ms) (Some d) (get_member x ms) ≡ match_ordering o (get_member x ns) (Some e) (get_member x ns) → get_member x ms ≡ get_member x ns
tail_at Less x k d e ms ns order none other same = same
tail_at Greater x k d e ms ns order none other same = same
tail_at Equal x k d e ms ns order none other same =
    let key : k ≡ x = sym (equal_keys x k order) in
    subst (λ (y : List ℕ). get_member y ms ≡ get_member y ns) key (none ∙ sym other)

-- a table in order has an order behind its first key too
pub record Splits (k : List ℕ) (ms : Members) : Type 0 where
  pub before : is_before k ms ≡ true
  pub order : members_are_sorted ms ≡ true

splits : (k : List ℕ) (d : Data) (ms : Members) → members_are_sorted (member k d ms) ≡ true → Splits k ms
splits k d ms p =
    let front = and_parts (is_before k ms && is_sorted d) (members_are_sorted ms) p in
    record { before = (and_parts (is_before k ms) (is_sorted d) front.0).0; order = front.1 }

same_value : (k : List ℕ) (d e : Data) (ms ns : Members) → get_member k (member k d ms) ≡ get_member k (member k e ns) → d ≡ e
same_value k d e ms ns same =
    let values : Some d ≡ Some e = sym (at_itself k d ms) ∙ same ∙ at_itself k e ns in
    cc

not_first : (k l : List ℕ) (d e : Data) (ms ns : Members) → slice_cmp nat_cmp k l ≡ Less → members_are_sorted (member l e ns) ≡ true → get_member k (member k d ms) ≡ get_member k (member l e ns) → ⊥
not_first k l d e ms ns less order same =
    let clash : Some d ≡ None = sym (at_itself k d ms) ∙ same ∙ below_first (member l e ns) k (ap is_lt less) order in
    absurd cc

mutual_keys : (o : Ordering) (k l : List ℕ) (d e : Data) (ms ns : Members) → slice_cmp nat_cmp k l ≡ o → members_are_sorted (member k d ms) ≡ true → members_are_sorted (member l e ns) ≡ true
    → ((x : List ℕ) → get_member x (member k d ms) ≡ get_member x (member l e ns)) → k ≡ l
mutual_keys Less k l d e ms ns order p q same = absurd (not_first k l d e ms ns order q (same k))
mutual_keys Equal k l d e ms ns order p q same = equal_keys k l order
mutual_keys Greater k l d e ms ns order p q same =
    let less : slice_cmp nat_cmp l k ≡ Less = nat_list_cmp_total.antisymm l k ∙ ap ordering_reverse order in
    absurd (not_first l k e d ns ms less p (sym (same l)))

pub same_tables : (one other : Members) → members_are_sorted one ≡ true → members_are_sorted other ≡ true → ((k : List ℕ) → get_member k one ≡ get_member k other) → one ≡ other
same_tables no_members no_members p q same = refl
same_tables no_members (member l e ns) p q same =
    let clash : None ≡ Some e = same l ∙ at_itself l e ns in
    absurd cc
same_tables (member k d ms) no_members p q same =
    let clash : Some d ≡ None = sym (at_itself k d ms) ∙ same k in
    absurd cc
same_tables (member k d ms) (member l e ns) p q same =
    let key : l ≡ k = sym (mutual_keys (slice_cmp nat_cmp k l) k l d e ms ns refl p q same) in
    let alike = subst (λ (m : List ℕ). (x : List ℕ) → get_member x (member k d ms) ≡ get_member x (member m e ns)) key same in
    let one = splits k d ms p in
    let other = splits k e ns (subst (λ (m : List ℕ). members_are_sorted (member m e ns) ≡ true) key q) in
    let rest : ms ≡ ns = same_tables ms ns one.order other.order
    (λ x. tail_at (slice_cmp nat_cmp x k) x k d e ms ns refl (below_first ms k one.before one.order) (below_first ns k other.before other.order) (alike x)) in
    let value : d ≡ e = same_value k d e ms ns (alike k) in
    ap (λ (v : Data). member k v ms) value ∙ ap (member k e) rest ∙ ap (λ (m : List ℕ). member m e ns) (sym key)

pub any_order : (one other : Members) → HoldTheSame one other → outcome one ≡ outcome other
any_order one other h = ap outcome (same_tables one other h.one_in_order h.other_in_order h.same)
