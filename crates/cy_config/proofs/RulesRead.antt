-- Rules that are read one after another.
use Rattle.std.proofs.Common.{◌≡◌, ℕ, zero, suc, ◌+◌, ◌<◌, get_or, drop, map, Bool, true, false, cond, ◌&&◌, ◌||◌, not, ltb, List, [], ◌∷◌, ◌++◌, length, Result, Ok, Err, Ordering, Less, Equal, Greater, nat_cmp, Bor, refl, sym, ap, subst, ◌∙◌, arith}
use Rattle.std.specs.Prelude.{bytes_eq, codes, All, IsUtf8}
use Rattle.std.specs.BTreeMap.{is_at}
use Rattle.std.specs.BTreeSet.{insert_key}
use Rattle.std.specs.Cmp.Lexicographic.{slice_cmp}
use Rattle.std.specs.List.{list_all, list_any}
use Rattle.std.specs.Ordering.{is_eq, match_ordering}
use Rattle.std.proofs.lemmas.Bool.{and_parts, lt-ltb}
use Rattle.std.proofs.lemmas.List.Folds.{list_all-append, list_any-append}
use Rattle.std.proofs.lemmas.Map.Text.{is_eq-slice_cmp}
use Rattle.std.proofs.lemmas.Slice.Eq.{bytes_eq-Decides}
use Rattle.std.proofs.lemmas.List.{drop_more}
use Rattle.std.proofs.lemmas.List.Elements.{All-push}
use Rattle.toml.specs.declared.value.Value.{Value}
use Rattle.toml.specs.Data.{Data, Members}
use Rattle.toml.specs.View.{view}
use Rattle.cy_map.specs.declared.rule.Rule.{Rule}
use Rattle.cy_map.specs.Patterns.{is_pattern}
use Rattle.cy_settings.specs.Rules.{AreRules, has_part, has_pattern, is_next_rule}
use Rattle.cy_settings.proofs.RuleLists.{rules_kept}
use Rattle.cy_config.specs.declared.fault.SetFault.{SetFault}
use Rattle.cy_config.specs.declared.fault.SetFault.TheVariants.{BadSetting}
use Rattle.cy_config.specs.Members.{in_rule, is_table, members_in, pattern}
use Rattle.cy_config.specs.Meaning.{read_rule, read_rules}
use Rattle.cy_config.proofs.Taken.{equal_keys}

-- ---- one rule more

pub same_read : (answer : Result Rule SetFault) (m n : ℕ) (ms ns : Members) → m ≡ n → ms ≡ ns → read_rule m ms ≡ answer → read_rule n ns ≡ answer
same_read answer m n ms ns number members read =
    subst (λ (k : ℕ). read_rule k ns ≡ answer) number (subst (λ (ks : Members). read_rule m ks ≡ answer) members read)

pub rule_read : (rules : List Rule) (value : Data) (more : List Data) (next : Rule) → read_rule (length rules) (members_in value) ≡ Ok next → has_pattern rules next.pattern ≡ false
    → read_rules rules (value ∷ more) ≡ read_rules (rules ++ next ∷ []) more
rule_read rules value more next read fresh = rw (read, fresh) refl

pub rule_twice : (rules : List Rule) (value : Data) (more : List Data) (next : Rule) → read_rule (length rules) (members_in value) ≡ Ok next → has_pattern rules next.pattern ≡ true
    → read_rules rules (value ∷ more) ≡ Err (BadSetting (in_rule (length rules) pattern) (codes "twice"))
rule_twice rules value more next read twice = rw (read, twice) refl

pub rule_refused : (rules : List Rule) (value : Data) (more : List Data) (e : SetFault) → read_rule (length rules) (members_in value) ≡ Err e → read_rules rules (value ∷ more) ≡ Err e
rule_refused rules value more e read = rw read refl

-- the first of the values that are left
pub rest_read : (rules : List Rule) (values : List Value) (i : ℕ) (v : Value) → i < length values → v ≡ get_or values i v
    → read_rules rules (map view (drop i values)) ≡ read_rules rules (view v ∷ map view (drop (i + 1) values))
rest_read rules values i v h is = ap (λ (vs : List Value). read_rules rules (map view vs)) (drop_more values i v h ∙ ap (λ (w : Value). w ∷ drop (i + 1) values) (sym is))

-- each value of a list of tables is one
pub table_at : (values : List Value) (i : ℕ) (d : Value) → i < length values → list_all is_table (map view values) ≡ true → is_table (view (get_or values i d)) ≡ true
table_at [] i d h all = absurd (omega arith)
table_at (v ∷ vs) zero d h all = (and_parts (is_table (view v)) (list_all is_table (map view vs)) all).0
table_at (v ∷ vs) (suc i) d h all = table_at vs i d (omega arith) (and_parts (is_table (view v)) (list_all is_table (map view vs)) all).1

-- one rule more is taken
pub one_more_rule : (rules : List Rule) (next : Rule) → AreRules rules → is_pattern next.pattern ≡ true → has_pattern rules next.pattern ≡ false → length rules < 1024 → AreRules (rules ++ next ∷ [])
one_more_rule rules next are good fresh few =
    let can : is_next_rule rules next ≡ true = rw (good, fresh, lt-ltb _ _ few) refl in
    rules_kept rules next are can

pub one_more_part : (rules : List Rule) (next : Rule) → list_all has_part rules ≡ true → has_part next ≡ true → list_all has_part (rules ++ next ∷ []) ≡ true
one_more_part rules next all one = list_all-append has_part rules (next ∷ []) ∙ rw (all, one) refl

pub one_more_text : (rules : List Rule) (next : Rule) → All (λ rule. IsUtf8 rule.pattern) rules → IsUtf8 next.pattern → All (λ rule. IsUtf8 rule.pattern) (rules ++ next ∷ [])
one_more_text rules next all one = All-push (λ (rule : Rule). IsUtf8 rule.pattern) rules next all one

-- ---- the set of patterns

abbrev pub text_order : Bor (List ℕ) → Bor (List ℕ) → Ordering
text_order x y = slice_cmp nat_cmp x.now y.now

-- the text is among the keys
abbrev pub among : List ℕ → List (Bor (List ℕ)) → Bool
among q ks = list_any (is_at (λ (k : Bor (List ℕ)). slice_cmp nat_cmp q k.now)) ks

swap_or : (s t u : Bool) → (s || (t || u)) ≡ (t || (s || u))
swap_or true true u = refl
swap_or true false u = refl
swap_or false t u = refl

twice_or : (s t : Bool) → (s || t) ≡ (s || (s || t))
twice_or true t = refl
twice_or false t = refl

inserted_at : (o : Ordering) (q : List ℕ) (k x : Bor (List ℕ)) (ks : List (Bor (List ℕ))) → o ≡ text_order k x
    → among q (insert_key text_order ks k) ≡ (is_eq (slice_cmp nat_cmp q k.now) || among q ks)
    → among q (match_ordering o (k ∷ x ∷ ks) (x ∷ ks) (x ∷ insert_key text_order ks k)) ≡ (is_eq (slice_cmp nat_cmp q k.now) || (is_eq (slice_cmp nat_cmp q x.now) || among q ks))
inserted_at Less q k x ks e more = refl
inserted_at Equal q k x ks e more =
    let same : k.now ≡ x.now = equal_keys k.now x.now (sym e) in
    rw same (twice_or (is_eq (slice_cmp nat_cmp q x.now)) (among q ks))
inserted_at Greater q k x ks e more =
    rw more (swap_or (is_eq (slice_cmp nat_cmp q x.now)) (is_eq (slice_cmp nat_cmp q k.now)) (among q ks))

among_inserted : (q : List ℕ) (k : Bor (List ℕ)) (ks : List (Bor (List ℕ))) → among q (insert_key text_order ks k) ≡ (is_eq (slice_cmp nat_cmp q k.now) || among q ks)
among_inserted q k [] = refl
among_inserted q k (x ∷ ks) = inserted_at (text_order k x) q k x ks refl (among_inserted q k ks)

-- the set holds just the patterns of the rules
pub record HoldsPatterns (ks : List (Bor (List ℕ))) (rules : List Rule) : Type 0 where
  pub holds : (q : List ℕ) → among q ks ≡ has_pattern rules q

not_false : (t : Bool) → not t ≡ false → t ≡ true
not_false true h = refl
not_false false h = absurd cc

pub not_true : (t : Bool) → not t ≡ true → t ≡ false
not_true true h = absurd cc
not_true false h = refl

or_false : (s t : Bool) → (s || t) ≡ (t || (s || false))
or_false true true = refl
or_false true false = refl
or_false false true = refl
or_false false false = refl

bytes_eq-sym : (xs ys : List ℕ) → bytes_eq xs ys ≡ bytes_eq ys xs
bytes_eq-sym xs ys = grind (arith, bytes_eq-Decides xs ys, bytes_eq-Decides ys xs)

pub one_more_pattern : (k : Bor (List ℕ)) (ks old : List (Bor (List ℕ))) (rules : List Rule) (next : Rule) → ks ≡ insert_key text_order old k → next.pattern ≡ k.now → HoldsPatterns old rules → HoldsPatterns ks (rules ++ next ∷ [])
one_more_pattern k ks old rules next grown same held = record {
  holds = λ q.
      ap (among q) grown ∙ among_inserted q k old
      ∙ rw (is_eq-slice_cmp q k.now, held.holds q, bytes_eq-sym q k.now, ← same) (or_false (bytes_eq next.pattern q) (has_pattern rules q))
      ∙ sym (list_any-append (λ (rule : Rule). bytes_eq rule.pattern q) rules (next ∷ []));
}

-- what was not added is a pattern of a rule, and what was added is none
pub found_twice : (added : Bool) (k : Bor (List ℕ)) (old : List (Bor (List ℕ))) (rules : List Rule) (next : Rule) → added ≡ not (among k.now old) → added ≡ false → next.pattern ≡ k.now → HoldsPatterns old rules → has_pattern rules next.pattern ≡ true
found_twice added k old rules next told here same held = ap (has_pattern rules) same ∙ sym (held.holds k.now) ∙ not_false (among k.now old) (sym told ∙ here)

pub found_fresh : (added : Bool) (k : Bor (List ℕ)) (old : List (Bor (List ℕ))) (rules : List Rule) (next : Rule) → added ≡ not (among k.now old) → added ≡ true → next.pattern ≡ k.now → HoldsPatterns old rules → has_pattern rules next.pattern ≡ false
found_fresh added k old rules next told here same held = ap (has_pattern rules) same ∙ sym (held.holds k.now) ∙ not_true (among k.now old) (sym told ∙ here)
