-- What settings are written as is read as them.
use Rattle.std.proofs.Common.{◌≡◌, ℕ, ◌≤◌, inl, IsUtf8, Bool, true, false, cond, ◌&&◌, not, leb, ltb, List, [], ◌∷◌, ◌++◌, length, map, Option, Some, None, Result, Ok, Err, refl, sym, ap, subst, ◌∙◌, append_assoc, arith}
use Rattle.std.specs.List.{list_all, filter_map}
use Rattle.std.proofs.lemmas.Bool.{and_parts, le-leb}
use Rattle.std.proofs.lemmas.List.{append-nil, length-map}
use Rattle.toml.specs.Data.{Data, Members, array, table, items_depth, items_have_valid_dates, members_depth, members_have_valid_dates}
use Rattle.toml.specs.Parse.{parse_document}
use Rattle.toml.specs.View.{items_of}
use Rattle.cy_map.specs.declared.rule.Rule.{Rule}
use Rattle.cy_map.specs.Patterns.{is_pattern}
use Rattle.cy_settings.specs.declared.limit.Limit.TheVariants.{MaxConnections, MaxHttpHeaderSize, MaxHeaderCount, MaxKeepAliveRequests, ConnectionTimeout, AsyncTimeout, MaxSwallowSize, MaxTrailerSize}
use Rattle.cy_settings.specs.Rules.{AreRules, has_part, has_pattern, is_next_rule, parts_of}
use Rattle.cy_settings.specs.Settings.{settings}
use Rattle.cy_settings.proofs.RuleLists.{next_again}
use Rattle.cy_config.specs.declared.fault.SetFault.{SetFault}
use Rattle.cy_config.specs.Members.{elements, entries, is_table, members_in, rule}
use Rattle.cy_config.specs.Meaning.{◌>>=◌, Values, is_rule_list, outcome, read_rule, read_rules, refusals_of, refused_key, too_many_threads, unless, values_of}
use Rattle.cy_config.specs.Printing.{AreSettings, at_default_port, connector_of, members_with, printed, rule_table, told}
use Rattle.cy_config.specs.Texts.{Means}
use Rattle.cy_config.proofs.RulesRead.{not_true, rule_read}

-- ---- rules

rule_read_back : (n : ℕ) (rule : Rule) → is_pattern rule.pattern ≡ true → has_part rule ≡ true → read_rule n (members_in (rule_table rule)) ≡ Ok rule
rule_read_back n rule good part = rw (good, part) refl

pub rules_read_back : (done rules : List Rule) → AreRules (done ++ rules) → list_all has_part rules ≡ true → read_rules done (map rule_table rules) ≡ Ok (done ++ rules)
rules_read_back done [] are parts = ap Ok (sym (append-nil done))
rules_read_back done (rule ∷ more) are parts =
    let next = and_parts (is_pattern rule.pattern) _ (next_again done rule more are) in
    let fresh = and_parts (not (has_pattern done rule.pattern)) (ltb (length done) 1024) next.1 in
    let part = and_parts (has_part rule) (list_all has_part more) parts in
    let grown : (done ++ rule ∷ []) ++ more ≡ done ++ rule ∷ more = append_assoc done (rule ∷ []) more in
    rule_read done (rule_table rule) (map rule_table more) rule (rule_read_back (length done) rule next.0 part.0) (not_true (has_pattern done rule.pattern) fresh.0)
    ∙ rules_read_back (done ++ rule ∷ []) more (subst AreRules (sym grown) are) part.1
    ∙ ap Ok grown

elements-items_of : (ds : List Data) → elements (items_of ds) ≡ ds
elements-items_of [] = refl
elements-items_of (d ∷ ds) = ap (λ (es : List Data). d ∷ es) (elements-items_of ds)

all_tables : (rules : List Rule) → list_all is_table (map rule_table rules) ≡ true
all_tables [] = refl
all_tables (rule ∷ rules) = all_tables rules

rules_are_listed : (rules : List Rule) → length rules ≤ 1024 → is_rule_list (array (items_of (map rule_table rules))) ≡ true
rules_are_listed rules few =
    ap (λ (ds : List Data). list_all is_table ds && leb (length ds) 1024) (elements-items_of (map rule_table rules))
    ∙ ap (λ (t : Bool). t && leb (length (map rule_table rules)) 1024) (all_tables rules)
    ∙ rw length-map (le-leb _ _ few)

-- ---- the connector

keys_are_fine : (values : Values) → AreSettings values → filter_map refused_key (entries (connector_of values told)) ≡ []
keys_are_fine values are =
    rw (
      are.in_range AsyncTimeout,
      are.in_range ConnectionTimeout,
      are.in_range MaxConnections,
      are.in_range MaxHeaderCount,
      are.in_range MaxHttpHeaderSize,
      are.in_range MaxKeepAliveRequests,
      are.in_range MaxSwallowSize,
      are.threads.most,
      are.in_range MaxTrailerSize,
      are.threads.least,
    ) refl

threads_are_fine : (values : Values) → AreSettings values → too_many_threads (connector_of values told) ≡ []
threads_are_fine values are = rw (le-leb _ _ are.threads.ordered) refl

-- ---- the whole

all_fine : {A : Type 0} (a b c d e : List SetFault) (answer : Result A SetFault) → a ≡ [] → b ≡ [] → c ≡ [] → d ≡ [] → e ≡ []
    → unless a (unless b (unless c (unless d (unless e answer)))) ≡ answer
all_fine a b c d e answer p q r s t = rw (p, q, r, s, t) refl

list_is_fine : (rules : List Rule) → length rules ≤ 1024 → refusals_of rule is_rule_list false (Some (array (items_of (map rule_table rules)))) ≡ []
list_is_fine rules few = rw (rules_are_listed rules few) refl

values_are_same : (values : Values) → AreSettings values → values_of (connector_of values told) values.rules ≡ at_default_port values
values_are_same values are = rw (← are.parts) refl

pub printed_back : (values : Values) → AreSettings values → outcome (printed values) ≡ Ok (at_default_port values)
unfolding printed
printed_back values are =
    all_fine _ _ _ _ _ _ refl refl (keys_are_fine values are) (threads_are_fine values are) (list_is_fine values.rules are.taken.few)
    ∙ ap (λ (ds : List Data). read_rules [] ds >>= (λ (read : List Rule). Ok (values_of (connector_of values told) read))) (elements-items_of (map rule_table values.rules))
    ∙ ap (λ (r : Result (List Rule) SetFault). r >>= (λ (read : List Rule). Ok (values_of (connector_of values told) read))) (rules_read_back [] values.rules are.taken are.known_parts)
    ∙ ap Ok (values_are_same values are)

-- ---- what a writer asks

rules_depth : (rules : List Rule) → items_depth (items_of (map rule_table rules)) ≤ 1
rules_depth [] = omega arith
rules_depth (rule ∷ rules) = let more = rules_depth rules in omega arith

pub printed_depth : (values : Values) → members_depth (printed values) ≤ 80
unfolding printed
printed_depth values = let more = rules_depth values.rules in omega arith

rules_dates : (rules : List Rule) → items_have_valid_dates (items_of (map rule_table rules)) ≡ true
rules_dates [] = refl
rules_dates (rule ∷ rules) = rules_dates rules

pub printed_dates : (values : Values) → members_have_valid_dates (printed values) ≡ true
unfolding printed
printed_dates values = rw (rules_dates values.rules) refl

-- ---- a text of these members

pub means_back : (text : List ℕ) (values : Values) (top : Members) → AreSettings values → top ≡ printed values → IsUtf8 text → (members_depth top ≤ 80 → parse_document text ≡ Some top)
    → Means text (Ok (at_default_port values))
means_back text values top are same utf8 parsed =
    let read : parse_document text ≡ Some (printed values) =
    subst (λ (ms : Members). members_depth ms ≤ 80 → parse_document text ≡ Some ms) same parsed (printed_depth values) in
    inl (printed values, record { utf8 = utf8; parsed = read }, sym (printed_back values are))

-- ---- with the port

keys_with_port_are_fine : (values : Values) → AreSettings values → values.port ≤ 65535 → filter_map refused_key (entries (connector_of values settings)) ≡ []
keys_with_port_are_fine values are port =
    rw (
      are.in_range AsyncTimeout,
      are.in_range ConnectionTimeout,
      are.in_range MaxConnections,
      are.in_range MaxHeaderCount,
      are.in_range MaxHttpHeaderSize,
      are.in_range MaxKeepAliveRequests,
      are.in_range MaxSwallowSize,
      are.threads.most,
      are.in_range MaxTrailerSize,
      are.threads.least,
      le-leb 0 values.port (omega arith),
      le-leb values.port 65535 port,
    ) refl

threads_with_port_are_fine : (values : Values) → AreSettings values → too_many_threads (connector_of values settings) ≡ []
threads_with_port_are_fine values are = rw (le-leb _ _ are.threads.ordered) refl

values_with_port_are_same : (values : Values) → AreSettings values → values_of (connector_of values settings) values.rules ≡ values
values_with_port_are_same values are = rw (← are.parts) refl

pub written_back : (values : Values) → AreSettings values → values.port ≤ 65535 → outcome (members_with settings values) ≡ Ok values
written_back values are port =
    all_fine _ _ _ _ _ _ refl refl (keys_with_port_are_fine values are port) (threads_with_port_are_fine values are) (list_is_fine values.rules are.taken.few)
    ∙ ap (λ (ds : List Data). read_rules [] ds >>= (λ (read : List Rule). Ok (values_of (connector_of values settings) read))) (elements-items_of (map rule_table values.rules))
    ∙ ap (λ (r : Result (List Rule) SetFault). r >>= (λ (read : List Rule). Ok (values_of (connector_of values settings) read))) (rules_read_back [] values.rules are.taken are.known_parts)
    ∙ ap Ok (values_with_port_are_same values are)
