-- The lines of statements, as they are read and as they are written.
use Rattle.std.proofs.Common.{◌≡◌, ◌≢◌, ℕ, ◌≤◌, inl, inr, Bool, true, false, cond, ◌&&◌, eqb, leb, List, [], ◌∷◌, ◌++◌, Option, Some, None, refl, sym, ap, subst, ◌∙◌, arith}
use Rattle.std.specs.Prelude.{codes, option_map, bytes_eq, find}
use Rattle.std.specs.Option.{option_and_then}
use Rattle.std.proofs.lemmas.Bool.{leb-true, le-leb}
use Rattle.std.proofs.lemmas.Bool.Decides.{nat_tests}
use Rattle.std.proofs.lemmas.List.{append-nil}
use Rattle.cy_bytes.specs.Numbers.{decimal_of}
use Rattle.cy_map.specs.declared.rule.Rule.{Rule}
use Rattle.cy_settings.specs.declared.limit.Limit.{Limit}
use Rattle.cy_settings.specs.declared.limit.Limit.TheVariants.{MaxConnections, MaxHttpHeaderSize, MaxHeaderCount, MaxKeepAliveRequests, ConnectionTimeout, AsyncTimeout, MaxSwallowSize, MaxTrailerSize}
use Rattle.cy_script.specs.declared.statements.Statement.{Statement}
use Rattle.cy_script.specs.declared.statements.Statement.TheVariants as statement
use Rattle.cy_script.specs.Drafts.{IsBounded}
use Rattle.cy_script.specs.TextLines.{lacks, async_word, IsNumber, IsWritten}
use Rattle.cy_script.specs.Reading.{alone, behind_word, is_async, number_field, rule_line, rule_of_part, set_line, set_of, set_to, statement_of, statement_of_word, step_line, word_field, word_of}
use Rattle.cy_script.specs.Settings.{IsInRange}
use Rattle.cy_settings.specs.Limits.{limit_greatest, limit_least, limit_name, limit_named, limits}
use Rattle.cy_script.proofs.FieldsRead.{alone_is, bind_some, cond_cases, map_some, number_field_is, number_field_last, number_field_then, word_field_is, word_field_last, word_field_then}
use Rattle.cy_script.proofs.StepLines.{same_bytes, step_again, step_line_is}
use Rattle.cy_script.proofs.Words.{and_parts, some_then, word_and_rest, word_then}

-- ---- settings

find_passes : {A : Type 0} (p : A → Bool) (xs : List A) (x : A) → find p xs ≡ Some x → p x ≡ true
find_passes p [] x h = absurd cc
find_passes {A} p (y ∷ xs) x h =
    elim (p y) as (λ t. p y ≡ t → cond t (Some y) (find p xs) ≡ Some x → p x ≡ true) [
      | true ↦ λ e k. let same : y ≡ x = cc k in subst (λ (z : A). p z ≡ true) same e
      | false ↦ λ e k. find_passes p xs x k
    ] refl h

setting_is : (name : List ℕ) (setting : Limit) → limit_named name ≡ Some setting → name ≡ limit_name setting
setting_is name setting h = sym (same_bytes (limit_name setting) name (find_passes (λ s. bytes_eq (limit_name s) name) limits setting h))

setting_again : (setting : Limit) → limit_named (limit_name setting) ≡ Some setting
setting_again MaxConnections = refl
setting_again MaxHttpHeaderSize = refl
setting_again MaxHeaderCount = refl
setting_again MaxKeepAliveRequests = refl
setting_again ConnectionTimeout = refl
setting_again AsyncTimeout = refl
setting_again MaxSwallowSize = refl
setting_again MaxTrailerSize = refl

name_lacks : (setting : Limit) → lacks 32 (limit_name setting) ≡ true
name_lacks MaxConnections = refl
name_lacks MaxHttpHeaderSize = refl
name_lacks MaxHeaderCount = refl
name_lacks MaxKeepAliveRequests = refl
name_lacks ConnectionTimeout = refl
name_lacks AsyncTimeout = refl
name_lacks MaxSwallowSize = refl
name_lacks MaxTrailerSize = refl

abbrev in_range : Limit → ℕ → Bool
in_range setting value = leb (limit_least setting) value && leb value (limit_greatest setting)

is_in_range : (setting : Limit) (value : ℕ) → in_range setting value ≡ true → IsInRange setting value
is_in_range setting value h =
    let parts = and_parts (leb (limit_least setting) value) (leb value (limit_greatest setting)) h in
    (leb-true _ _ parts.0, leb-true _ _ parts.1)

in_range_again : (setting : Limit) (value : ℕ) → IsInRange setting value → in_range setting value ≡ true
in_range_again setting value h = rw (le-leb _ _ h.0) (le-leb _ _ h.1)

abbrev set_line_of : List ℕ → Statement → Type 0
set_line_of fields s = IsWritten s (codes "set" ++ fields)

value_is : (setting : Limit) (name fields after : List ℕ) (s : Statement) → fields ≡ 32 ∷ (name ++ after) → name ≡ limit_name setting → set_to setting after ≡ Some s → set_line_of fields s
value_is setting name fields after s parts named h =
    let value = bind_some (number_field after) (λ v. option_and_then (λ set. alone set v.1) (set_of setting v.0)) s h in
    let field = number_field_is after value.0 value.1 in
    let set = bind_some (set_of setting value.0.0) (λ set. alone set value.0.1) s value.2 in
    let ranged = some_then (in_range setting value.0.0) (Some (statement.Set setting value.0.0)) set.0 set.1 in
    let ends = alone_is set.0 s value.0.1 set.2 in
    let made : statement.Set setting value.0.0 ≡ set.0 = cc ranged.1 in
    let follows : after ≡ 32 ∷ field.digits = field.parts ∙ ap (λ (r : List ℕ). 32 ∷ (field.digits ++ r)) ends.0 ∙ ap (λ (t : List ℕ). 32 ∷ t) (append-nil field.digits) in
    let whole : fields ≡ 32 ∷ (limit_name setting ++ 32 ∷ field.digits) = parts ∙ ap (λ (n : List ℕ). 32 ∷ (n ++ after)) named ∙ ap (λ (r : List ℕ). 32 ∷ (limit_name setting ++ r)) follows in
    subst (set_line_of fields) ends.1 (subst (set_line_of fields) made (is_in_range setting value.0.0 ranged.0, (field.digits, field.number, ap (λ (f : List ℕ). codes "set" ++ f) whole)))

set_line_is : (fields : List ℕ) (s : Statement) → set_line fields ≡ Some s → set_line_of fields s
set_line_is fields s h =
    elim (cond_cases (bytes_eq fields (codes " maxKeepAliveRequests -1")) (Some statement.NoLimit) _ s h) as (λ _. set_line_of fields s) [
      | inl no_limit ↦
          let made : statement.NoLimit ≡ s = cc no_limit.1 in
          subst (set_line_of fields) made (ap (λ (f : List ℕ). codes "set" ++ f) (same_bytes fields (codes " maxKeepAliveRequests -1") no_limit.0))
      | inr named ↦
          let name = bind_some (word_field fields) (λ n. option_and_then (λ setting. set_to setting n.1) (limit_named n.0)) s named.1 in
          let setting = bind_some (limit_named name.0.0) (λ setting. set_to setting name.0.1) s name.2 in
          value_is setting.0 name.0.0 fields name.0.1 s (word_field_is fields name.0 name.1).parts (setting_is name.0.0 setting.0 setting.1) setting.2
    ]

tail_of : List ℕ → List ℕ
tail_of [] = []
tail_of (b ∷ text) = text

-- a number begins with no minus sign
no_minus : (value : ℕ) → decimal_of (codes "-1") ≢ Some value
unfolding decimal_of
no_minus value h = absurd cc

no_number_is_minus_one : (setting : Limit) (digits : List ℕ) (value : ℕ) → IsNumber digits value → 32 ∷ (limit_name setting ++ 32 ∷ digits) ≢ codes " maxKeepAliveRequests -1"
unfolding tail_of
no_number_is_minus_one setting digits value number e =
    let rest : 32 ∷ digits ≡ codes " -1" = sym (word_then (limit_name setting) digits (name_lacks setting)).1 ∙ ap (λ (t : List ℕ). behind_word (tail_of t)) e in
    no_minus value (ap decimal_of (sym (ap tail_of rest)) ∙ number)

is_no_limit : (fields : List ℕ) → fields ≢ codes " maxKeepAliveRequests -1" → bytes_eq fields (codes " maxKeepAliveRequests -1") ≡ false
is_no_limit fields other =
    elim (bytes_eq fields (codes " maxKeepAliveRequests -1")) as (λ t. bytes_eq fields (codes " maxKeepAliveRequests -1") ≡ t → t ≡ false) [
      | true ↦ λ e. absurd (other (same_bytes fields (codes " maxKeepAliveRequests -1") e))
      | false ↦ λ e. refl
    ] refl

set_to_again : (setting : Limit) (value : ℕ) (digits : List ℕ) → IsInRange setting value → IsNumber digits value → set_to setting (32 ∷ digits) ≡ Some (statement.Set setting value)
set_to_again setting value digits ranged number =
    ap (λ (o : Option (ℕ × List ℕ)). option_and_then (λ v. option_and_then (λ set. alone set v.1) (set_of setting v.0)) o) (number_field_last digits value number)
    ∙ ap (λ (t : Bool). option_and_then {T = Statement} (λ set. alone set []) (cond t (Some (statement.Set setting value)) None)) (in_range_again setting value ranged)

set_line_again : (setting : Limit) (value : ℕ) (digits : List ℕ) → IsInRange setting value → IsNumber digits value → set_line (32 ∷ (limit_name setting ++ 32 ∷ digits)) ≡ Some (statement.Set setting value)
set_line_again setting value digits ranged number =
    let fields = 32 ∷ (limit_name setting ++ 32 ∷ digits) in
    let by_name : Option (List ℕ × List ℕ) → Option Statement = λ o. option_and_then (λ n. option_and_then (λ s. set_to s n.1) (limit_named n.0)) o in
    ap (λ (t : Bool). cond t (Some statement.NoLimit) (by_name (word_field fields))) (is_no_limit fields (no_number_is_minus_one setting digits value number))
    ∙ ap by_name (word_field_then (limit_name setting) digits (name_lacks setting))
    ∙ ap (λ (o : Option Limit). option_and_then (λ s. set_to s (32 ∷ digits)) o) (setting_again setting)
    ∙ set_to_again setting value digits ranged number

-- ---- rules

mode_is : (word : List ℕ) (can_async : Bool) → is_async word ≡ Some can_async → word ≡ async_word can_async
mode_is word can_async h =
    elim (cond_cases (bytes_eq word (codes "async")) (Some true) _ can_async h) as (λ _. word ≡ async_word can_async) [
      | inl async ↦ let is : true ≡ can_async = cc async.1 in same_bytes word (codes "async") async.0 ∙ ap async_word is
      | inr other ↦
          let sync = some_then (bytes_eq word (codes "sync")) (Some false) can_async other.1 in
          let is : false ≡ can_async = cc sync.1 in
          same_bytes word (codes "sync") sync.0 ∙ ap async_word is
    ]

mode_again : (can_async : Bool) → is_async (async_word can_async) ≡ Some can_async
mode_again true = refl
mode_again false = refl

mode_lacks : (can_async : Bool) → lacks 32 (async_word can_async) ≡ true
mode_lacks true = refl
mode_lacks false = refl

abbrev rule_made : List ℕ → ℕ → Bool → Rule
rule_made pattern part can_async = record { pattern = pattern; part = part; can_async = can_async }

abbrev rule_by_mode : List ℕ → ℕ → List ℕ × List ℕ → Option Rule
rule_by_mode pattern part mode = option_and_then (λ can_async. option_and_then (λ rule. alone rule mode.1) (rule_of_part pattern part can_async)) (is_async mode.0)

abbrev rule_by_part : List ℕ → ℕ × List ℕ → Option Rule
rule_by_part pattern part = option_and_then (rule_by_mode pattern part.0) (word_field part.1)

abbrev rule_by_pattern : List ℕ × List ℕ → Option Rule
rule_by_pattern pattern = option_and_then (rule_by_part pattern.0) (number_field pattern.1)

abbrev rule_line_of : List ℕ → Rule → Type 0
rule_line_of fields rule = IsWritten (statement.Rule rule) (codes "rule" ++ fields)

made_rule : (fields : List ℕ) (made whole rule : Rule) → made ≡ whole → whole ≡ rule → rule_line_of fields made → rule_line_of fields rule
made_rule fields made whole rule first second h = subst (rule_line_of fields) (first ∙ second) h

-- the line of these words, from what stands behind each of them
rule_text : (fields pattern after digits rest word end mode : List ℕ) → fields ≡ 32 ∷ (pattern ++ after) → after ≡ 32 ∷ (digits ++ rest) → rest ≡ 32 ∷ (word ++ end) → end ≡ [] → word ≡ mode
    → codes "rule" ++ fields ≡ codes "rule" ++ 32 ∷ (pattern ++ 32 ∷ (digits ++ 32 ∷ mode))
rule_text fields pattern after digits rest word end mode first second third ends named =
    let last : rest ≡ 32 ∷ mode = third ∙ ap (λ (t : List ℕ). 32 ∷ (word ++ t)) ends ∙ ap (λ (t : List ℕ). 32 ∷ t) (append-nil word ∙ named) in
    ap (λ (t : List ℕ). codes "rule" ++ t) first
    ∙ ap (λ (t : List ℕ). codes "rule" ++ 32 ∷ (pattern ++ t)) second
    ∙ ap (λ (t : List ℕ). codes "rule" ++ 32 ∷ (pattern ++ 32 ∷ (digits ++ t))) last

rule_line_is : (fields : List ℕ) (rule : Rule) → rule_line fields ≡ Some rule → IsWritten (statement.Rule rule) (codes "rule" ++ fields)
rule_line_is fields rule h =
    let pattern = bind_some (word_field fields) rule_by_pattern rule h in
    let part = bind_some (number_field pattern.0.1) (rule_by_part pattern.0.0) rule pattern.2 in
    let mode = bind_some (word_field part.0.1) (rule_by_mode pattern.0.0 part.0.0) rule part.2 in
    let can_async = bind_some (is_async mode.0.0) (λ a. option_and_then (λ r. alone r mode.0.1) (rule_of_part pattern.0.0 part.0.0 a)) rule mode.2 in
    let whole = bind_some (rule_of_part pattern.0.0 part.0.0 can_async.0) (λ r. alone r mode.0.1) rule can_async.2 in
    let known = some_then (leb part.0.0 255) (Some (rule_made pattern.0.0 part.0.0 can_async.0)) whole.0 whole.1 in
    let ends = alone_is whole.0 rule mode.0.1 whole.2 in
    let made : rule_made pattern.0.0 part.0.0 can_async.0 ≡ whole.0 = cc known.1 in
    let first = word_field_is fields pattern.0 pattern.1 in
    let second = number_field_is pattern.0.1 part.0 part.1 in
    let third = word_field_is part.0.1 mode.0 mode.1 in
    let line = rule_text fields pattern.0.0 pattern.0.1 second.digits part.0.1 mode.0.0 mode.0.1 (async_word can_async.0) first.parts second.parts third.parts ends.0 (mode_is mode.0.0 can_async.0 can_async.1) in
    made_rule fields (rule_made pattern.0.0 part.0.0 can_async.0) whole.0 rule made ends.1 (first.lacks_spaces, leb-true part.0.0 255 known.0, (second.digits, second.number, line))

rule_line_again : (rule : Rule) (digits : List ℕ) → lacks 32 rule.pattern ≡ true → rule.part ≤ 255 → IsNumber digits rule.part
    → rule_line (32 ∷ (rule.pattern ++ 32 ∷ (digits ++ 32 ∷ async_word rule.can_async))) ≡ Some rule
rule_line_again rule digits word known number =
    ap (λ (o : Option (List ℕ × List ℕ)). option_and_then rule_by_pattern o) (word_field_then rule.pattern (digits ++ 32 ∷ async_word rule.can_async) word)
    ∙ ap (λ (o : Option (ℕ × List ℕ)). option_and_then (rule_by_part rule.pattern) o) (number_field_then digits rule.part (async_word rule.can_async) number)
    ∙ ap (λ (o : Option (List ℕ × List ℕ)). option_and_then (rule_by_mode rule.pattern rule.part) o) (word_field_last (async_word rule.can_async) (mode_lacks rule.can_async))
    ∙ ap (λ (o : Option Bool). option_and_then (λ a. option_and_then (λ r. alone r []) (rule_of_part rule.pattern rule.part a)) o) (mode_again rule.can_async)
    ∙ ap (λ (t : Bool). option_and_then {T = Rule} (λ r. alone r []) (cond t (Some rule) None)) (le-leb _ _ known)

-- ---- statements

word_statement_is : (word fields : List ℕ) (s : Statement) → statement_of_word word fields ≡ Some s → IsWritten s (word ++ fields)
word_statement_is word fields s h =
    elim (cond_cases (bytes_eq word (codes "set")) _ _ s h) as (λ _. IsWritten s (word ++ fields)) [
      | inl sets ↦ subst (λ (w : List ℕ). IsWritten s (w ++ fields)) (sym (same_bytes word (codes "set") sets.0)) (set_line_is fields s sets.1)
      | inr other ↦ elim (cond_cases (bytes_eq word (codes "rule")) _ _ s other.1) as (λ _. IsWritten s (word ++ fields)) [
        | inl maps ↦
            let rule = map_some (rule_line fields) (λ r. statement.Rule r) s maps.1 in
            subst (λ (w : List ℕ). IsWritten s (w ++ fields)) (sym (same_bytes word (codes "rule") maps.0))
            (subst (λ (t : Statement). IsWritten t (codes "rule" ++ fields)) rule.2 (rule_line_is fields rule.0 rule.1))
        | inr takes ↦
            let step = map_some (step_line word fields) (λ t. statement.Step t) s takes.1 in
            subst (λ (t : Statement). IsWritten t (word ++ fields)) step.2 (step_line_is word fields step.0 step.1)
      ]
    ]

-- What a line says is written so.
pub statement_is : (line : List ℕ) (s : Statement) → statement_of line ≡ Some s → IsWritten s line
statement_is [] s h =
    let made : statement.Nothing ≡ s = cc h in
    subst (λ (t : Statement). IsWritten t []) made (inl refl)
statement_is (b ∷ line) s h =
    elim (eqb b 35) as (λ t. eqb b 35 ≡ t → cond t (Some statement.Nothing) (statement_of_word (word_of (b ∷ line)) (behind_word (b ∷ line))) ≡ Some s → IsWritten s (b ∷ line)) [
      | true ↦ λ e k.
          let made : statement.Nothing ≡ s = cc k in
          let is : b ≡ 35 = grind (arith, nat_tests, e) in
          subst (λ (t : Statement). IsWritten t (b ∷ line)) made (inr (line, ap (λ (c : ℕ). c ∷ line) is))
      | false ↦ λ e k. subst (IsWritten s) (sym (word_and_rest (b ∷ line))) (word_statement_is (word_of (b ∷ line)) (behind_word (b ∷ line)) s k)
    ] refl h

-- A line that is written so says this.
pub statement_again : (line : List ℕ) (s : Statement) → IsWritten s line → statement_of line ≡ Some s
statement_again line statement.Nothing (inl empty) = ap statement_of empty
statement_again line statement.Nothing (inr comment) = ap statement_of comment.1
statement_again line (statement.Set setting value) h = ap statement_of h.1.2 ∙ set_line_again setting value h.1.0 h.0 h.1.1
statement_again line statement.NoLimit h = ap statement_of h
statement_again line (statement.Rule rule) h =
    ap statement_of h.2.2 ∙ ap (λ (o : Option Rule). option_map statement.Rule o) (rule_line_again rule h.2.0 h.0 h.1 h.2.1)
statement_again line (statement.Step step) h =
    let from = step_again line step h in
    ap statement_of from.parts ∙ from.of_steps ∙ ap (option_map statement.Step) from.read

-- The number of a statement that is written is no greater than it may be.
pub is_bounded : (line : List ℕ) (s : Statement) → IsWritten s line → IsBounded s
is_bounded line statement.Nothing h = tt
is_bounded line (statement.Set setting value) h = h.0.1
is_bounded line statement.NoLimit h = tt
is_bounded line (statement.Rule rule) h = h.1
is_bounded line (statement.Step step) h = tt
