-- Options and expectations: what is remembered of them tells which there were.
use Rattle.std.proofs.Common.{◌≡◌, ℕ, Bool, true, false, not, ◌&&◌, ◌||◌, cond, List, [], ◌∷◌, eqb, refl, sym, ap, ◌∙◌}
use Rattle.std.proofs.lemmas.Bool.{ne_eqb}
use Rattle.std.specs.Prelude.{fold, codes}
use Rattle.std.specs.List.{list_all, list_any}
use Rattle.cy_event.specs.Framings.{has_word, is_continue, persists, is_word}
use Rattle.cy_framing.specs.Lists.{after_expectation, after_option}
use Rattle.cy_framing.specs.declared.connection.Options.{Options}
use Rattle.cy_framing.specs.declared.expectations.Expected.{Expected}

abbrev options : Bool → Bool → Options
options close keep_alive = record { close = close; keep_alive = keep_alive }

or-assoc : (a b c : Bool) → ((a || b) || c) ≡ (a || (b || c))
or-assoc true b c = refl
or-assoc false b c = refl

options_by : (elements : List (List ℕ)) (close keep : Bool)
    → fold after_option (options close keep) elements ≡ options (close || has_word (codes "close") elements) (keep || has_word (codes "keep-alive") elements)
options_by [] close keep = nothing_more close keep
  where
    nothing_more : (a b : Bool) → options a b ≡ options (a || false) (b || false)
    nothing_more true true = refl
    nothing_more true false = refl
    nothing_more false true = refl
    nothing_more false false = refl
options_by (element ∷ elements) close keep =
    options_by elements (close || is_word (codes "close") element) (keep || is_word (codes "keep-alive") element)
    ∙ ap (λ (t : Bool). options t ((keep || is_word (codes "keep-alive") element) || has_word (codes "keep-alive") elements)) (or-assoc close _ _)
    ∙ ap (λ (t : Bool). options (close || (is_word (codes "close") element || has_word (codes "close") elements)) t) (or-assoc keep _ _)

pub options_tell : (elements : List (List ℕ)) (told : Options) → told ≡ fold after_option (record { close = false; keep_alive = false }) elements
    → (told.close ≡ has_word (codes "close") elements) × (told.keep_alive ≡ has_word (codes "keep-alive") elements)
options_tell elements told e =
    let same = e ∙ options_by elements false false in
    (ap (λ (o : Options). o.close) same, ap (λ (o : Options). o.keep_alive) same)

abbrev expected : Bool → Bool → Expected
expected go_on other = record { go_on = go_on; other = other }

one_more : (go_on other some all t : Bool) → expected (cond t true go_on || some) (cond t other true || not all) ≡ expected (go_on || (t || some)) (other || not (t && all))
one_more true true some all true = refl
one_more true false some all true = refl
one_more false true some all true = refl
one_more false false some all true = refl
one_more true true some all false = refl
one_more true false some all false = refl
one_more false true some all false = refl
one_more false false some all false = refl

step_is : (go_on other t : Bool) → cond t (expected true other) (expected go_on true) ≡ expected (cond t true go_on) (cond t other true)
step_is go_on other true = refl
step_is go_on other false = refl

expected_by : (elements : List (List ℕ)) (go_on other : Bool)
    → fold after_expectation (expected go_on other) elements ≡ expected (go_on || list_any is_continue elements) (other || not (list_all is_continue elements))
expected_by [] go_on other = nothing_more go_on other
  where
    nothing_more : (a b : Bool) → expected a b ≡ expected (a || false) (b || false)
    nothing_more true true = refl
    nothing_more true false = refl
    nothing_more false true = refl
    nothing_more false false = refl
expected_by (element ∷ elements) go_on other =
    ap (λ (e : Expected). fold after_expectation e elements) (step_is go_on other (is_continue element))
    ∙ expected_by elements (cond (is_continue element) true go_on) (cond (is_continue element) other true)
    ∙ one_more go_on other (list_any is_continue elements) (list_all is_continue elements) (is_continue element)

not-twice : (b : Bool) → not (not b) ≡ b
not-twice true = refl
not-twice false = refl

pub expected_tell : (elements : List (List ℕ)) (told : Expected) → told ≡ fold after_expectation (record { go_on = false; other = false }) elements
    → (told.go_on ≡ list_any is_continue elements) × (not told.other ≡ list_all is_continue elements)
expected_tell elements told e =
    let same = e ∙ expected_by elements false false in
    (ap (λ (o : Expected). o.go_on) same, ap (λ (o : Expected). not o.other) same ∙ not-twice (list_all is_continue elements))

-- ---- by version

pub kept_is : (minor version : ℕ) (elements : List (List ℕ)) (told : Options) → version ≡ minor → told ≡ fold after_option (record { close = false; keep_alive = false }) elements
    → (not told.close && (not (eqb version 0) || told.keep_alive)) ≡ persists minor elements
kept_is minor version elements told same e =
    let tells = options_tell elements told e in
    ap (λ (v : ℕ). not told.close && (not (eqb v 0) || told.keep_alive)) same
    ∙ ap (λ (t : Bool). not t && (not (eqb minor 0) || told.keep_alive)) tells.0
    ∙ ap (λ (t : Bool). not (has_word (codes "close") elements) && (not (eqb minor 0) || t)) tells.1

newer : (minor version : ℕ) → version ≡ minor → (version ≡ 0 → ⊥) → eqb minor 0 ≡ false
newer minor version same other = ap (λ (v : ℕ). eqb v 0) (sym same) ∙ ne_eqb version 0 other

pub go_on_is : (minor version : ℕ) (elements : List (List ℕ)) (told : Expected) → version ≡ minor → (version ≡ 0 → ⊥)
    → told ≡ fold after_expectation (record { go_on = false; other = false }) elements → told.go_on ≡ (not (eqb minor 0) && list_any is_continue elements)
go_on_is minor version elements told same other e =
    (expected_tell elements told e).0 ∙ ap (λ (t : Bool). not t && list_any is_continue elements) (sym (newer minor version same other))

pub other_is : (minor version : ℕ) (elements : List (List ℕ)) (told : Expected) → version ≡ minor → (version ≡ 0 → ⊥)
    → told ≡ fold after_expectation (record { go_on = false; other = false }) elements → not told.other ≡ (eqb minor 0 || list_all is_continue elements)
other_is minor version elements told same other e =
    (expected_tell elements told e).1 ∙ ap (λ (t : Bool). t || list_all is_continue elements) (sym (newer minor version same other))
