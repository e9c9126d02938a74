-- The steps of a script that is read are valid, and none is one of the clock.
use Rattle.std.proofs.Common.{◌≡◌, ◌≢◌, ℕ, ◌+◌, ◌≤◌, Bool, true, false, cond, ◌||◌, ◌==◌, List, [], ◌∷◌, ◌++◌, count_by, length, nat_le, reverse, refl, sym, ap, ◌∙◌, subst, arith}
use Rattle.std.proofs.lemmas.Bool.{and_parts, eq-eqb, eqb-true, leb-true}
use Rattle.std.proofs.lemmas.List.{append-nil, append_assoc, reverse-append}
use Rattle.std.proofs.lemmas.List.Sums.{sum_by-cons}
use Rattle.std.specs.List.{list_all, list_any}
use Rattle.cy_event.specs.declared.steps.Act.{Act}
use Rattle.cy_event.specs.declared.steps.Act.TheVariants as act
use Rattle.cy_event.specs.declared.steps.Step.{Step}
use Rattle.cy_event.specs.declared.steps.Step.TheVariants as step
use Rattle.cy_event.specs.declared.steps.TheConstants.{GREATEST_READ}
use Rattle.cy_model.specs.Steps.{IsNewNumber, IsValid, IsWithinBytes, MayFollow}
use Rattle.cy_script.specs.Conditions.{admits, is_of_a_connection}
use Rattle.cy_script.specs.Kept.{IsScript, has_its_bytes, is_nothing}
use Rattle.cy_script.specs.declared.script.Script.{Script}
use Rattle.cy_world.specs.Told.{is_clock}

-- the bytes that a write counts stand beside it, and a read asks for no more than it may
within : (n : ℕ) (a : Act) (bytes : List ℕ) → has_its_bytes (step.Act n a bytes) ≡ true → IsWithinBytes a bytes
within n (act.Read k) bytes beside = leb-true k GREATEST_READ (and_parts (nat_le k GREATEST_READ) (is_nothing bytes) beside).0
within n (act.Write k) bytes beside = omega (arith, eqb-true k (length bytes) beside)
within n act.Return bytes beside = tt

-- ---- numbers

-- how often the steps admit the connection of the number, and whether a step does
abbrev admissions : ℕ → List Step → ℕ
admissions n steps = count_by (admits n) steps

abbrev one_if_admits : ℕ → Step → ℕ
one_if_admits n s = cond (admits n s) 1 0

differ : (c d rest : ℕ) → cond (c == d) 1 0 + rest ≡ 0 → c ≢ d
differ c d rest none same = omega (arith, subst (λ (v : Bool). cond v 1 0 + rest ≡ 0) (eq-eqb c d same) none)

-- a number that no step admits is new
new_number : (c : ℕ) (w : List Step) → admissions c w ≡ 0 → IsNewNumber c w
new_number c [] none = tt
new_number c (step.At t ∷ w) none = new_number c w (omega (arith, none, sum_by-cons (one_if_admits c) (step.At t) w))
new_number c (step.Admit d ∷ w) none =
    let count = sum_by-cons (one_if_admits c) (step.Admit d) w in
    (differ c d (admissions c w) (sym count ∙ none), new_number c w (omega (arith, none, count)))
new_number c (step.On n e b ∷ w) none = new_number c w (omega (arith, none, sum_by-cons (one_if_admits c) (step.On n e b) w))
new_number c (step.Run n ∷ w) none = new_number c w (omega (arith, none, sum_by-cons (one_if_admits c) (step.Run n) w))
new_number c (step.Act n a b ∷ w) none = new_number c w (omega (arith, none, sum_by-cons (one_if_admits c) (step.Act n a b) w))

-- ---- steps

-- a step may follow those before it, which don't admit the number that it admits
may_follow : (s : Step) (w : List Step) → is_of_a_connection s ≡ true → has_its_bytes s ≡ true
    → ((n : ℕ) → admits n s ≡ true → admissions n w ≡ 0) → MayFollow s w
may_follow (step.At t) w own beside none = cc
may_follow (step.Admit n) w own beside none = (leb-true 1 n own, new_number n w (none n (eq-eqb n n refl)))
may_follow (step.On n e b) w own beside none = leb-true 1 n own
may_follow (step.Run n) w own beside none = leb-true 1 n own
may_follow (step.Act n a b) w own beside none = (leb-true 1 n own, within n a b beside)

-- of one admission at most none stands before this
none_before : (v : Bool) (n before : ℕ) → cond v 1 0 + n + before ≤ 1 → v ≡ true → before ≡ 0
none_before v n before once admitted = omega (arith, subst (λ (u : Bool). cond u 1 0 + n + before ≤ 1) admitted once)

-- steps behind valid ones, the newest first
valid_onto : (steps w : List Step) → IsValid w → list_all is_of_a_connection steps ≡ true → list_all has_its_bytes steps ≡ true
    → ((n : ℕ) → admissions n steps + admissions n w ≤ 1) → IsValid (reverse steps ++ w)
valid_onto [] w valid own beside once = valid
valid_onto (s ∷ steps) w valid own beside once =
    let own_parts = and_parts (is_of_a_connection s) (list_all is_of_a_connection steps) own in
    let beside_parts = and_parts (has_its_bytes s) (list_all has_its_bytes steps) beside in
    let sum = λ (n : ℕ). sum_of n (sum_by-cons (one_if_admits n) s steps) (once n) in
    let follows = may_follow s w own_parts.0 beside_parts.0 (λ n. none_before (admits n s) (admissions n steps) (admissions n w) (sum n)) in
    subst IsValid
    (sym (ap (λ (u : List Step). u ++ w) (reverse-append (s ∷ []) steps) ∙ append_assoc (reverse steps) (s ∷ []) w))
    (valid_onto steps (s ∷ w) (valid, follows) own_parts.1 beside_parts.1 (λ n. omega (arith, sum n, sum_by-cons (one_if_admits n) s w)))
  where
    sum_of : (n : ℕ) → admissions n (s ∷ steps) ≡ one_if_admits n s + admissions n steps → admissions n (s ∷ steps) + admissions n w ≤ 1
        → one_if_admits n s + admissions n steps + admissions n w ≤ 1
    sum_of n more within = omega (arith, more, within)

-- the steps of a script are valid
pub script_is_valid : (script : Script) → IsScript script → IsValid (reverse script.steps)
script_is_valid script is =
    subst IsValid (append-nil (reverse script.steps))
    (valid_onto script.steps [] tt is.steps.of_connections is.bytes (λ n. omega (arith, is.steps.once n)))

not_clock : (s : Step) → is_of_a_connection s ≡ true → is_clock s ≡ false
not_clock (step.At t) own = cc
not_clock (step.Admit n) own = refl
not_clock (step.On n e b) own = refl
not_clock (step.Run n) own = refl
not_clock (step.Act n a b) own = refl

no_clock : (steps : List Step) → list_all is_of_a_connection steps ≡ true → list_any is_clock steps ≡ false
no_clock [] own = refl
no_clock (s ∷ steps) own =
    let parts = and_parts (is_of_a_connection s) (list_all is_of_a_connection steps) own in
    ap (λ (v : Bool). v || list_any is_clock steps) (not_clock s parts.0) ∙ no_clock steps parts.1

-- none of a script is one of the clock
pub script_has_no_clock : (script : Script) → IsScript script → list_any is_clock script.steps ≡ false
script_has_no_clock script is = no_clock script.steps is.steps.of_connections
