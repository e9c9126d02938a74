-- The own entries of each connection are a legal run.
use Rattle.std.proofs.Common.{◌≡◌, ◌≢◌, ◌≤◌, ℕ, true, false, cond, List, [], ◌∷◌, ◌++◌, All, map, refl, sym, ap, arith, ◌==◌}
use Rattle.std.proofs.lemmas.List.Elements.{All-cons, All-head, All-map, All-nil, All-push, All-tail, All-weaker}
use Rattle.cy_event.specs.declared.limits.Limits.{Limits}
use Rattle.cy_event.specs.declared.steps.Step.{Step}
use Rattle.cy_event.specs.declared.steps.Step.TheVariants as step
use Rattle.cy_map.specs.declared.rule.Rule.{Rule}
use Rattle.cy_model.specs.Connections.{History, add_own, admits, connections, moment, with_entry}
use Rattle.cy_model.specs.Entries.{Entry, on_act, opening, reply_to, tick, on_event, trace_of, on_run}
use Rattle.cy_model.specs.Laws.{RunsAreLegal}
use Rattle.cy_model.specs.Runs.{IsLegalRun, answered, entry_of, last_moment}
use Rattle.cy_model.specs.Steps.{IsValid}

-- entries up to a moment: the first is the opening and no other is, and moments never fall
abbrev pub IsOrdered : ℕ → List (ℕ × Entry) → Type 0
IsOrdered now [] = ⊥
IsOrdered now ((t, e) ∷ []) = (t ≤ now) × (e ≡ opening)
IsOrdered now ((t, e) ∷ before ∷ entries) = (t ≤ now) × (e ≢ opening) × IsOrdered t (before ∷ entries)

-- ---- ordered entries are a legal run

entries_of : (limits : Limits) (rules : List Rule) (entries : List (ℕ × Entry)) → map entry_of (answered limits rules entries) ≡ entries
entries_of limits rules [] = refl
entries_of limits rules ((t, e) ∷ entries) = ap (λ (es : List (ℕ × Entry)). (t, e) ∷ es) (entries_of limits rules entries)

last_is : (limits : Limits) (rules : List Rule) (now : ℕ) (entries : List (ℕ × Entry)) → IsOrdered now entries → last_moment (answered limits rules entries) ≤ now
last_is limits rules now [] o = absurd o
last_is limits rules now ((t, e) ∷ []) o = o.0
last_is limits rules now ((t, e) ∷ before ∷ entries) o = o.0

replied : (limits : Limits) (rules : List Rule) (t : ℕ) (e : Entry) (entries : List (ℕ × Entry)) → reply_to limits rules t (trace_of limits rules entries) e ≡ reply_to limits rules t (trace_of limits rules (map entry_of (answered limits rules entries))) e
replied limits rules t e entries = ap (λ (es : List (ℕ × Entry)). reply_to limits rules t (trace_of limits rules es) e) (sym (entries_of limits rules entries))

pub ordered_is_legal : (limits : Limits) (rules : List Rule) (now : ℕ) (entries : List (ℕ × Entry)) → IsOrdered now entries → IsLegalRun limits rules (answered limits rules entries)
ordered_is_legal limits rules now [] o = absurd o
ordered_is_legal limits rules now ((t, e) ∷ []) o =
    (tt, record { later = omega arith; first = (λ p. refl, λ p. o.1); replied = replied limits rules t e [] })
ordered_is_legal limits rules now ((t, e) ∷ (s, f) ∷ entries) o = (
  ordered_is_legal limits rules t ((s, f) ∷ entries) o.2,
  record {
    later = last_is limits rules t ((s, f) ∷ entries) o.2;
    first = (λ p. absurd (o.1 p), λ p. cc);
    replied = replied limits rules t e ((s, f) ∷ entries);
  },
)

-- ---- each connection's entries are ordered

later_is_ordered : (now later : ℕ) (entries : List (ℕ × Entry)) → now ≤ later → IsOrdered now entries → IsOrdered later entries
later_is_ordered now later [] h o = o
later_is_ordered now later ((t, e) ∷ []) h o = (omega (arith, o.0), o.1)
later_is_ordered now later ((t, e) ∷ before ∷ entries) h o = (omega (arith, o.0), o.1, o.2)

-- one entry more, which is no opening
entry_is_ordered : (before now : ℕ) (e : Entry) (h : History) → before ≤ now → e ≢ opening → IsOrdered before h.entries → IsOrdered now (with_entry now e h).entries
entry_is_ordered before now e h later other o = more h.entries o
  where
    more : (es : List (ℕ × Entry)) → IsOrdered before es → IsOrdered now ((now, e) ∷ es)
    more [] p = absurd p
    more (x ∷ es) p = (omega arith, other, later_is_ordered before now (x ∷ es) later p)

abbrev pub AreOrdered : ℕ → List History → Type 0
AreOrdered now hs = All (λ h. IsOrdered now h.entries) hs

later_are_ordered : (now later : ℕ) (hs : List History) → now ≤ later → AreOrdered now hs → AreOrdered later hs
later_are_ordered now later hs h o =
    All-weaker (λ g. IsOrdered now g.entries) (λ g. IsOrdered later g.entries) (λ g. later_is_ordered now later g.entries h) hs o

ticked_are_ordered : (before now : ℕ) (hs : List History) → before ≤ now → AreOrdered before hs → AreOrdered now (map (with_entry now tick) hs)
ticked_are_ordered before now hs h o =
    All-map (λ g. IsOrdered now g.entries) (with_entry now tick) hs
    (All-weaker (λ g. IsOrdered before g.entries) (λ g. IsOrdered now (with_entry now tick g).entries) (λ g. entry_is_ordered before now tick g h (λ e. cc)) hs o)

owned_are_ordered : (now c : ℕ) (e : Entry) (hs : List History) → e ≢ opening → AreOrdered now hs → AreOrdered now (add_own now c e hs)
owned_are_ordered now c e [] other o = o
owned_are_ordered now c e (g ∷ hs) other o =
    let Now : History → Type 0 = λ h. IsOrdered now h.entries in
    let first = All-head Now g hs o in
    All-cons Now (cond (g.number == c) (with_entry now e g) g) (add_own now c e hs)
    (elim (g.number == c) as (λ v. Now (cond v (with_entry now e g) g)) [
      | true ↦ entry_is_ordered now now e g (omega arith) other first
      | false ↦ first
    ])
    (owned_are_ordered now c e hs other (All-tail Now g hs o))

opened_are_ordered : (now c : ℕ) (hs : List History) → AreOrdered now hs → AreOrdered now (hs ++ record { number = c; entries = (now, opening) ∷ [] } ∷ [])
opened_are_ordered now c hs o = All-push (λ h. IsOrdered now h.entries) hs _ o (omega arith, refl)

pub connections_are_ordered : (limits : Limits) (rules : List Rule) (w : List Step) → IsValid w → AreOrdered (moment w) (connections limits rules w)
connections_are_ordered limits rules [] v = All-nil (λ h. IsOrdered 0 h.entries)
connections_are_ordered limits rules (step.At t ∷ w) v =
    ticked_are_ordered (moment w) t (connections limits rules w) v.1.0 (connections_are_ordered limits rules w v.0)
connections_are_ordered limits rules (step.Admit c ∷ w) v =
    let hs = connections limits rules w in
    let before = connections_are_ordered limits rules w v.0 in
    elim (admits limits rules hs) as (λ b. AreOrdered (moment w) (cond b (hs ++ record { number = c; entries = (moment w, opening) ∷ [] } ∷ []) hs)) [
      | true ↦ opened_are_ordered (moment w) c hs before
      | false ↦ before
    ]
connections_are_ordered limits rules (step.On c e b ∷ w) v =
    owned_are_ordered (moment w) c (on_event e b) (connections limits rules w) (λ q. cc) (connections_are_ordered limits rules w v.0)
connections_are_ordered limits rules (step.Run c ∷ w) v =
    owned_are_ordered (moment w) c on_run (connections limits rules w) (λ q. cc) (connections_are_ordered limits rules w v.0)
connections_are_ordered limits rules (step.Act c a b ∷ w) v =
    owned_are_ordered (moment w) c (on_act a b) (connections limits rules w) (λ q. cc) (connections_are_ordered limits rules w v.0)

-- ---- the law

pub runs_are_legal : RunsAreLegal
runs_are_legal limits rules w v =
    All-weaker (λ h. IsOrdered (moment w) h.entries) (λ h. IsLegalRun limits rules (answered limits rules h.entries))
    (λ h. ordered_is_legal limits rules (moment w) h.entries) (connections limits rules w) (connections_are_ordered limits rules w v)
