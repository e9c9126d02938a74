-- Who sits in the slot of a place, and that as many tenants came as heads were taken up or refused.
use Rattle.std.proofs.Common.{◌≡◌, ◌<◌, ℕ, ◌+◌, Bool, true, false, cond, List, Option, Some, None, is_some, refl, sym, ap, ◌∙◌, subst, arith}
use Rattle.cy_event.specs.declared.limits.Limits.{Limits}
use Rattle.cy_event.specs.declared.steps.Act.{Act}
use Rattle.cy_event.specs.declared.steps.Event.{Event}
use Rattle.cy_event.specs.declared.steps.Reply.{Reply}
use Rattle.cy_event.specs.declared.table.ChartItem.{ChartItem}
use Rattle.cy_map.specs.declared.rule.Rule.{Rule}
use Rattle.cy_model.specs.Marks.{Trace}
use Rattle.cy_proc.specs.LineAnswers.{AnswersEachEvent as LineAnswersEachEvent, RestsEach as LineRestsEach}
use Rattle.cy_proc.specs.Lines.{LineParts, Represents}
use Rattle.cy_proc.specs.ProcessorAnswers.{AnswersEachAct, AnswersEachEvent, AnswersEachTurn, Serves}
use Rattle.cy_proc.specs.Processors.{ProcessorParts, is_open_at, is_over_at}
use Rattle.cy_slot.specs.Reaching.{KeepsAllElse, who_is}
use Rattle.cy_slot.specs.Slots.{SlotParts, line_in}
use Rattle.cy_slot.specs.declared.slot.TheConstants.{GREATEST_TENANCY}
use Rattle.cy_world.specs.Lives.{SettlesOne}
use Rattle.cy_world.specs.Places.{CountsHeads, IsAlive, IsEmpty, IsInItsSlot, IsPlace, IsSameButRoom, LiveParts, PlaceParts, SitsWhile, heads_of, line_at, place_parts, visits_of}
use Rattle.cy_world.specs.declared.place.Idle.{Idle}
use Rattle.cy_world.proofs.Heads.{callback_heads, event_heads, heads_in, line_heads, rested_heads, taken_heads, turn_heads}
use Rattle.cy_world.proofs.Places.{live_of, open_by, some_who}

-- ---- where a connection sits

pub in_slot : (limits : Limits) (s : SlotParts) (spare : Option SlotParts) (idle : Option Idle) (charts : List (List ChartItem)) (room : ℕ) → IsPlace limits s spare idle charts room
    → is_over_at s.processor.stage ≡ false → IsInItsSlot (place_parts limits s spare idle charts room)
in_slot limits s spare None charts room place kept =
    let open_now = open_by s.processor.stage place.seated.1 kept in
    record {
      processor = refl;
      sits = subst (λ (v : Bool). SitsWhile v (place_parts limits s spare None charts room)) (sym open_now) (refl, refl);
      first = place.seated.2;
    }
in_slot limits s spare (Some i) charts room place kept =
    let closed : is_open_at s.processor.stage ≡ false = ap (λ (q : SlotParts). is_open_at q.processor.stage) place.seated in
    record {
      processor = refl;
      sits = subst (λ (v : Bool). SitsWhile v (place_parts limits s spare (Some i) charts room)) (sym closed) place.seated;
      first = ap (λ (q : SlotParts). q.first) place.seated;
    }

sits_still : (v : Bool) (p q : PlaceParts) → q.live ≡ p.live → q.slot ≡ p.slot → q.who ≡ p.who → SitsWhile v p → SitsWhile v q
sits_still true p q live slot who sits = (ap (λ (l : LiveParts). l.line) live ∙ sits.0 ∙ ap line_in (sym slot), ap (λ (r : SlotParts). who_is r.tenant) slot ∙ sits.1 ∙ sym who)
sits_still false p q live slot who empty = subst (λ (k : Limits). IsEmpty k q.slot) (ap (λ (l : LiveParts). l.limits) (sym live)) (subst (IsEmpty p.live.limits) (sym slot) empty)

-- where nothing but room changed
pub still_in_slot : (p q : PlaceParts) → IsSameButRoom p q → IsInItsSlot p → IsInItsSlot q
still_in_slot p q same s =
    let live : q.live ≡ p.live = ap (λ (k : PlaceParts). k.live) same in
    let slot : q.slot ≡ p.slot = ap (λ (k : PlaceParts). k.slot) same in
    record {
      processor = ap (λ (l : LiveParts). l.processor) live ∙ s.processor ∙ ap (λ (r : SlotParts). r.processor) (sym slot);
      sits = sits_still (is_open_at q.live.processor.stage) p q live slot (ap (λ (k : PlaceParts). k.who) same)
          (subst (λ (v : Bool). SitsWhile v p) (ap (λ (l : LiveParts). is_open_at l.processor.stage) (sym live)) s.sits);
      first = ap (λ (r : SlotParts). r.first) slot ∙ s.first;
    }

-- ---- how many came

pub counts_same : (old new : PlaceParts) → visits_of new.slot ≡ visits_of old.slot → heads_of new.live.line ≡ heads_of old.live.line → CountsHeads old new
counts_same old new visits heads = record { more = omega (arith, heads); as_many = λ e. omega (arith, visits, heads) }

-- where nothing but room changed before
pub counts_behind : (a b c : PlaceParts) → IsSameButRoom a b → CountsHeads b c → CountsHeads a c
counts_behind a b c same counts =
    record {
      more = omega (arith, ap (λ (k : PlaceParts). heads_of k.live.line) same, counts.more);
      as_many = λ e.
          omega (
            arith,
            ap (λ (k : PlaceParts). heads_of k.live.line) same,
            ap (λ (k : PlaceParts). visits_of k.slot) same,
            counts.as_many (omega (arith, e, ap (λ (k : PlaceParts). heads_of k.live.line) same, ap (λ (k : PlaceParts). visits_of k.slot) same)),
          );
    }

pub counts_then : (a b c : PlaceParts) → CountsHeads a b → CountsHeads b c → CountsHeads a c
counts_then a b c first second = record {
  more = omega (arith, first.more, second.more);
  as_many = λ e.
      let one = first.as_many (omega (arith, e, second.more)) in
      let other = second.as_many (omega (arith, e, one, first.more)) in
      omega (arith, one, other);
}

-- who sits there sits there still
pub same_visits : (s r : SlotParts) → KeepsAllElse s r → visits_of r ≡ visits_of s
same_visits s r rest =
    let there : is_some r.tenant ≡ is_some s.tenant = sym (some_who r.tenant) ∙ ap is_some rest.who ∙ some_who s.tenant in
    omega (arith, ap (λ (q : SlotParts). q.tenancy) rest.same, ap {B = ℕ} (λ (v : Bool). cond v 1 0) there)

heads_kept : (T R : Trace) (l m : LineParts) → Represents T l → Represents R m → heads_in R ≡ heads_in T → heads_of m ≡ heads_of l
heads_kept T R l m one other same = line_heads R m other ∙ same ∙ sym (line_heads T l one)

-- ---- a line beside its slot

told_heads : (limits : Limits) (t : ℕ) (e : Event) (b : List ℕ) (reply : Reply) (l m : LineParts) → (T : Trace) × Represents T l → LineAnswersEachEvent limits t e b l reply m
    → heads_of m ≡ heads_of l
told_heads limits t e b reply l m alive answers =
    let T = alive.0 in
    heads_kept T _ l m alive.1 (answers T alive.1).stands (event_heads limits t T e b)

rest_heads : (limits : Limits) (t : ℕ) (l m : LineParts) → (T : Trace) × Represents T l → LineRestsEach limits t l m → heads_of m ≡ heads_of l
rest_heads limits t l m alive rests =
    let T = alive.0 in
    heads_kept T _ l m alive.1 (rests T alive.1) (rested_heads limits t T)

-- by the line that stands beside the slot
module _ (limits : Limits) (s : SlotParts) (idle : Option Idle) (i : Idle) (charts : List (List ChartItem)) (l : LineParts) (is : idle ≡ Some i) (alive : IsAlive (live_of limits s idle charts)) where
  idle_alive : (T : Trace) × Represents T i.line
  idle_alive = (alive.0, subst (λ (o : Option Idle). Represents alive.0 (line_at o s)) is alive.1.serves.line)

  pub idle_told_heads : (t : ℕ) (e : Event) (b : List ℕ) (reply : Reply) → LineAnswersEachEvent limits t e b i.line reply l → heads_of l ≡ heads_of (line_at idle s)
  idle_told_heads t e b reply answers =
      told_heads limits t e b reply i.line l idle_alive answers ∙ sym (ap (λ (o : Option Idle). heads_of (line_at o s)) is)

  pub idle_rest_heads : (t : ℕ) → LineRestsEach limits t i.line l → heads_of l ≡ heads_of (line_at idle s)
  idle_rest_heads t rests = rest_heads limits t i.line l idle_alive rests ∙ sym (ap (λ (o : Option Idle). heads_of (line_at o s)) is)

-- ---- a request that is open

module _ (l m : LineParts) (p q : ProcessorParts) (alive : (T : Trace) × Serves T l p) where
  pub open_event_heads : (e : Event) (b : List ℕ) (reply : Reply) → AnswersEachEvent e b l p reply m q → heads_of m ≡ heads_of l
  open_event_heads e b reply answers =
      let T = alive.0 in
      heads_kept T _ l m alive.1.line (answers T alive.1).after.serves.line (event_heads q.limits m.moment T e b)

  pub open_turn_heads : (reply : Reply) → AnswersEachTurn l p reply m q → heads_of m ≡ heads_of l
  open_turn_heads reply answers =
      let T = alive.0 in
      heads_kept T _ l m alive.1.line (answers T alive.1).after.serves.line (turn_heads q.limits m.moment T)

  pub open_act_heads : (a : Act) (b into : List ℕ) (reply : Reply) → AnswersEachAct a b l p reply into m q → heads_of m ≡ heads_of l
  open_act_heads a b into reply answers =
      let T = alive.0 in
      heads_kept T _ l m alive.1.line (answers T alive.1).after.serves.line (callback_heads q.limits m.moment T a b)

-- by who sits in the slot
module _ (limits : Limits) (s r : SlotParts) (idle after : Option Idle) (charts : List (List ChartItem)) (none : idle ≡ None) (none_after : after ≡ None)
    (alive : IsAlive (live_of limits s idle charts)) where
  serves_here : (T : Trace) × Serves T (line_in s) s.processor
  serves_here = (alive.0, subst (λ (o : Option Idle). Serves alive.0 (line_at o s) s.processor) none alive.1.serves)

  seated_heads : heads_of (line_in r) ≡ heads_of (line_in s) → heads_of (line_at after r) ≡ heads_of (line_at idle s)
  seated_heads same =
      ap (λ (o : Option Idle). heads_of (line_at o r)) none_after ∙ same ∙ sym (ap (λ (o : Option Idle). heads_of (line_at o s)) none)

  pub seated_event_heads : (e : Event) (b : List ℕ) (reply : Reply) → AnswersEachEvent e b (line_in s) s.processor reply (line_in r) r.processor → heads_of (line_at after r) ≡ heads_of (line_at idle s)
  seated_event_heads e b reply answers = seated_heads (open_event_heads (line_in s) (line_in r) s.processor r.processor serves_here e b reply answers)

  pub seated_turn_heads : (reply : Reply) → AnswersEachTurn (line_in s) s.processor reply (line_in r) r.processor → heads_of (line_at after r) ≡ heads_of (line_at idle s)
  seated_turn_heads reply answers = seated_heads (open_turn_heads (line_in s) (line_in r) s.processor r.processor serves_here reply answers)

  pub seated_act_heads : (a : Act) (b into : List ℕ) (reply : Reply) → AnswersEachAct a b (line_in s) s.processor reply into (line_in r) r.processor → heads_of (line_at after r) ≡ heads_of (line_at idle s)
  seated_act_heads a b into reply answers = seated_heads (open_act_heads (line_in s) (line_in r) s.processor r.processor serves_here a b into reply answers)

-- ---- a head is taken up or refused

pub one_head_more : (rules : List Rule) (old new : LiveParts) → IsAlive old → SettlesOne rules old new → heads_of new.line ≡ heads_of old.line + 1
one_head_more rules old new alive one =
    let T = alive.0 in
    let w = one T alive.1 in
    line_heads _ new.line w.lives.serves.line
    ∙ rested_heads old.limits old.line.moment w.trace
    ∙ taken_heads old.limits rules old.line.moment T w.trace w.taken
    ∙ ap (λ (n : ℕ). n + 1) (sym (line_heads T old.line alive.1.serves.line))

-- One more came to sit in the slot, which is the one that was there, unless that was used up.
pub counts_one : (old new : PlaceParts) (s : SlotParts) → (old.slot.tenancy < GREATEST_TENANCY → s ≡ old.slot) → heads_of new.live.line ≡ heads_of old.live.line + 1
    → visits_of new.slot ≡ visits_of s + 1 → CountsHeads old new
counts_one old new s same heads visits = record {
  more = omega (arith, heads);
  as_many = λ e.
      let here = same (omega (arith, e, heads)) in
      omega (arith, visits, heads, ap visits_of here);
}
