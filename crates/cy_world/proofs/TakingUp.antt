-- A connection comes to sit in its slot, and the head that is due is taken up or refused.
use Rattle.std.proofs.Common.{◌≡◌, ◌≤◌, ◌<◌, ℕ, ◌+◌, ◌-◌, Bool, true, false, ◌&&◌, ◌==◌, List, [], length, Option, Some, None, is_some, refl, sym, ap, ◌∙◌, subst, arith, cond}
use Rattle.std.proofs.lemmas.Bool.{eq-eqb}
use Rattle.cy_event.specs.declared.limits.Limits.{Limits}
use Rattle.cy_event.specs.declared.table.ChartItem.{ChartItem}
use Rattle.cy_map.specs.declared.rule.Rule.{Rule}
use Rattle.cy_proc.specs.LineChanges.{is_due, work_of}
use Rattle.cy_proc.specs.Lines.{LineParts}
use Rattle.cy_proc.specs.ProcessorAnswers.{TakesUpEach}
use Rattle.cy_proc.specs.Processors.{ProcessorParts, fresh_processor, is_free_at, is_over_at}
use Rattle.cy_slot.specs.Reaching.{KeepsAllElse, after_bind, bound_at, bound_by, has_head_due, may_open, tenant_after, who_is}
use Rattle.cy_slot.specs.Slots.{SlotParts, line_in}
use Rattle.cy_slot.specs.declared.conn.Conn.{Conn}
use Rattle.cy_slot.specs.declared.slot.Bound.{Bound}
use Rattle.cy_slot.specs.declared.slot.Bound.TheVariants as bound
use Rattle.cy_slot.specs.declared.slot.TheConstants.{GREATEST_TENANCY}
use Rattle.cy_world.specs.Lives.{SettlesOne}
use Rattle.cy_world.specs.Places.{HasRoom, IsAlive, IsEmpty, IsPlace, IsSeated, PlaceParts, line_at, tenants_by, visits_of, who_at}
use Rattle.cy_world.specs.declared.place.Idle.{Idle}
use Rattle.cy_world.proofs.Lives.{opened_lives}
use Rattle.cy_world.proofs.Places.{live_of, seated_still}

-- ---- the connection is bound

pub record IsBound (s b : SlotParts) (conn : Conn) (tenancy : ℕ) : Type 0 where
  pub number : tenancy ≡ s.tenancy
  pub slot : b ≡ record s { tenant = Some conn }

bound_means : (t : Option Conn) (worn : Bool) (n m : ℕ) (conn : Conn) → bound_at t worn n conn ≡ bound.Bound m → (tenant_after t worn conn ≡ Some conn) × (m ≡ n)
bound_means (Some other) worn n m conn e = cc
bound_means None true n m conn e = cc
bound_means None false n m conn e = (refl, cc)

pub is_bound : (s b : SlotParts) (conn : Conn) (tenancy : ℕ) (r : Bound) → r ≡ bound_by conn s → r ≡ bound.Bound tenancy → b ≡ after_bind conn s → IsBound s b conn tenancy
is_bound s b conn tenancy r answer is parts =
    let w = bound_means s.tenant (s.tenancy == GREATEST_TENANCY) s.tenancy tenancy conn (sym answer ∙ is) in
    record { number = w.1; slot = parts ∙ (λ k. record s { tenant = w.0 k }) }

-- ---- its head is opened

module _ (limits : Limits) (s b r : SlotParts) (conn : Conn) (tenancy : ℕ) (is : IsBound s b conn tenancy) (fresh : s.processor ≡ fresh_processor limits) where
  pub may_open_bound : is_due limits conn.line ≡ true → may_open tenancy b ≡ true
  may_open_bound due =
      let equal : (b.tenancy == tenancy) ≡ true = ap (λ (q : SlotParts). q.tenancy == tenancy) is.slot ∙ eq-eqb s.tenancy tenancy (sym is.number) in
      let free : is_free_at b.processor.stage ≡ true = ap (λ (q : SlotParts). is_free_at q.processor.stage) is.slot ∙ ap (λ (q : ProcessorParts). is_free_at q.stage) fresh in
      let head : has_head_due b.processor.limits b.tenant ≡ true =
      ap (λ (q : SlotParts). has_head_due q.processor.limits q.tenant) is.slot ∙ ap (λ (q : ProcessorParts). is_due q.limits conn.line) fresh ∙ due in
      λ k. equal k && free k && head k

  pub opens : (rules : List Rule) (idle after : Option Idle) (charts : List (List ChartItem)) → line_at idle s ≡ conn.line → after ≡ None
      → TakesUpEach rules (line_in b) b.processor (line_in r) r.processor → (line_in r).moment ≡ (line_in b).moment → KeepsAllElse b r
      → SettlesOne rules (live_of limits s idle charts) (live_of limits r after charts)
  opens rules idle (Some i) charts line none takes moment all_else T lives = cc
  opens rules idle None charts line none takes moment all_else T lives =
      let p = live_of limits s idle charts in
      let sits : line_in b ≡ p.line = ap line_in is.slot ∙ sym line in
      let held : b.processor ≡ p.processor = ap (λ (q : SlotParts). q.processor) is.slot in
      opened_lives rules T p (line_in r) r.processor (ap (λ (q : ProcessorParts). is_over_at q.stage) fresh) (moment ∙ ap (λ (l : LineParts). l.moment) sits)
      (all_else.limits ∙ ap (λ (q : ProcessorParts). q.limits) held) lives
      (subst (λ (l : LineParts). TakesUpEach rules l p.processor (line_in r) r.processor) sits
      (subst (λ (q : ProcessorParts). TakesUpEach rules (line_in b) q (line_in r) r.processor) held takes))

  pub entered_place : (spare : Option SlotParts) (idle after : Option Idle) (charts : List (List ChartItem)) (room : ℕ) → after ≡ None → s.first ≡ 0 → IsPlace limits s spare idle charts room
      → KeepsAllElse b r → is_free_at r.processor.stage ≡ false → IsAlive (live_of limits r after charts) → IsPlace limits r spare after charts room
  entered_place spare idle (Some i) charts room none first place all_else taken alive = cc
  entered_place spare idle None charts room none first place all_else taken alive = record {
    head_room = place.head_room;
    field_room = place.field_room;
    seated = (
      seated_still b r (ap (λ (q : SlotParts). is_some q.tenant) is.slot) all_else,
      taken,
      ap (λ (q : SlotParts). q.first) all_else.same ∙ ap (λ (q : SlotParts). q.first) is.slot ∙ first,
    );
    spare_fresh = place.spare_fresh;
    alive = alive;
  }

  -- who sat beside it sits there, and as many may sit there as before
  pub entered_who : KeepsAllElse b r → who_is r.tenant ≡ Some (record { share = conn.share; number = conn.number })
  entered_who all_else = all_else.who ∙ ap (λ (q : SlotParts). who_is q.tenant) is.slot

  pub entered_tenants : (spare : Option SlotParts) → KeepsAllElse b r → tenants_by spare r ≡ tenants_by spare s
  entered_tenants None all_else =
      ap (λ (n : ℕ). GREATEST_TENANCY - n) (ap (λ (q : SlotParts). q.tenancy) all_else.same ∙ ap (λ (q : SlotParts). q.tenancy) is.slot)
  entered_tenants (Some spare) all_else =
      ap (λ (n : ℕ). GREATEST_TENANCY - n + GREATEST_TENANCY) (ap (λ (q : SlotParts). q.tenancy) all_else.same ∙ ap (λ (q : SlotParts). q.tenancy) is.slot)

  -- one more sits there
  pub entered_visits : KeepsAllElse b r → is_some s.tenant ≡ false → visits_of r ≡ visits_of s + 1
  entered_visits all_else nobody =
      omega (
        arith,
        ap (λ (q : SlotParts). q.tenancy) all_else.same,
        ap (λ (q : SlotParts). q.tenancy) is.slot,
        ap {B = ℕ} (λ (v : Bool). cond v 1 0) (seated_still b r (ap (λ (q : SlotParts). is_some q.tenant) is.slot) all_else),
        ap {B = ℕ} (λ (v : Bool). cond v 1 0) nobody,
      )

-- ---- room is left

-- a head less is left, and a chart and a tenancy may be gone
pub room_less : (before now : PlaceParts) → length now.live.charts ≤ length before.live.charts + 1 → now.chart_room ≡ before.chart_room → before.tenants_left ≤ now.tenants_left + 1
    → work_of now.live.line < work_of before.live.line → HasRoom 0 before → HasRoom 0 now
room_less before now charts room left less has = record {
  charts = omega (arith, has.charts, less, charts, room);
  tenants = omega (arith, has.tenants, less, left);
}

-- ---- all of it

pub record Enters (rules : List Rule) (limits : Limits) (s r : SlotParts) (spare : Option SlotParts) (idle after : Option Idle) (charts : List (List ChartItem)) (room : ℕ) (conn : Conn) : Type 0 where
  pub place : IsPlace limits r spare after charts room
  pub takes : SettlesOne rules (live_of limits s idle charts) (live_of limits r after charts)
  pub uncalled : r.processor.progress.chart ≡ []
  pub less : work_of (line_at after r) < work_of (line_at idle s)
  pub at : (line_at after r).moment ≡ (line_at idle s).moment
  pub who : who_at after r ≡ Some (record { share = conn.share; number = conn.number })
  pub tenants : tenants_by spare r ≡ tenants_by spare s
  pub visits : visits_of r ≡ visits_of s + 1
  pub nobody : is_some s.tenant ≡ false

idle_fresh : (idle : Option Idle) (i : Idle) (limits : Limits) (s : SlotParts) → idle ≡ Some i → IsSeated idle limits s → s.processor ≡ fresh_processor limits
idle_fresh None i limits s is seated = cc
idle_fresh (Some k) i limits s is seated = ap (λ (q : SlotParts). q.processor) seated

idle_empty : (idle : Option Idle) (i : Idle) (limits : Limits) (s : SlotParts) → idle ≡ Some i → IsSeated idle limits s → IsEmpty limits s
idle_empty None i limits s is seated = cc
idle_empty (Some k) i limits s is seated = seated

pub enters : (rules : List Rule) (limits : Limits) (s b r : SlotParts) (spare : Option SlotParts) (idle after : Option Idle) (i : Idle) (charts : List (List ChartItem)) (room : ℕ) (conn : Conn) (tenancy : ℕ) (answer : Bound)
    → idle ≡ Some i → i.line ≡ conn.line → after ≡ None → IsPlace limits s spare idle charts room
    → answer ≡ bound_by conn s → answer ≡ bound.Bound tenancy → b ≡ after_bind conn s → is_due limits (line_at idle s) ≡ true
    → (may_open tenancy b ≡ true → TakesUpEach rules (line_in b) b.processor (line_in r) r.processor)
    → (may_open tenancy b ≡ true → is_free_at r.processor.stage ≡ false)
    → (may_open tenancy b ≡ true → r.processor.progress.chart ≡ [])
    → (may_open tenancy b ≡ true → work_of (line_in r) < work_of (line_in b))
    → (line_in r).moment ≡ (line_in b).moment → KeepsAllElse b r
    → Enters rules limits s r spare idle after charts room conn
enters rules limits s b r spare idle after i charts room conn tenancy answer is same none place answered bound_now parts due takes opened uncalled less moment all_else =
    let w = is_bound s b conn tenancy answer answered bound_now parts in
    let fresh = idle_fresh idle i limits s is place.seated in
    let empty = idle_empty idle i limits s is place.seated in
    let nobody : is_some s.tenant ≡ false = ap (λ (q : SlotParts). is_some q.tenant) empty in
    let line : line_at idle s ≡ conn.line = ap (λ (o : Option Idle). line_at o s) is ∙ same in
    let may = may_open_bound limits s b r conn tenancy w fresh (ap (is_due limits) (sym line) ∙ due) in
    let one = opens limits s b r conn tenancy w fresh rules idle after charts line none (takes may) moment all_else in
    let sits : line_in b ≡ line_at idle s = ap line_in w.slot ∙ sym line in
    let now : line_at after r ≡ line_in r = ap (λ (o : Option Idle). line_at o r) none in
    record {
      place = entered_place limits s b r conn tenancy w fresh spare idle after charts room none (ap (λ (q : SlotParts). q.first) empty) place all_else (opened may) (_, (one place.alive.0 place.alive.1).lives);
      takes = one;
      uncalled = uncalled may;
      less = omega (arith, less may, ap work_of sits, ap work_of now);
      at = ap (λ (l : LineParts). l.moment) now ∙ moment ∙ ap (λ (l : LineParts). l.moment) sits;
      who = ap (λ (o : Option Idle). who_at o r) none ∙ entered_who limits s b r conn tenancy w fresh all_else;
      tenants = entered_tenants limits s b r conn tenancy w fresh spare all_else;
      visits = entered_visits limits s b r conn tenancy w fresh all_else nobody;
      nobody = nobody;
    }
