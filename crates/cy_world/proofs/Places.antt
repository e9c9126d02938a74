-- What a place keeps goes on standing for what has happened, in the slot or beside it.
use Rattle.std.proofs.Common.{◌≡◌, ◌≤◌, ℕ, ◌+◌, ◌-◌, ◌*◌, true, false, not, ◌&&◌, ◌==◌, List, [], length, max, leb, Option, Some, None, is_none, is_some, refl, sym, ap, ◌∙◌, subst, arith, length-append, length-drop, ◌||◌, take, if◌then◌else◌}
use Rattle.std.proofs.lemmas.Bool.{and_left, and_parts, and_right, eq-eqb}
use Rattle.std.proofs.lemmas.List.{length-take}
use Rattle.cy_event.specs.declared.limits.Limits.{Limits}
use Rattle.cy_event.specs.declared.steps.Act.{Act}
use Rattle.cy_event.specs.declared.steps.CloseCause.{CloseCause}
use Rattle.cy_event.specs.declared.steps.Event.{Event}
use Rattle.cy_event.specs.declared.steps.Event.TheVariants as event
use Rattle.cy_event.specs.declared.steps.Reply.{Reply}
use Rattle.cy_event.specs.declared.table.ChartItem.{ChartItem}
use Rattle.cy_map.specs.declared.rule.Rule.{Rule}
use Rattle.cy_model.specs.Entries.{callback_reply, reply_to_event, rested_callback, rested_event}
use Rattle.cy_model.specs.Marks.{Trace}
use Rattle.cy_model.specs.Replies.{plain, replied_in}
use Rattle.cy_model.specs.Settling.{begin_bound, is_awaited, rested, settled}
use Rattle.cy_proc.specs.LineAnswers.{AnswersEachEvent as LineAnswersEachEvent, RestsEach as LineRestsEach}
use Rattle.cy_in.specs.Intakes.{after_swallow, is_whole, taken_by}
use Rattle.cy_proc.specs.LineChanges.{after_event, after_rest, after_told, cause_at_rest, causes_left, front_at, gone_on, is_closed_line, is_due, is_gone_line, may_begin_line, passed_line, room_of, scanned_line, standing_of, with_more, work_of}
use Rattle.cy_proc.specs.Lines.{LineParts}
use Rattle.cy_proc.specs.ProcessorAnswers.{AnswersEachAct, AnswersEachEvent, AnswersEachTurn}
use Rattle.cy_proc.specs.Processors.{is_free_at, is_open_at, is_over_at}
use Rattle.cy_proc.specs.declared.line.Standing.TheVariants as standing
use Rattle.cy_proc.specs.declared.processor.Stage.{Stage}
use Rattle.cy_proc.specs.declared.processor.Stage.TheVariants as stage
use Rattle.cy_rings.specs.declared.kit.TheConstants.{IN_CAPACITY}
use Rattle.cy_slot.specs.Reaching.{KeepsAllElse, reaches, who_is}
use Rattle.cy_slot.specs.Slots.{SlotParts, line_in}
use Rattle.cy_slot.specs.declared.conn.Conn.{Conn}
use Rattle.cy_slot.specs.declared.slot.TheConstants.{GREATEST_TENANCY}
use Rattle.cy_world.specs.Lives.{AnswersLive, KeepsEach, SettlesEach}
use Rattle.cy_world.specs.Places.{HasRoom, IsAlive, IsPlace, IsSeated, LiveParts, Lives, PlaceParts, line_at, stands_due, taken_at_most, tenants_by}
use Rattle.cy_world.specs.declared.place.Idle.{Idle}
use Rattle.cy_world.proofs.Lives.{AnswersTurn, act_alive, act_told, rested_lives, served_event, told_lives, turn_alive, turn_lives}

abbrev pub live_of : Limits → SlotParts → Option Idle → List (List ChartItem) → LiveParts
live_of limits slot idle charts = record { limits = limits; line = line_at idle slot; processor = slot.processor; charts = charts }

-- ---- who sits in the slot is reached

-- an opened slot whose request isn't over has an open request
pub open_by : (st : Stage) → is_free_at st ≡ false → is_over_at st ≡ false → is_open_at st ≡ true
open_by stage.Free taken kept = cc
open_by stage.Owed taken kept = refl
open_by stage.Serving taken kept = refl
open_by stage.Over taken kept = cc
open_by stage.Refused taken kept = cc

pub seated_open : (idle : Option Idle) (limits : Limits) (s : SlotParts) → idle ≡ None → IsSeated idle limits s → is_over_at s.processor.stage ≡ false → is_open_at s.processor.stage ≡ true
seated_open None limits s none seated kept = open_by s.processor.stage seated.1 kept
seated_open (Some i) limits s none seated kept = cc

pub seated_reaches : (idle : Option Idle) (limits : Limits) (s : SlotParts) (tenancy : ℕ) → idle ≡ None → IsSeated idle limits s → is_over_at s.processor.stage ≡ false → tenancy ≡ s.tenancy → reaches tenancy s ≡ true
seated_reaches None limits s tenancy none seated kept same =
    let equal : (s.tenancy == tenancy) ≡ true = eq-eqb s.tenancy tenancy (sym same) in
    let open_now = open_by s.processor.stage seated.1 kept in
    λ k. seated.0 k && equal k && open_now k
seated_reaches (Some i) limits s tenancy none seated kept same = cc

-- who sits there sits there still
pub some_who : (t : Option Conn) → is_some (who_is t) ≡ is_some t
some_who None = refl
some_who (Some conn) = refl

pub seated_still : (s r : SlotParts) → is_some s.tenant ≡ true → KeepsAllElse s r → is_some r.tenant ≡ true
seated_still s r there kept_else = sym (some_who r.tenant) ∙ ap is_some kept_else.who ∙ some_who s.tenant ∙ there

-- ---- events

pub seated_event : (limits : Limits) (s r : SlotParts) (idle after : Option Idle) (charts : List (List ChartItem)) (tenancy : ℕ) (e : Event) (b : List ℕ) (reply : Reply)
    → idle ≡ None → after ≡ None → IsSeated idle limits s → is_over_at s.processor.stage ≡ false → tenancy ≡ s.tenancy
    → (reaches tenancy s ≡ true → AnswersEachEvent e b (line_in s) s.processor reply (line_in r) r.processor)
    → (reaches tenancy s ≡ true → (line_in r).moment ≡ max (line_in s).moment 0)
    → KeepsAllElse s r → (T : Trace) → Lives T (live_of limits s idle charts)
    → AnswersLive (plain (reply_to_event T e b)) (rested_event limits (line_at idle s).moment T e b) (plain reply) (live_of limits r after charts)
seated_event limits s r None None charts tenancy e b reply none none_after seated kept same answers later kept_else T lives =
    let here = seated_reaches None limits s tenancy refl seated kept same in
    served_event e b reply T (live_of limits s None charts) (line_in r) r.processor kept lives (later here) kept_else.limits (answers here)
seated_event limits s r None (Some i) charts tenancy e b reply none none_after seated kept same answers later kept_else T lives = cc
seated_event limits s r (Some i) after charts tenancy e b reply none none_after seated kept same answers later kept_else T lives = cc

pub idle_event : (limits : Limits) (s : SlotParts) (idle : Option Idle) (i : Idle) (charts : List (List ChartItem)) (l : LineParts) (e : Event) (b : List ℕ) (reply : Reply)
    → idle ≡ Some i → l.moment ≡ max i.line.moment 0 → LineAnswersEachEvent limits l.moment e b i.line reply l
    → (T : Trace) → Lives T (live_of limits s idle charts)
    → AnswersLive (plain (reply_to_event T e b)) (rested_event limits (line_at idle s).moment T e b) (plain reply) (live_of limits s (Some (record { line = l; guest = i.guest })) charts)
idle_event limits s idle i charts l e b reply is later answers T lives =
    subst (λ (o : Option Idle). AnswersLive (plain (reply_to_event T e b)) (rested_event limits (line_at o s).moment T e b) (plain reply) (live_of limits s (Some (record { line = l; guest = i.guest })) charts)) (sym is)
    (told_lives e b reply T (live_of limits s (Some i) charts) l (subst (λ (o : Option Idle). Lives T (live_of limits s o charts)) is lives) later answers)

-- ---- resting

pub idle_rests : (limits : Limits) (s : SlotParts) (idle : Option Idle) (i : Idle) (charts : List (List ChartItem)) (l : LineParts) → idle ≡ Some i → LineRestsEach limits i.line.moment i.line l
    → (T : Trace) → Lives T (live_of limits s idle charts) → Lives (rested limits (line_at idle s).moment T) (live_of limits s (Some (record { line = l; guest = i.guest })) charts)
idle_rests limits s idle i charts l is rests T lives =
    subst (λ (o : Option Idle). Lives (rested limits (line_at o s).moment T) (live_of limits s (Some (record { line = l; guest = i.guest })) charts)) (sym is)
    (rested_lives T (live_of limits s (Some i) charts) l (subst (λ (o : Option Idle). Lives T (live_of limits s o charts)) is lives) rests)

-- ---- the invariant

-- the slot went on, and its tenant is there still
pub seated_place : (limits : Limits) (s r : SlotParts) (spare : Option SlotParts) (idle after : Option Idle) (charts now : List (List ChartItem)) (room room_now : ℕ)
    → idle ≡ None → after ≡ None → IsPlace limits s spare idle charts room → KeepsAllElse s r → is_free_at r.processor.stage ≡ false → IsAlive (live_of limits r after now)
    → IsPlace limits r spare after now room_now
seated_place limits s r spare None None charts now room room_now none none_after place kept_else taken alive = record {
  head_room = place.head_room;
  field_room = place.field_room;
  seated = (seated_still s r place.seated.0 kept_else, taken, ap (λ (q : SlotParts). q.first) kept_else.same ∙ place.seated.2);
  spare_fresh = place.spare_fresh;
  alive = alive;
}
seated_place limits s r spare None (Some i) charts now room room_now none none_after place kept_else taken alive = cc
seated_place limits s r spare (Some i) after charts now room room_now none none_after place kept_else taken alive = cc

-- the line beside the slot went on
pub idle_place : (limits : Limits) (s : SlotParts) (spare : Option SlotParts) (idle : Option Idle) (i j : Idle) (charts : List (List ChartItem)) (room : ℕ)
    → idle ≡ Some i → IsPlace limits s spare idle charts room → IsAlive (live_of limits s (Some j) charts) → IsPlace limits s spare (Some j) charts room
idle_place limits s spare None i j charts room is place alive = cc
idle_place limits s spare (Some k) i j charts room is place alive = record {
  head_room = place.head_room;
  field_room = place.field_room;
  seated = place.seated;
  spare_fresh = place.spare_fresh;
  alive = alive;
}

pub seated_taken : (idle : Option Idle) (limits : Limits) (s : SlotParts) → idle ≡ None → IsSeated idle limits s → is_free_at s.processor.stage ≡ false
seated_taken None limits s none seated = seated.1
seated_taken (Some i) limits s none seated = cc

-- ---- room

pub cause_at_most : (k : Option CloseCause) → causes_left k ≤ 1
cause_at_most None = omega arith
cause_at_most (Some k) = omega arith

pub work_at_rest : (limits : Limits) (l : LineParts) → work_of (after_rest limits l) ≤ work_of l
work_at_rest limits l =
    elim l.cause as (λ o. l.cause ≡ o → work_of (if is_none o then record l { cause = cause_at_rest limits l } else l) ≤ work_of l) [
      | None ↦ λ e. omega (arith, cause_at_most (cause_at_rest limits l), ap causes_left e)
      | Some k ↦ λ e. omega arith
    ] refl

-- what is passed over is left no more
gone_on_work : (l : LineParts) → work_of (gone_on l) ≤ work_of l
gone_on_work l =
    elim (l.is_open || l.begun == 0) as (λ v. work_of (if v then scanned_line l else passed_line l) ≤ work_of l) [
      | true ↦ omega arith
      | false ↦ omega (arith, length-drop (taken_by l.body (after_swallow l.body.max_trailer l.body l.unread)) l.unread)
    ]

work_of_event : (e : Event) (b : List ℕ) (l : LineParts) → work_of (after_event e b l) ≤ work_of l + length b
work_of_event event.In b l =
    let some = take (room_of l) b in
    omega (arith, gone_on_work (with_more some l), length-append l.unread some, length-take (room_of l) b)
work_of_event event.End b l = omega arith
work_of_event (event.Took n) b l = omega arith

-- what the socket tells leaves as much more to do as bytes came
pub told_work : (limits : Limits) (e : Event) (b : List ℕ) (l : LineParts) → work_of (after_told limits e b l) ≤ work_of l + length b
told_work limits e b l =
    elim (is_closed_line e l) as (λ v. work_of (if v then l else after_rest limits (after_event e b l)) ≤ work_of l + length b) [
      | true ↦ omega arith
      | false ↦ omega (arith, work_at_rest limits (after_event e b l), work_of_event e b l)
    ]

-- an entry that brought so many bytes leaves room for what they may lead to
pub event_room : (before now : PlaceParts) (n : ℕ) → now.live.charts ≡ before.live.charts → now.chart_room ≡ before.chart_room → now.tenants_left ≡ before.tenants_left
    → work_of now.live.line ≤ work_of before.live.line + taken_at_most n → HasRoom n before → HasRoom 0 now
event_room before now n charts room left work has = record {
  charts = omega (arith, has.charts, ap length charts, room, work);
  tenants = omega (arith, has.tenants, left, work);
}

-- so many charts and tenants were asked for, as many as there may be heads
pub asked_room : (before now : PlaceParts) (bytes free asked : ℕ) → now.live ≡ before.live → now.tenants_left ≡ before.tenants_left
    → length before.live.line.unread + free ≤ IN_CAPACITY → (IN_CAPACITY - free) + taken_at_most bytes + 3 ≤ asked
    → length before.live.charts + asked ≤ now.chart_room → 2 * IN_CAPACITY + 8 ≤ before.tenants_left → HasRoom bytes now
asked_room before now bytes free asked same left within enough charts tenants = record {
  charts = omega (
    arith,
    ap (λ (p : LiveParts). length p.charts) same,
    ap (λ (p : LiveParts). length p.line.unread) same,
    cause_at_most now.live.line.cause,
  );
  tenants = fits (work_of now.live.line) bytes now.tenants_left work (omega (arith, left, tenants));
}
  where
    work : work_of now.live.line ≤ IN_CAPACITY + 1
    work = omega (arith, ap (λ (p : LiveParts). length p.line.unread) same, cause_at_most now.live.line.cause)

    fits : (v m b : ℕ) → v ≤ IN_CAPACITY + 1 → 2 * IN_CAPACITY + 8 ≤ b → v + taken_at_most m + 2 ≤ b
    fits v m b bound enough = omega arith

-- ---- how a line stands

some_not_none : {X : Type 0} (o : Option X) → is_some o ≡ true → is_none o ≡ false
some_not_none None e = cc
some_not_none (Some x) e = refl

-- no head is due where there is a cause to close
cause_not_due : (limits : Limits) (l : LineParts) → is_some l.cause ≡ true → is_due limits l ≡ false
cause_not_due limits l e =
    let rest = is_whole l.body.scanned.stage && leb (length l.unsent) begin_bound in
    and_left (may_begin_line l) (not (is_awaited (front_at limits l)))
    (and_right (not l.is_open) (is_none l.cause && rest) (and_left (is_none l.cause) rest (some_not_none l.cause e)))

pub due_is : (limits : Limits) (l : LineParts) → stands_due (standing_of limits l) ≡ is_due limits l
due_is limits l =
    elim (is_gone_line l) as (λ v. is_gone_line l ≡ v → stands_due (if v then standing.Gone else if is_some l.cause then standing.Closing else if is_due limits l then standing.Due else standing.Waiting) ≡ is_due limits l) [
      | true ↦ λ gone. sym (cause_not_due limits l (and_parts (is_some l.cause) (not l.is_open && (length l.unsent == 0)) gone).0)
      | false ↦ λ gone.
          elim (is_some l.cause) as (λ v. is_some l.cause ≡ v → stands_due (if v then standing.Closing else if is_due limits l then standing.Due else standing.Waiting) ≡ is_due limits l) [
            | true ↦ λ k. sym (cause_not_due limits l k)
            | false ↦ λ k. elim (is_due limits l) as (λ v. stands_due (if v then standing.Due else standing.Waiting) ≡ v) [ true ↦ refl | false ↦ refl ]
          ] refl
    ] refl

-- beside the slot no request is open
pub idle_closed : (idle : Option Idle) (i : Idle) (limits : Limits) (s : SlotParts) → idle ≡ Some i → IsSeated idle limits s → is_open_at s.processor.stage ≡ false
idle_closed None i limits s is seated = cc
idle_closed (Some k) i limits s is seated = ap (λ (q : SlotParts). is_open_at q.processor.stage) seated

pub not_some : {X : Type 0} (o : Option X) → is_some o ≡ false → o ≡ None
not_some None e = refl
not_some (Some x) e = cc

pub some_closed : (idle : Option Idle) (limits : Limits) (s : SlotParts) → is_some idle ≡ true → IsSeated idle limits s → is_open_at s.processor.stage ≡ false
some_closed None limits s is seated = cc
some_closed (Some k) limits s is seated = ap (λ (q : SlotParts). is_open_at q.processor.stage) seated

open_not_free : (st : Stage) → is_open_at st ≡ true → is_free_at st ≡ false
open_not_free stage.Free o = cc
open_not_free stage.Owed o = refl
open_not_free stage.Serving o = refl
open_not_free stage.Over o = refl
open_not_free stage.Refused o = refl

-- ---- a worker's turn

module _ (limits : Limits) (s r : SlotParts) (charts : List (List ChartItem)) (tenancy : ℕ) (reply : Reply) (rest : KeepsAllElse s r) (same : tenancy ≡ s.tenancy) (kept : is_over_at s.processor.stage ≡ false) (later : reaches tenancy s ≡ true → (line_in r).moment ≡ max (line_in s).moment 0) where
  pub seated_turn : (rules : List Rule) (idle : Option Idle) (p : LiveParts) → idle ≡ None → IsSeated idle limits s → is_over_at p.processor.stage ≡ false → SettlesEach rules p (live_of limits s idle charts)
      → length charts ≡ length p.charts → limits ≡ p.limits → (line_at idle s).moment ≡ p.line.moment
      → (reaches tenancy s ≡ true → AnswersEachTurn (line_in s) s.processor reply (line_in r) r.processor)
      → (T : Trace) → Lives T p → AnswersTurn p T (settled p.limits rules p.line.moment T) reply (live_of limits r idle charts)
  seated_turn rules (Some i) p none seated kept_before settles equal same_limits same_moment answers T lives = cc
  seated_turn rules None p none seated kept_before settles equal same_limits same_moment answers T lives =
      let here = seated_reaches None limits s tenancy refl seated kept same in
      turn_lives rules reply T p (live_of limits s None charts) (line_in r) r.processor kept_before kept lives settles equal (open_by s.processor.stage seated.1 kept) same_limits same_moment
      (later here) rest.limits (answers here)

  pub turned_place : (spare : Option SlotParts) (idle : Option Idle) (room : ℕ) → idle ≡ None → IsPlace limits s spare idle charts room → is_open_at r.processor.stage ≡ is_open_at s.processor.stage
      → (reaches tenancy s ≡ true → AnswersEachTurn (line_in s) s.processor reply (line_in r) r.processor)
      → IsPlace limits r spare idle charts room
  turned_place spare (Some i) room none place stays answers = cc
  turned_place spare None room none place stays answers =
      let open_now = open_by s.processor.stage place.seated.1 kept in
      let here = seated_reaches None limits s tenancy refl place.seated kept same in
      seated_place limits s r spare None None charts charts room room refl refl place rest (open_not_free r.processor.stage (stays ∙ open_now))
      (turn_alive (live_of limits s None charts) reply (line_in r) r.processor place.alive open_now rest.limits (answers here))

  pub same_at : (idle : Option Idle) → idle ≡ None → IsSeated idle limits s → (line_at idle r).moment ≡ (line_at idle s).moment
  same_at (Some i) none seated = cc
  same_at None none seated = later (seated_reaches None limits s tenancy refl seated kept same) ∙ omega arith

-- ---- an act

-- a request that an act ended leaves its slot
pub record EndsAs (p mid : LiveParts) : Type 0 where
  pub lives : (T : Trace) → Lives T p → Lives T mid
  pub limits : mid.limits ≡ p.limits
  pub line : mid.line ≡ p.line

module _ (limits : Limits) (s r : SlotParts) (charts : List (List ChartItem)) (tenancy : ℕ) (a : Act) (b into : List ℕ) (reply : Reply) (rest : KeepsAllElse s r) (same : tenancy ≡ s.tenancy) (kept : is_over_at s.processor.stage ≡ false)
    (later : reaches tenancy s ≡ true → (line_in r).moment ≡ max (line_in s).moment 0)
    (answers : reaches tenancy s ≡ true → AnswersEachAct a b (line_in s) s.processor reply into (line_in r) r.processor) where
  pub acted_place : (spare : Option SlotParts) (idle : Option Idle) (room : ℕ) → idle ≡ None → IsPlace limits s spare idle charts room → (reaches tenancy s ≡ true → is_free_at r.processor.stage ≡ false) → IsPlace limits r spare idle charts room
  acted_place spare (Some i) room none place opened = cc
  acted_place spare None room none place opened =
      let here = seated_reaches None limits s tenancy refl place.seated kept same in
      seated_place limits s r spare None None charts charts room room refl refl place rest (opened here)
      (act_alive a b into (live_of limits s None charts) reply (line_in r) r.processor place.alive (open_by s.processor.stage place.seated.1 kept) rest.limits (answers here))

  pub acted : (idle : Option Idle) (new : LiveParts) → idle ≡ None → IsSeated idle limits s → EndsAs (live_of limits r idle charts) new → (T : Trace) → Lives T (live_of limits s idle charts)
      → AnswersLive (callback_reply limits T a) (rested_callback limits (line_at idle s).moment T a b) (replied_in reply into) new
  acted (Some i) new none seated ends T lives = cc
  acted None new none seated ends T lives =
      let here = seated_reaches None limits s tenancy refl seated kept same in
      let w = act_told a b into reply T (live_of limits s None charts) (line_in r) r.processor (open_by s.processor.stage seated.1 kept) lives (later here) rest.limits (answers here) in
      record { reply = w.reply; lives = ends.lives (rested_callback limits (line_in s).moment T a b) w.lives }

  pub acted_keeps : (idle : Option Idle) (new : LiveParts) → idle ≡ None → IsSeated idle limits s → EndsAs (live_of limits r idle charts) new → is_over_at new.processor.stage ≡ false
      → KeepsEach (live_of limits s idle charts) new
  acted_keeps (Some i) new none seated ends kept_now = cc
  acted_keeps None new none seated ends kept_now =
      let here = seated_reaches None limits s tenancy refl seated kept same in
      record {
        limits = ends.limits;
        moment = ap (λ (l : LineParts). l.moment) ends.line ∙ later here ∙ omega arith;
        kept = λ was. kept_now;
      }

-- no tenancy is gone while the tenant stays
pub same_tenants : (spare : Option SlotParts) (s r : SlotParts) → KeepsAllElse s r → tenants_by spare r ≡ tenants_by spare s
same_tenants None s r rest = ap (λ (q : SlotParts). GREATEST_TENANCY - q.tenancy) rest.same
same_tenants (Some spare) s r rest = ap (λ (q : SlotParts). GREATEST_TENANCY - q.tenancy + GREATEST_TENANCY) rest.same

-- the chart and the tenancy that an act may take were asked for
pub act_room : (before now : PlaceParts) → length now.live.charts ≤ length before.live.charts + 1 → now.chart_room ≡ before.chart_room → before.tenants_left ≤ now.tenants_left + 1
    → work_of now.live.line ≤ work_of before.live.line → HasRoom 1 before → HasRoom 0 now
act_room before now charts room left work has = record {
  charts = omega (arith, has.charts, work, charts, room);
  tenants = omega (arith, has.tenants, work, left);
}
