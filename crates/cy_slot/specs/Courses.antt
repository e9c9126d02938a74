-- What a tenant's calls are answered, which doesn't depend on who sat in the slot before him. The newest comes first.
use Rattle.std.specs.Prelude.{◌≡◌, ◌<◌, ℕ, ◌+◌, max, Bool, true, false, not, if◌then◌else◌, List, [], ◌∷◌}
use Rattle.cy_event.specs.declared.steps.Act.{Act}
use Rattle.cy_event.specs.declared.steps.Event.{Event}
use Rattle.cy_event.specs.declared.steps.Reply.{Reply}
use Rattle.cy_event.specs.declared.steps.Reply.TheVariants as reply
use Rattle.cy_map.specs.declared.rule.Rule.{Rule}
use Rattle.cy_model.specs.Marks.{Trace}
use Rattle.cy_proc.specs.Lines.{Represents}
use Rattle.cy_proc.specs.ProcessorAnswers.{AnswersEachAct, AnswersEachEvent, AnswersEachTurn, TakesUpEach, is_ended}
use Rattle.cy_proc.specs.Processors.{IsIdle, is_free_at, request_folds}
use Rattle.cy_slot.specs.declared.conn.Conn.{Conn}
use Rattle.cy_slot.specs.declared.slot.TheConstants.{GREATEST_TENANCY}
use Rattle.cy_slot.specs.Slots.{SlotParts, fresh_slot, line_in, released, with_state}
use Rattle.cy_slot.specs.Reaching.{KeepsAllElse, after_bind, lent_by, may_open, open_reply, reaches}

-- a call for the tenant who sits there: `open`, `event`, `run`, `act` or `keep`, with what is handed in
pub data OwnCall : Type 0 where
  opening : List Rule → OwnCall
  told : ℕ → Event → List ℕ → OwnCall
  turned : ℕ → OwnCall
  acted : ℕ → Act → List ℕ → OwnCall
  kept : List ℕ → OwnCall

-- ---- the calls, in the words of their contracts

pub record IsOpening (may : Bool) (rules : List Rule) (r : Reply) (old new : SlotParts) : Type 0 where
  pub answer : r ≡ open_reply old.tenancy old
  pub others : may ≡ false → new ≡ old
  pub takes : may ≡ true → TakesUpEach rules (line_in old) old.processor (line_in new) new.processor
  pub opened : may ≡ true → is_free_at new.processor.stage ≡ false
  pub moment : (line_in new).moment ≡ (line_in old).moment
  pub all_else : KeepsAllElse old new

pub record IsStep (reached : Bool) (at : ℕ) (r : Reply) (old new : SlotParts) : Type 0 where
  pub ended : is_ended r ≡ not reached
  pub others : reached ≡ false → new ≡ old
  pub moment : reached ≡ true → (line_in new).moment ≡ max (line_in old).moment at
  pub opened : reached ≡ true → is_free_at new.processor.stage ≡ false
  pub all_else : KeepsAllElse old new

-- `keep` says whether it kept the bytes; where it didn't, the request isn't open
abbrev pub kept_reply : Bool → Reply
kept_reply took = if took then reply.Done else reply.Ended

abbrev pub IsCalled : SlotParts → OwnCall → Reply → SlotParts → Type 0
IsCalled old (opening rules) r new = IsOpening (may_open old.tenancy old) rules r old new
IsCalled old (told at e b) r new =
    IsStep (reaches old.tenancy old) at r old new
    × (reaches old.tenancy old ≡ true → AnswersEachEvent e b (line_in old) old.processor r (line_in new) new.processor)
IsCalled old (turned at) r new =
    IsStep (reaches old.tenancy old) at r old new
    × (reaches old.tenancy old ≡ true → AnswersEachTurn (line_in old) old.processor r (line_in new) new.processor)
IsCalled old (acted at a b) r new =
    (into : List ℕ) × IsStep (reaches old.tenancy old) at r old new
    × (reaches old.tenancy old ≡ true → AnswersEachAct a b (line_in old) old.processor r into (line_in new) new.processor)
IsCalled old (kept b) r new =
    (r ≡ kept_reply (reaches old.tenancy old))
    × (new ≡ with_state (lent_by (reaches old.tenancy old) b old.state) old)

-- these calls, with these replies, leave this of a slot
abbrev pub IsCourse : SlotParts → List OwnCall → List Reply → SlotParts → Type 0
IsCourse start [] [] slot = slot ≡ start
IsCourse start [] (r ∷ rs) slot = ⊥
IsCourse start (c ∷ cs) [] slot = ⊥
IsCourse start (c ∷ cs) (r ∷ rs) slot = (old : SlotParts) × IsCourse start cs rs old × IsCalled old c r slot

-- ---- the law

-- they differ in the numbers of their tenants alone
abbrev pub AreTwins : SlotParts → SlotParts → Type 0
AreTwins a b = a ≡ record b { tenancy = a.tenancy; first = a.first }

-- what a tenant is answered and what is left of it is the same in a slot that was used and released as in a new one
abbrev pub SlotForgets : Type 0
SlotForgets =
    (used : SlotParts) (first : ℕ) (conn : Conn) (T : Trace) (calls : List OwnCall) (rs qs : List Reply) (a b : SlotParts)
    → used.tenancy + 1 < GREATEST_TENANCY → first < GREATEST_TENANCY
    → Represents T conn.line → IsIdle (request_folds T)
    → IsCourse (after_bind conn (released used)) calls rs a
    → IsCourse (after_bind conn (fresh_slot used.processor.limits first)) calls qs b
    → (rs ≡ qs) × AreTwins a b
