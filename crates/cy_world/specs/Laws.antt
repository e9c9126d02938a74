-- Laws of a connector. Each is the contract of a public function without a body.
use Rattle.std.specs.Prelude.{◌≡◌, ◌≢◌, ◌≤◌, ◌<◌, ◌↔◌, ℕ, Bool, true, false, not, ◌&&◌, ◌==◌, List, [], ◌∷◌, ◌++◌, slice_get, Some, is_some, unwrap_or, if◌then◌else◌}
use Rattle.std.specs.Option.{option_flatten}
use Rattle.cy_event.specs.declared.limits.Limits.{Limits}
use Rattle.cy_event.specs.declared.steps.Reply.TheVariants as reply
use Rattle.cy_event.specs.declared.steps.Step.{Step}
use Rattle.cy_event.specs.declared.steps.Step.TheVariants as step
use Rattle.cy_latch.specs.Numbers.{is_out}
use Rattle.cy_map.specs.declared.rule.Rule.{Rule}
use Rattle.cy_model.specs.Connections.{Kind, admission, clock, connections, counted, kind_of, own, own_entries, replies}
use Rattle.cy_model.specs.Entries.{Entry, tick, ended_count, reply_to, trace_of}
use Rattle.cy_model.specs.Folds.{cause_of, charts, is_open}
use Rattle.cy_model.specs.Marks.{Trace}
use Rattle.cy_model.specs.Outputs.{output, took}
use Rattle.cy_model.specs.Replies.{Replied, plain}
use Rattle.cy_model.specs.Steps.{IsValid}
use Rattle.cy_proc.specs.ProcessorAnswers.{Serves}
use Rattle.cy_slot.specs.Reaching.{Who, who_is}
use Rattle.cy_slot.specs.Slots.{SlotParts, line_in}
use Rattle.cy_world.specs.Answered.{IsVacant, SeatParts}
use Rattle.cy_world.specs.Counts.{AddUp}
use Rattle.cy_world.specs.Places.{IsEmpty}
use Rattle.cy_world.specs.Reporting.{text_of}
use Rattle.cy_world.specs.Told.{IsHeldFor, SitsIn, is_clock, request_count, slot_at, told_of}
use Rattle.cy_world.specs.Worlds.{CanTake, IsOwnOf, StandsFor, TakesStep, WorldParts, find_in}
use Rattle.cy_world.specs.declared.world.Admitted.TheVariants.{Seated}

-- ---- own steps decide

-- the connection of this number was admitted by one of these steps
abbrev pub is_in : Limits → List Rule → ℕ → List Step → Bool
is_in limits rules c w = is_some (own_entries limits rules w c)

-- The step is one of the connection: by it the connection is admitted, or it is for the number once it was. A step of
-- the clock is nobody's.
abbrev pub is_step_of : ℕ → Kind → Bool → Bool → Bool
is_step_of c (clock t) before now = false
is_step_of c (admission d) before now = not before && now
is_step_of c (own d e) before now = before && (d == c)

-- which of the steps are of the connection of this number, the first first
abbrev pub own_steps : Limits → List Rule → ℕ → List Step → List Bool
own_steps limits rules c [] = []
own_steps limits rules c (s ∷ w) =
    own_steps limits rules c w ++ is_step_of c (kind_of s) (is_in limits rules c w) (is_in limits rules c (s ∷ w)) ∷ []

-- those that are marked
abbrev pub marked : List Bool → List Replied → List Replied
marked [] rs = []
marked (v ∷ vs) [] = []
marked (v ∷ vs) (r ∷ rs) = let rest = marked vs rs in if v then r ∷ rest else rest

-- of the replies to all steps those to the connection of this number, from its admission on, the first first
abbrev pub replies_to : Limits → List Rule → ℕ → List Step → List Replied
replies_to limits rules c w = marked (own_steps limits rules c w) (replies limits rules w)

-- What an entry is answered after those before it. A tick has no reply of its own: it is no step of the connection.
abbrev pub reply_alone : Limits → List Rule → ℕ → List (ℕ × Entry) → Entry → List Replied
reply_alone limits rules t before tick = []
reply_alone limits rules t before e = reply_to limits rules t (trace_of limits rules before) e ∷ []

-- what these entries, the newest first, are answered when there is nothing else, the first first
abbrev pub replies_alone : Limits → List Rule → List (ℕ × Entry) → List Replied
replies_alone limits rules [] = []
replies_alone limits rules ((t, e) ∷ before) = replies_alone limits rules before ++ reply_alone limits rules t before e

-- the replies to a connection are those to its own entries, whatever else stands in the list of steps
abbrev pub RepliesAreOwn : Type 0
RepliesAreOwn =
    (limits : Limits) (rules : List Rule) (w : List Step) (c : ℕ)
    → replies_to limits rules c w ≡ replies_alone limits rules (unwrap_or (own_entries limits rules w c) [])

-- in two lists of steps a connection has the same own entries
abbrev pub HasSameEntries : WorldParts → List Step → WorldParts → List Step → ℕ → Type 0
HasSameEntries p v q w c = own_entries p.terms.limits p.terms.rules v c ≡ own_entries q.terms.limits q.terms.rules w c

-- What is told is the same: a value that is right of one connector, for all steps that this stands for, is the value
-- that is right of the other.
abbrev pub TellAlike : {X : Type 0} → (WorldParts → List Step → X) → WorldParts → WorldParts → Type 0
TellAlike {X} told p q =
    (a b : X) → ((u : List Step) → StandsFor u p → a ≡ told p u) → ((u : List Step) → StandsFor u q → b ≡ told q u) → a ≡ b

-- two connectors answered a connection alike, and tell the same of it, each function by its contract
pub record AreToldAlike (p : WorldParts) (v : List Step) (q : WorldParts) (w : List Step) (c : ℕ) : Type 0 where
  pub replies : replies_to p.terms.limits p.terms.rules c v ≡ replies_to q.terms.limits q.terms.rules c w
  pub out : TellAlike (λ r u. told_of output r u c) p q
  pub took : TellAlike (λ r u. told_of took r u c) p q
  pub cause : TellAlike (λ r u. option_flatten (told_of cause_of r u c)) p q
  pub requests : TellAlike (λ r u. unwrap_or (told_of request_count r u c) 0) p q
  pub ended : TellAlike (λ r u. unwrap_or (told_of ended_count r u c) 0) p q
  pub charts : TellAlike (λ r u. told_of charts r u c) p q
  pub lines : TellAlike (λ r u. text_of r u c) p q

-- whatever else the steps of two connectors are: where a connection has the same own entries, they are alike to it
abbrev pub OwnStepsDecide : Type 0
OwnStepsDecide =
    (v w : List Step) (p q : WorldParts) (c : ℕ) → StandsFor v p → StandsFor w q → p.terms ≡ q.terms
    → HasSameEntries p v q w c → AreToldAlike p v q w c

-- ---- counts

abbrev pub counted_in : WorldParts → List Step → ℕ
counted_in p w = counted p.terms.limits p.terms.rules (connections p.terms.limits p.terms.rules w)

-- a place that is held for nobody, and stands for a connection to which nothing has happened
pub record HasFreePlace (p : WorldParts) : Type 0 where
  pub number : ℕ
  pub below : number < p.terms.limits.max_connections
  pub seat : SeatParts
  pub there : slice_get p.seats number ≡ Some seat
  pub vacant : IsVacant p.terms.limits seat

-- an admission is answered with this, and leaves this connector
pub record AdmitsByCount (w : List Step) (c : ℕ) (p : WorldParts) (r : Replied) (q : WorldParts) : Type 0 where
  pub full : (r ≡ plain (reply.Full p.terms.limits.max_connections)) ↔ (counted_in p w ≡ p.terms.limits.max_connections)
  pub entered : (r ≡ plain reply.Entered) ↔ (counted_in p w < p.terms.limits.max_connections)
  pub booked : r ≡ plain reply.Entered → is_some (find_in c q.book) ≡ true

pub record KeepsCount (w : List Step) (p : WorldParts) : Type 0 where
  pub within : counted_in p w ≤ p.terms.limits.max_connections
  pub free : counted_in p w < p.terms.limits.max_connections → HasFreePlace p
  pub admits : (c : ℕ) (r : Replied) (q : WorldParts) → CanTake (step.Admit c) p → TakesStep w (step.Admit c) p r q → q.terms ≡ p.terms
      → AdmitsByCount w c p r q

abbrev pub CountedNeverExceed : Type 0
CountedNeverExceed = (w : List Step) (p : WorldParts) → StandsFor w p → KeepsCount w p

-- ---- places

pub record SitApart (p : WorldParts) : Type 0 where
  -- the place of a connection is held for it
  pub held : (c i : ℕ) → find_in c p.book ≡ Some (Seated i) → IsHeldFor (record { share = i; number = c }) i p
  -- two connections have two places
  pub places : (c d i j : ℕ) → find_in c p.book ≡ Some (Seated i) → find_in d p.book ≡ Some (Seated j) → c ≢ d → i ≢ j
  -- a place is held under the share of its number, which is out
  pub share : (who : Who) (i : ℕ) → IsHeldFor who i p → (who.share ≡ i) × (is_out p.latch i ≡ true) × (i < p.terms.limits.max_connections)
  -- and for a connection that the book has with this place
  pub booked : (who : Who) (i : ℕ) → IsHeldFor who i p → find_in who.number p.book ≡ Some (Seated i)
  -- a connection sits in the slot of its place
  pub seated : (c i : ℕ) → SitsIn c i p → find_in c p.book ≡ Some (Seated i)
  -- two connections sit in two slots
  pub slots : (c d i j : ℕ) → SitsIn c i p → SitsIn d j p → c ≢ d → i ≢ j

abbrev pub TwoSitInTwoSlots : Type 0
TwoSitInTwoSlots = (w : List Step) (p : WorldParts) → StandsFor w p → SitApart p

-- ---- what a slot holds

-- The connection sits in a slot: its line and its request there stand for what happened to it.
pub record IsServedIn (T : Trace) (c : ℕ) (p : WorldParts) : Type 0 where
  pub number : ℕ
  pub slot : SlotParts
  pub there : slot_at number p ≡ Some slot
  pub sits : who_is slot.tenant ≡ Some (record { share = number; number = c })
  pub serves : Serves T (line_in slot) slot.processor

pub record HoldOpenRequests (w : List Step) (p : WorldParts) : Type 0 where
  -- a connection sits in a slot while a request of it is open
  pub served : (c : ℕ) (entries : List (ℕ × Entry)) → own_entries p.terms.limits p.terms.rules w c ≡ Some entries
      → is_open (trace_of p.terms.limits p.terms.rules entries) ≡ true → IsServedIn (trace_of p.terms.limits p.terms.rules entries) c p
  -- and at no other time
  pub only : (c i : ℕ) → SitsIn c i p → told_of is_open p w c ≡ Some true
  -- a slot in which nobody sits is as one that nobody has used, but for the number of the next tenant
  pub empty : (i : ℕ) (slot : SlotParts) → slot_at i p ≡ Some slot → is_some slot.tenant ≡ false → IsEmpty slot.processor.limits slot
  -- the tenants of each slot are numbered from 0
  pub first : (i : ℕ) (slot : SlotParts) → slot_at i p ≡ Some slot → slot.first ≡ 0

abbrev pub SlotsHoldOpenRequests : Type 0
SlotsHoldOpenRequests = (w : List Step) (p : WorldParts) → StandsFor w p → HoldOpenRequests w p

-- In all slots together as many tenants left as requests have ended and heads were refused, on all connections.
abbrev pub TenanciesAddUp : Type 0
TenanciesAddUp =
    (w : List Step) (p : WorldParts) → StandsFor w p → AddUp p.terms p.seats (connections p.terms.limits p.terms.rules w)

-- ---- steps

-- what may follow the steps so far can be taken, but that there is no clock
abbrev pub ValidStepsCanBeTaken : Type 0
ValidStepsCanBeTaken =
    (w : List Step) (s : Step) (p : WorldParts) → StandsFor w p → IsValid (s ∷ w) → is_clock s ≡ false → CanTake s p

-- ---- slots

-- a connector takes these steps, the first first, each as the contract of `step` says, and leaves this one
abbrev pub TakesAll : List Step → WorldParts → List Replied → WorldParts → Type 0
TakesAll [] p [] q = p ≡ q
TakesAll [] p (r ∷ rs) q = ⊥
TakesAll (s ∷ u) p [] q = ⊥
TakesAll (s ∷ u) p (r ∷ rs) q =
    (next : WorldParts) × ((w : List Step) → StandsFor w p → TakesStep w s p r next) × (next.terms ≡ p.terms) × TakesAll u next rs q

-- further steps, the first first, after those of a list, the newest first
abbrev pub and_then : List Step → List Step → List Step
and_then w [] = w
and_then w (s ∷ u) = and_then (s ∷ w) u

-- the same replies, and both stand for the same steps again
pub record GoOnAlike (w : List Step) (p : WorldParts) (rs : List Replied) (q : WorldParts) (others : List Replied) : Type 0 where
  pub replies : rs ≡ others
  pub one : StandsFor w p
  pub other : StandsFor w q
  pub terms : p.terms ≡ q.terms

-- Two connectors that stand for the same steps answer all further steps alike, whichever places their connections have,
-- and whoever sat in their slots before.
abbrev pub SlotsStandInNoReply : Type 0
SlotsStandInNoReply =
    (w u : List Step) (p q p_last q_last : WorldParts) (rs others : List Replied)
    → StandsFor w p → StandsFor w q → p.terms ≡ q.terms → TakesAll u p rs p_last → TakesAll u q others q_last
    → GoOnAlike (and_then w u) p_last rs q_last others

-- these steps are entries of the connection of this number
abbrev pub AreOwnOf : ℕ → List Step → Type 0
AreOwnOf c [] = Unit {0}
AreOwnOf c (s ∷ u) = IsOwnOf c s × AreOwnOf c u

-- Two connectors to which a connection has told the same answer all its further steps alike, whatever else they did: in
-- one it may be the first tenant of its slot, and in the other one of many.
abbrev pub RecycledSlotsAnswerAsFresh : Type 0
RecycledSlotsAnswerAsFresh =
    (v w u : List Step) (c : ℕ) (p q p_last q_last : WorldParts) (rs others : List Replied)
    → StandsFor v p → StandsFor w q → p.terms ≡ q.terms → HasSameEntries p v q w c
    → AreOwnOf c u → TakesAll u p rs p_last → TakesAll u q others q_last → rs ≡ others
