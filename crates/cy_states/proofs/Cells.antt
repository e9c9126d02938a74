-- Every cell of the state table keeps its rules: the checker computes all 130.
use Rattle.std.proofs.Common.{◌≡◌, Bool, true, ◌&&◌, refl}
use Rattle.cy_event.specs.declared.steps.Call.{Call}
use Rattle.cy_event.specs.declared.steps.Call.TheVariants as call
use Rattle.cy_event.specs.declared.steps.State.{State}
use Rattle.cy_event.specs.declared.steps.State.TheVariants as state
use Rattle.cy_states.specs.Rules.{completes, ends_rightly, is_kept, keeps_rules, stays_completed, waits_for_callback}

-- a call of each state makes the last case all cells of that state
pub each_cell : (s : State) (k : Call) → keeps_rules s k ≡ true
each_cell state.Dispatched call.Start = refl
each_cell state.Starting call.Start = refl
each_cell state.Started call.Start = refl
each_cell state.ReadWriteOp call.Start = refl
each_cell state.MustComplete call.Start = refl
each_cell state.CompletePending call.Start = refl
each_cell state.Completing call.Start = refl
each_cell state.TimingOut call.Start = refl
each_cell state.MustDispatch call.Start = refl
each_cell state.DispatchPending call.Start = refl
each_cell state.Dispatching call.Start = refl
each_cell state.MustError call.Start = refl
each_cell state.Error call.Start = refl
each_cell s k = refl

-- ---- each rule by itself

record Kept (a b c d e : Bool) : Type 0 where
  pub ends : a ≡ true
  pub completes : b ≡ true
  pub stays : c ≡ true
  pub kept : d ≡ true
  pub waits : e ≡ true

all_five : (a b c d e : Bool) → (a && b && c && d && e) ≡ true → Kept a b c d e
all_five true true true true true h = record { ends = refl; completes = refl; stays = refl; kept = refl; waits = refl }
all_five a b c d e h = cc

abbrev rules_of : (s : State) (k : Call) → Kept (ends_rightly s k) (completes s k) (stays_completed s k) (is_kept s k) (waits_for_callback s k)
rules_of s k = all_five (ends_rightly s k) (completes s k) (stays_completed s k) (is_kept s k) (waits_for_callback s k) (each_cell s k)

pub cell_ends_rightly : (s : State) (k : Call) → ends_rightly s k ≡ true
cell_ends_rightly s k = (rules_of s k).ends

pub cell_completes : (s : State) (k : Call) → completes s k ≡ true
cell_completes s k = (rules_of s k).completes

pub cell_stays_completed : (s : State) (k : Call) → stays_completed s k ≡ true
cell_stays_completed s k = (rules_of s k).stays

pub cell_is_kept : (s : State) (k : Call) → is_kept s k ≡ true
cell_is_kept s k = (rules_of s k).kept

pub cell_waits_for_callback : (s : State) (k : Call) → waits_for_callback s k ≡ true
cell_waits_for_callback s k = (rules_of s k).waits
