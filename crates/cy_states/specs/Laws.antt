-- Laws of the state table and of charts. Each is the contract of a public function without a body.
use Rattle.std.specs.Prelude.{◌≡◌, ◌≤◌, false, None, IsTrue, List, [], ◌∷◌, ◌++◌, All, length}
use Rattle.cy_event.specs.declared.steps.Call.{Call}
use Rattle.cy_event.specs.declared.steps.State.{State}
use Rattle.cy_event.specs.Charts.{chart_of, written_out, IsExact}
use Rattle.cy_event.specs.Table.{row, is_end, IsLegal, state_after, has_request_ended}
use Rattle.cy_states.specs.Progress.{Progress, IsLeftBy, after_call, fresh, with_accepted}
use Rattle.cy_states.specs.Rules.{is_coming_back, is_complete, is_completed, is_from_other, is_in_callback, keeps_rules, may_end}

-- every cell of the table keeps the rules
abbrev pub TableKeepsRules : Type 0
TableKeepsRules = (s : State) (k : Call) → IsTrue (keeps_rules s k)

-- a row that ends the request is that of a Return or a Fail in DISPATCHED, or of a Return in COMPLETING
abbrev pub OnlyReturnsEnd : Type 0
OnlyReturnsEnd = (s : State) (k : Call) → IsTrue (is_end (row s k)) → IsTrue (may_end s k)

-- after its end, no call is accepted in a request
abbrev pub NothingFollowsAnEnd : Type 0
NothingFollowsAnEnd = (ks js : List Call) → IsLegal (ks ++ js) → IsTrue (has_request_ended ks) → js ≡ []

-- what a complete decides, of the calls js that were accepted after it
pub record IsDecided (before js : List Call) : Type 0 where
  pub accepted : All (λ j. IsTrue (is_coming_back j)) js
  pub few : length js ≤ 2
  pub refused : (j : Call) → is_coming_back j ≡ false → row (state_after (before ++ js)) j ≡ None
  pub completed : IsTrue (is_completed (state_after (before ++ js)))

-- After an accepted complete of either kind at most two further calls are accepted in that request, each a Return or a
-- Fail; it stays completed, and every other call is refused.
abbrev pub CompleteDecides : Type 0
CompleteDecides = (ks js : List Call) (k : Call) → IsTrue (is_complete k) → IsLegal (ks ++ k ∷ [] ++ js) → IsDecided (ks ++ k ∷ []) js

-- The request hasn't ended; the call that is accepted next is that the running callback comes back, and doesn't end it
-- either.
pub record IsWaiting (before : List Call) : Type 0 where
  pub unended : has_request_ended before ≡ false
  pub next : (j : Call) → IsLegal (before ++ j ∷ []) → IsTrue (is_coming_back j)
  pub still : (j : Call) → IsLegal (before ++ j ∷ []) → has_request_ended (before ++ j ∷ []) ≡ false

-- a complete or dispatch of another thread in STARTING or READ_WRITE_OP ends nothing before the callback came back
abbrev pub OthersWaitForTheCallback : Type 0
OthersWaitForTheCallback = (ks : List Call) (k : Call) → IsTrue (is_from_other k) → IsTrue (is_in_callback (state_after ks)) → IsLegal (ks ++ k ∷ []) → IsWaiting (ks ++ k ∷ [])

-- a chart whose counts don't stand still, its cycles written out, is the list of calls
abbrev pub ChartsAreTheCalls : Type 0
ChartsAreTheCalls = (ks : List Call) → IsExact (chart_of ks) → written_out (chart_of ks) ≡ ks

-- ---- over every list of calls that a request is asked, accepted or not

abbrev pub after_calls : Progress → List Call → Progress
after_calls p [] = p
after_calls p (k ∷ ks) = after_calls (after_call p k) ks

-- the accepted ones among them
abbrev pub accepted_from : Progress → List Call → List Call → List Call
accepted_from p accepted [] = accepted
accepted_from p accepted (k ∷ ks) = accepted_from (after_call p k) (with_accepted p k accepted) ks

-- the chart is that of the accepted calls, which are legal and lead to the state
abbrev pub RequestsAreLegal : Type 0
RequestsAreLegal = (ks : List Call) → IsLeftBy (after_calls fresh ks) (accepted_from fresh [] ks)
