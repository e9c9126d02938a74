-- A chart with one call more.
use Rattle.std.proofs.Common.{◌≡◌, suc, ◌+◌, ◌-◌, min, Option, Some, None, IsSome, List, [], ◌∷◌, ◌++◌, length, refl, ap, sym, ◌∙◌, arith}
use Rattle.cy_event.specs.declared.steps.Call.{Call}
use Rattle.cy_event.specs.declared.steps.Call.TheVariants as call
use Rattle.cy_event.specs.declared.steps.State.{State}
use Rattle.cy_event.specs.declared.steps.State.TheVariants as state
use Rattle.cy_event.specs.declared.table.ChartItem.{ChartItem}
use Rattle.cy_event.specs.declared.table.ChartItem.TheVariants.{One, Cycles}
use Rattle.cy_event.specs.Charts.{chart_from, most_cycles, put_call, put_cycle}
use Rattle.cy_event.specs.Table.{row, next_state, IsLegalFrom, state_from}
use Rattle.cy_event.proofs.Histories.{rest_is_legal}
use Rattle.cy_states.specs.Progress.{last_item, with_call, with_cycle, with_return, without_last}

-- ---- the end of a chart, seen from its front

last_item-cons : (x y : ChartItem) (ys : List ChartItem) → last_item (x ∷ y ∷ ys) ≡ last_item (y ∷ ys)
last_item-cons x y ys = let e : length (x ∷ y ∷ ys) - 1 ≡ suc (length (y ∷ ys) - 1) = omega arith in rw e

without_last-cons : (x y : ChartItem) (ys : List ChartItem) → without_last (x ∷ y ∷ ys) ≡ x ∷ without_last (y ∷ ys)
without_last-cons x y ys = let e : length (x ∷ y ∷ ys) - 1 ≡ suc (length (y ∷ ys) - 1) = omega arith in rw e

with_cycle-cons : (o : Option ChartItem) (x y : ChartItem) (ys : List ChartItem) → with_cycle o (x ∷ y ∷ ys) ≡ x ∷ with_cycle o (y ∷ ys)
with_cycle-cons None x y ys = refl
with_cycle-cons (Some (One k)) x y ys = refl
with_cycle-cons (Some (Cycles n)) x y ys = ap (λ (items : List ChartItem). items ++ Cycles (min (n + 1) most_cycles) ∷ []) (without_last-cons x y ys)

-- ---- a Return from READ_WRITE_OP, from the front

abbrev closed_one : ChartItem → List ChartItem
closed_one (One call.Run) = Cycles 1 ∷ []
closed_one x = x ∷ One call.Return ∷ []

abbrev closed_two : ChartItem → ChartItem → List ChartItem
closed_two (Cycles n) (One call.Run) = Cycles (min (n + 1) most_cycles) ∷ []
closed_two x (One call.Run) = x ∷ Cycles 1 ∷ []
closed_two x y = x ∷ y ∷ One call.Return ∷ []

abbrev closed : List ChartItem → List ChartItem
closed [] = One call.Return ∷ []
closed (x ∷ []) = closed_one x
closed (x ∷ y ∷ []) = closed_two x y
closed (x ∷ y ∷ z ∷ zs) = x ∷ closed (y ∷ z ∷ zs)

-- one item in front of three changes nothing behind it
with_return-cons : (o : Option ChartItem) (x y z : ChartItem) (zs : List ChartItem) → with_return o (x ∷ y ∷ z ∷ zs) ≡ x ∷ with_return o (y ∷ z ∷ zs)
with_return-cons (Some (One call.Run)) x y z zs =
    rw (without_last-cons x y (z ∷ zs), without_last-cons y z zs, last_item-cons x y (without_last (z ∷ zs)))
    (with_cycle-cons (last_item (y ∷ without_last (z ∷ zs))) x y (without_last (z ∷ zs)))
with_return-cons o x y z zs = refl

closed-two : (x y : ChartItem) → with_return (Some y) (x ∷ y ∷ []) ≡ closed_two x y
closed-two (Cycles n) (One call.Run) = refl
closed-two (One j) (One call.Run) = refl
closed-two x y = refl

closed-one : (x : ChartItem) → with_return (Some x) (x ∷ []) ≡ closed_one x
closed-one (One call.Run) = refl
closed-one x = refl

with_return-closed : (items : List ChartItem) → with_return (last_item items) items ≡ closed items
with_return-closed [] = refl
with_return-closed (x ∷ []) = closed-one x
with_return-closed (x ∷ y ∷ []) = closed-two x y
with_return-closed (x ∷ y ∷ z ∷ zs) =
    ap (λ (o : Option ChartItem). with_return o (x ∷ y ∷ z ∷ zs)) (last_item-cons x y (z ∷ zs))
    ∙ with_return-cons (last_item (y ∷ z ∷ zs)) x y z zs
    ∙ ap (λ (items : List ChartItem). x ∷ items) (with_return-closed (y ∷ z ∷ zs))

-- ---- a call in front of a chart that goes on behind

put_cycle-push : (k : Call) (items : List ChartItem) → put_cycle (items ++ One k ∷ []) ≡ put_cycle items ++ One k ∷ []
put_cycle-push k [] = refl
put_cycle-push k (One j ∷ items) = refl
put_cycle-push k (Cycles n ∷ items) = refl

put_call-push : (s : State) (i k : Call) (x : ChartItem) (xs : List ChartItem) → put_call s i (x ∷ xs ++ One k ∷ []) ≡ put_call s i (x ∷ xs) ++ One k ∷ []
put_call-push state.Started call.Run k (One call.Return) xs = put_cycle-push k xs
put_call-push s i k x xs = refl

one-closed : (i : Call) (x : ChartItem) (xs : List ChartItem) → One i ∷ closed (x ∷ xs) ≡ closed (One i ∷ x ∷ xs)
one-closed i (One call.Run) [] = refl
one-closed i x [] = refl
one-closed i x (y ∷ ys) = refl

put_cycle-closed_one : (y : ChartItem) → put_call state.Started call.Run (closed_two (One call.Return) y) ≡ closed (put_cycle (y ∷ []))
put_cycle-closed_one (One call.Run) = refl
put_cycle-closed_one (One j) = refl
put_cycle-closed_one (Cycles n) = refl

put_cycle-closed : (y z : ChartItem) (zs : List ChartItem) → put_cycle (closed (y ∷ z ∷ zs)) ≡ closed (put_cycle (y ∷ z ∷ zs))
put_cycle-closed (Cycles n) (One call.Run) [] = refl
put_cycle-closed (One j) (One call.Run) [] = refl
put_cycle-closed (Cycles n) z [] = refl
put_cycle-closed (One j) z [] = refl
put_cycle-closed (Cycles n) z (w ∷ ws) = refl
put_cycle-closed (One j) z (w ∷ ws) = refl

run-closed : (x : ChartItem) (xs : List ChartItem) → put_call state.Started call.Run (closed (x ∷ xs)) ≡ closed (put_call state.Started call.Run (x ∷ xs))
run-closed (One call.Return) [] = refl
run-closed (One call.Return) (y ∷ []) = put_cycle-closed_one y
run-closed (One call.Return) (y ∷ z ∷ zs) = put_cycle-closed y z zs
run-closed (One call.Run) [] = refl
run-closed (Cycles n) (One call.Run ∷ []) = refl
run-closed (One call.Run) (One call.Run ∷ []) = refl
run-closed x [] = refl
run-closed x (One call.Run ∷ []) = refl
run-closed x (y ∷ []) = refl
run-closed x (y ∷ z ∷ zs) = refl

put_call-closed : (s : State) (i : Call) (x : ChartItem) (xs : List ChartItem) → put_call s i (closed (x ∷ xs)) ≡ closed (put_call s i (x ∷ xs))
put_call-closed state.Started call.Run x xs = run-closed x xs
put_call-closed s i x xs = one-closed i x xs

put_call-with_call : (s : State) (i : Call) (t : State) (k : Call) (x : ChartItem) (xs : List ChartItem) → put_call s i (with_call t k (x ∷ xs)) ≡ with_call t k (put_call s i (x ∷ xs))
put_call-with_call s i state.ReadWriteOp call.Return x xs =
    ap (λ (items : List ChartItem). put_call s i items) (with_return-closed (x ∷ xs))
    ∙ put_call-closed s i x xs
    ∙ sym (with_return-closed (put_call s i (x ∷ xs)))
put_call-with_call s i t k x xs = put_call-push s i k x xs

-- ---- two calls

put_call-nil : (s : State) (k : Call) → put_call s k [] ≡ One k ∷ []
put_call-nil state.Started call.Run = refl
put_call-nil s k = refl

with_call-nil : (s : State) (k : Call) → with_call s k [] ≡ One k ∷ []
with_call-nil state.ReadWriteOp call.Return = refl
with_call-nil s k = refl

-- only a Run in STARTED leads to READ_WRITE_OP
put_call-one : (s : State) (i k : Call) → IsSome (row s i) → put_call s i (One k ∷ []) ≡ with_call (next_state s i) k (One i ∷ [])
put_call-one state.Started call.Run call.Return some = refl
put_call-one state.Started call.Run k some = refl
put_call-one state.Dispatched call.Start k some = cc
put_call-one state.Starting call.Start k some = cc
put_call-one state.Started call.Start k some = cc
put_call-one state.ReadWriteOp call.Start k some = cc
put_call-one state.MustComplete call.Start k some = cc
put_call-one state.CompletePending call.Start k some = cc
put_call-one state.Completing call.Start k some = cc
put_call-one state.TimingOut call.Start k some = cc
put_call-one state.MustDispatch call.Start k some = cc
put_call-one state.DispatchPending call.Start k some = cc
put_call-one state.Dispatching call.Start k some = cc
put_call-one state.MustError call.Start k some = cc
put_call-one state.Error call.Start k some = cc
put_call-one s i k some = cc

-- ---- a chart with a call in front isn't empty

front_of_cycle : (items : List ChartItem) → (x : ChartItem) × (xs : List ChartItem) × (put_cycle items ≡ x ∷ xs)
front_of_cycle [] = (Cycles 1, [], refl)
front_of_cycle (One k ∷ items) = (Cycles 1, One k ∷ items, refl)
front_of_cycle (Cycles n ∷ items) = (Cycles (min (n + 1) most_cycles), items, refl)

front_of_call : (s : State) (k : Call) (items : List ChartItem) → (x : ChartItem) × (xs : List ChartItem) × (put_call s k items ≡ x ∷ xs)
front_of_call state.Started call.Run (One call.Return ∷ items) = front_of_cycle items
front_of_call s k items = (One k, items, refl)

put_call-behind : (s : State) (i : Call) (t : State) (k : Call) (items : List ChartItem) → ((x : ChartItem) × (xs : List ChartItem) × (items ≡ x ∷ xs)) → put_call s i (with_call t k items) ≡ with_call t k (put_call s i items)
put_call-behind s i t k items w =
    ap (λ (v : List ChartItem). put_call s i (with_call t k v)) w.2
    ∙ put_call-with_call s i t k w.0 w.1
    ∙ ap (λ (v : List ChartItem). with_call t k (put_call s i v)) (sym w.2)

-- ---- the chart of a legal history with one call more

pub chart_more : (s : State) (ks : List Call) (k : Call) → IsLegalFrom s ks → chart_from s (ks ++ k ∷ []) ≡ with_call (state_from s ks) k (chart_from s ks)
chart_more s [] k legal = put_call-nil s k ∙ sym (with_call-nil s k)
chart_more s (i ∷ []) k legal =
    ap (λ (items : List ChartItem). put_call s i items) (put_call-nil (next_state s i) k)
    ∙ put_call-one s i k legal
    ∙ ap (λ (items : List ChartItem). with_call (next_state s i) k items) (sym (put_call-nil s i))
chart_more s (i ∷ j ∷ ks) k legal =
    ap (λ (items : List ChartItem). put_call s i items) (chart_more (next_state s i) (j ∷ ks) k (rest_is_legal s i (j ∷ ks) legal))
    ∙ put_call-behind s i (state_from (next_state s i) (j ∷ ks)) k (chart_from (next_state s i) (j ∷ ks))
    (front_of_call (next_state s i) j (chart_from (next_state (next_state s i) j) ks))
