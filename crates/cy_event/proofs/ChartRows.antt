-- Charts that were worked out by hand, computed from the definition. No contract rests on them.
use Rattle.std.proofs.Common.{◌≡◌, [], ◌∷◌, refl}
use Rattle.cy_event.specs.declared.steps.Call.TheVariants as call
use Rattle.cy_event.specs.declared.table.ChartItem.TheVariants.{One, Cycles}
use Rattle.cy_event.specs.Charts.{chart_of}

-- without asynchronous processing there is no cycle
plain : chart_of (call.Run ∷ call.Return ∷ []) ≡ One call.Run ∷ One call.Return ∷ []
plain = refl

-- two cycles in a row are one item
two_cycles : chart_of (call.Run ∷ call.Start ∷ call.Return ∷ call.Run ∷ call.Return ∷ call.Run ∷ call.Return ∷ call.CompleteOther ∷ call.Return ∷ [])
    ≡ One call.Run ∷ One call.Start ∷ One call.Return ∷ Cycles 2 ∷ One call.CompleteOther ∷ One call.Return ∷ []
two_cycles = refl

-- a call between a Run and its Return leaves no cycle
no_cycle : chart_of (call.Run ∷ call.Start ∷ call.Return ∷ call.Run ∷ call.Return ∷ call.Run ∷ call.CompleteOwn ∷ call.Return ∷ call.Return ∷ [])
    ≡ One call.Run ∷ One call.Start ∷ One call.Return ∷ Cycles 1 ∷ One call.Run ∷ One call.CompleteOwn ∷ One call.Return ∷ One call.Return ∷ []
no_cycle = refl
