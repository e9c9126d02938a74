-- What is left to show of `Slot::new_at`.
use Rattle.std.proofs.Common.{◌≡◌, None}
use Rattle.std.proofs.Common.{rules}
use Rattle.cy_proc.specs.Processors.{fresh_processor}
use Rattle.cy_slot.specs.Slots.{no_state}
use Rattle.cy_slot.proofs.slot.Slot.new_at.Goals as goal

pub returns : goal.returns
returns c =
    let state : c.in_ok-vec.field-0.items ≡ no_state = c.in_ok-vec.ensures.items_if_clones_equal (search rules) in
    let processor : c.in_ok-new.field-0 ≡ fresh_processor c.args.limits.now = c.in_ok-new.ensures.fresh in
    record { fresh = λ i. record { tenant = None; processor = processor i; state = state i; tenancy = c.args.first; first = c.args.first } }
