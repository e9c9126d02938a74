-- What the tactics leave of the proof of `Machine::call`.
use Rattle.std.proofs.Common.{◌≡◌, Some, true, false, arith}
use Rattle.cy_event.specs.declared.table.Row.TheVariants.{On, Wake, Ends}
use Rattle.cy_event.specs.Table.{row}
use Rattle.cy_states.specs.Progress.{Progress, progress_after}
use Rattle.cy_states.proofs.Standing.{sound_as, stands_as}
use Rattle.cy_states.proofs.machine.Machine.call.Goals as goal

pub invariant_of-self : goal.invariant_of-self
invariant_of-self c =
    let p : Progress = record { state = c.self.inside.state; is_ended = c.self.inside.is_ended; chart = c.self.inside.items.items } in
    let q : Progress = record { state = c.in-On.state; is_ended = c.self.inside.is_ended; chart = c.push_call.new.items.items } in
    let unended : p.is_ended ≡ false = cc in
    let is : row p.state c.args.call ≡ Some (On c.in-On.state) = cc in
    let left : progress_after (Some (On c.in-On.state)) p c.args.call ≡ q = cc in
    (omega arith, sound_as p q c.args.call (On c.in-On.state) unended is left c.self.invariant.1)

pub invariant_of-self-in-Wake : goal.invariant_of-self-in-Wake
invariant_of-self-in-Wake c =
    let p : Progress = record { state = c.self.inside.state; is_ended = c.self.inside.is_ended; chart = c.self.inside.items.items } in
    let q : Progress = record { state = c.in-Wake.state; is_ended = c.self.inside.is_ended; chart = c.push_call.new.items.items } in
    let unended : p.is_ended ≡ false = cc in
    let is : row p.state c.args.call ≡ Some (Wake c.in-Wake.state) = cc in
    let left : progress_after (Some (Wake c.in-Wake.state)) p c.args.call ≡ q = cc in
    (omega arith, sound_as p q c.args.call (Wake c.in-Wake.state) unended is left c.self.invariant.1)

pub invariant_of-self-in-Ends : goal.invariant_of-self-in-Ends
invariant_of-self-in-Ends c =
    let p : Progress = record { state = c.self.inside.state; is_ended = c.self.inside.is_ended; chart = c.self.inside.items.items } in
    let q : Progress = record { state = c.self.inside.state; is_ended = true; chart = c.push_call.new.items.items } in
    let unended : p.is_ended ≡ false = cc in
    let is : row p.state c.args.call ≡ Some Ends = cc in
    let left : progress_after (Some Ends) p c.args.call ≡ q = cc in
    (omega arith, sound_as p q c.args.call Ends unended is left c.self.invariant.1)

pub returns-in-On-clause-history : goal.returns-in-On-clause-history
returns-in-On-clause-history c =
    let p : Progress = record { state = c.self.inside.state; is_ended = c.self.inside.is_ended; chart = c.self.inside.items.items } in
    let q : Progress = record { state = c.in-On.state; is_ended = c.self.inside.is_ended; chart = c.push_call.new.items.items } in
    let unended : p.is_ended ≡ false = cc in
    let is : row p.state c.args.call ≡ Some (On c.in-On.state) = cc in
    let left : progress_after (Some (On c.in-On.state)) p c.args.call ≡ q = cc in
    rw (← c.self.view_is) (stands_as p q c.args.call (On c.in-On.state) unended is left)

pub returns-in-Wake-clause-history : goal.returns-in-Wake-clause-history
returns-in-Wake-clause-history c =
    let p : Progress = record { state = c.self.inside.state; is_ended = c.self.inside.is_ended; chart = c.self.inside.items.items } in
    let q : Progress = record { state = c.in-Wake.state; is_ended = c.self.inside.is_ended; chart = c.push_call.new.items.items } in
    let unended : p.is_ended ≡ false = cc in
    let is : row p.state c.args.call ≡ Some (Wake c.in-Wake.state) = cc in
    let left : progress_after (Some (Wake c.in-Wake.state)) p c.args.call ≡ q = cc in
    rw (← c.self.view_is) (stands_as p q c.args.call (Wake c.in-Wake.state) unended is left)

pub returns-in-Ends-clause-history : goal.returns-in-Ends-clause-history
returns-in-Ends-clause-history c =
    let p : Progress = record { state = c.self.inside.state; is_ended = c.self.inside.is_ended; chart = c.self.inside.items.items } in
    let q : Progress = record { state = c.self.inside.state; is_ended = true; chart = c.push_call.new.items.items } in
    let unended : p.is_ended ≡ false = cc in
    let is : row p.state c.args.call ≡ Some Ends = cc in
    let left : progress_after (Some Ends) p c.args.call ≡ q = cc in
    rw (← c.self.view_is) (stands_as p q c.args.call Ends unended is left)
