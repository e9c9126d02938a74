-- How many heads of a connection are done with, and how many tenants the slots of a connector had.
use Rattle.std.specs.Prelude.{◌≡◌, ◌<◌, ℕ, ◌+◌, List, [], ◌∷◌, sum_by}
use Rattle.cy_event.specs.declared.limits.Limits.{Limits}
use Rattle.cy_map.specs.declared.rule.Rule.{Rule}
use Rattle.cy_model.specs.Connections.{History}
use Rattle.cy_model.specs.Entries.{ended_count, trace_of}
use Rattle.cy_model.specs.Marks.{refused, Trace}
use Rattle.cy_slot.specs.declared.slot.TheConstants.{GREATEST_TENANCY}
use Rattle.cy_world.specs.Answered.{SeatParts}
use Rattle.cy_world.specs.declared.terms.Terms.{Terms}

-- how many heads were refused
abbrev pub refused_count : Trace → ℕ
refused_count [] = 0
refused_count ((t, refused status to_head) ∷ T) = refused_count T + 1
refused_count ((t, m) ∷ T) = refused_count T

-- how many heads are done with: those of requests that have ended, and those that were refused
abbrev pub done_count : Trace → ℕ
done_count T = ended_count T + refused_count T

abbrev pub done_of : Limits → List Rule → History → ℕ
done_of limits rules h = done_count (trace_of limits rules h.entries)

-- of all connections
abbrev pub all_done : Limits → List Rule → List History → ℕ
all_done limits rules hs = sum_by (done_of limits rules) hs

-- how many tenants the slots had that sit there no more
abbrev pub tenancies : List SeatParts → ℕ
tenancies seats = sum_by (λ (seat : SeatParts). seat.place.slot.tenancy) seats

-- As many left as heads are done with, while these are so few that no slot can be used up.
abbrev pub AddUp : Terms → List SeatParts → List History → Type 0
AddUp s seats hs = all_done s.limits s.rules hs < GREATEST_TENANCY → tenancies seats ≡ all_done s.limits s.rules hs
