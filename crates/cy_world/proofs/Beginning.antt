-- A connector to which nothing has happened stands for no steps.
use Rattle.std.proofs.Common.{◌≡◌, ◌<◌, ◌≤◌, ℕ, zero, suc, ◌+◌, ◌*◌, ◌↔◌, Bool, false, cond, List, [], All, get_or, length, replicate, Err, Result, Option, Some, None, is_some, refl, sym, ap, ◌∙◌, subst, arith, ◌⊎◌, inl, inr}
use Rattle.std.specs.Prelude.{slice_get}
use Rattle.std.proofs.lemmas.Bool.{cases_lt}
use Rattle.std.proofs.lemmas.List.{get_or-replicate, get_or_past, length-replicate}
use Rattle.std.proofs.lemmas.List.Elements.{All-get_or}
use Rattle.std.proofs.lemmas.Option.{slice_get-get_or, slice_get_within}
use Rattle.std.proofs.lemmas.List.Folds.{sum_by-replicate}
use Rattle.cy_latch.specs.Numbers.{count_out, is_out}
use Rattle.cy_map.specs.declared.fault.MapFault.{MapFault}
use Rattle.cy_map.specs.declared.fault.MapFault.TheVariants as map_fault
use Rattle.cy_map.specs.declared.rule.Rule.{Rule}
use Rattle.cy_map.specs.Refusals.{IsFirstRepeat, IsTaken, earlier_rule, first_bad}
use Rattle.cy_world.specs.Answered.{IsVacant, SeatParts}
use Rattle.cy_world.specs.Counts.{tenancies}
use Rattle.cy_world.specs.Faults.{IsFaultOf, fault_by}
use Rattle.cy_world.specs.Worlds.{IsPlaceOf, StandsFor}
use Rattle.cy_world.specs.declared.world.Admitted.{Admitted}
use Rattle.cy_world.specs.declared.terms.Terms.{Terms}
use Rattle.cy_world.proofs.Retiring.{no_who}
use Rattle.cy_world.proofs.Stepping.{some}

none_out : (limit i : ℕ) → is_out (replicate limit false) i ≡ false
none_out limit i = by_bound (cases_lt i limit)
  where
    by_bound : (i < limit) ⊎ (limit ≤ i) → is_out (replicate limit false) i ≡ false
    by_bound (inl below) = get_or-replicate limit i false false below
    by_bound (inr past) = get_or_past (replicate limit false) i false (let size = length-replicate limit false in omega (arith, size, past))

none_counted : (limit : ℕ) → count_out (replicate limit false) ≡ 0
none_counted limit =
    let none : count_out (replicate limit false) ≡ limit * 0 = sum_by-replicate (λ (b : Bool). cond b 1 0) limit false in
    omega (arith, none)

each_vacant : (s : Terms) (seats : List SeatParts) → All (IsVacant s.limits) seats → (i : ℕ) (seat : SeatParts) → slice_get seats i ≡ Some seat → IsVacant s.limits seat
each_vacant s seats all i seat there =
    let below = slice_get_within seats i seat there in
    let is : get_or seats i seat ≡ seat = some (get_or seats i seat) seat (sym (slice_get-get_or seats i seat below) ∙ there) in
    subst (IsVacant s.limits) is (All-get_or (IsVacant s.limits) seats i seat below all)

vacant_place : (s : Terms) (i : ℕ) (out : Bool) (seat : SeatParts) → out ≡ false → IsVacant s.limits seat → IsPlaceOf s i out seat
vacant_place s i out seat free v = record {
  held = ap is_some v.nobody ∙ sym free;
  share = λ w h. absurd (no_who seat.place.who w v.nobody h);
  kept = v.kept;
  slot = v.slot;
  vacant = λ e. v;
}

begins : (s : Terms) (seats : List SeatParts) → All (IsVacant s.limits) seats → tenancies seats ≡ 0 → length seats ≡ s.limits.max_connections
    → StandsFor [] (record { terms = s; latch = replicate s.limits.max_connections false; seats = seats; book = [] })
begins s seats vacant unvisited size = record {
  moment = refl;
  distinct = tt;
  each = λ c. tt;
  counted = none_counted s.limits.max_connections;
  places = record {
    each = λ i seat there. vacant_place s i (is_out (replicate s.limits.max_connections false) i) seat (none_out s.limits.max_connections i) (each_vacant s seats vacant i seat there);
    seats = size;
    latch = length-replicate s.limits.max_connections false;
  };
  tenancies = λ less. unvisited;
}

pub begins_as : (s : Terms) (seats : List SeatParts) (latch : List Bool) (book : List (ℕ × Admitted)) → All (IsVacant s.limits) seats → tenancies seats ≡ 0 → length seats ≡ s.limits.max_connections
    → latch ≡ replicate s.limits.max_connections false → book ≡ [] → StandsFor [] (record { terms = s; latch = latch; seats = seats; book = book })
begins_as s seats latch book vacant unvisited size counted_none empty =
    subst (λ (l : List Bool). StandsFor [] (record { terms = s; latch = l; seats = seats; book = book })) (sym counted_none)
    (subst (λ (b : List (ℕ × Admitted)). StandsFor [] (record { terms = s; latch = replicate s.limits.max_connections false; seats = seats; book = b })) (sym empty) (begins s seats vacant unvisited size))

-- ---- why there is none

-- it is wanting memory alone, and tells of no fault of the rules
no_pattern : (r : Result (List Rule) MapFault) (i : ℕ) → r ≡ Err map_fault.NoMemory → r ≡ Err (map_fault.BadPattern i) → ⊥
no_pattern r i memory pattern = cc

no_repeat : (r : Result (List Rule) MapFault) (i j : ℕ) → r ≡ Err map_fault.NoMemory → r ≡ Err (map_fault.RuleTwice i j) → ⊥
no_repeat r i j memory repeat = cc

none_bad : (rules : List Rule) (r : Result (List Rule) MapFault) (bad : Option ℕ) → first_bad rules ≡ bad → r ≡ Err map_fault.NoMemory
    → ((i : ℕ) → (r ≡ Err (map_fault.BadPattern i)) ↔ (first_bad rules ≡ Some i)) → first_bad rules ≡ None
none_bad rules r None is memory told = is
none_bad rules r (Some i) is memory told = absurd (no_pattern r i memory ((told i).1 is))

none_again : (rules : List Rule) (r : Result (List Rule) MapFault) (j : ℕ) (earlier : Option ℕ) → earlier_rule rules j ≡ earlier → r ≡ Err map_fault.NoMemory → first_bad rules ≡ None
    → ((i j : ℕ) → (r ≡ Err (map_fault.RuleTwice i j)) ↔ ((first_bad rules ≡ None) × IsFirstRepeat rules i j))
    → ((place : ℕ) → place < j → earlier_rule rules place ≡ None) → earlier_rule rules j ≡ None
none_again rules r j None is memory good told below = is
none_again rules r j (Some i) is memory good told below = absurd (no_repeat r i j memory ((told i j).1 (good, record { first = below; stands = is })))

-- so none stands twice among so many
none_twice : (rules : List Rule) (r : Result (List Rule) MapFault) (count : ℕ) → r ≡ Err map_fault.NoMemory → first_bad rules ≡ None
    → ((i j : ℕ) → (r ≡ Err (map_fault.RuleTwice i j)) ↔ ((first_bad rules ≡ None) × IsFirstRepeat rules i j))
    → (place : ℕ) → place < count → earlier_rule rules place ≡ None
none_twice rules r zero memory good told place within = absurd (omega (arith, within))
none_twice rules r (suc count) memory good told place within = by_order (none_twice rules r count memory good told) (cases_lt place count)
  where
    by_order : ((other : ℕ) → other < count → earlier_rule rules other ≡ None) → (place < count) ⊎ (count ≤ place) → earlier_rule rules place ≡ None
    by_order before (inl below) = before place below
    by_order before (inr past) =
        let is : count ≡ place = omega (arith, within, past) in
        subst (λ (n : ℕ). earlier_rule rules n ≡ None) is (none_again rules r count (earlier_rule rules count) refl memory good told before)

-- where memory alone is wanting, the rules are taken
pub none_at_fault : (rules : List Rule) (r : Result (List Rule) MapFault) → r ≡ Err map_fault.NoMemory
    → ((i : ℕ) → (r ≡ Err (map_fault.BadPattern i)) ↔ (first_bad rules ≡ Some i))
    → ((i j : ℕ) → (r ≡ Err (map_fault.RuleTwice i j)) ↔ ((first_bad rules ≡ None) × IsFirstRepeat rules i j))
    → IsTaken rules
none_at_fault rules r memory bad twice =
    let good = none_bad rules r (first_bad rules) refl memory bad in record {
      good = good;
      distinct = λ place. none_twice rules r (place + 1) memory good twice place (omega arith);
    }

-- what the mapper says of the rules
pub fault_is : (rules : List Rule) (r : Result (List Rule) MapFault) (f : MapFault) → r ≡ Err f
    → ((i : ℕ) → (r ≡ Err (map_fault.BadPattern i)) ↔ (first_bad rules ≡ Some i))
    → ((i j : ℕ) → (r ≡ Err (map_fault.RuleTwice i j)) ↔ ((first_bad rules ≡ None) × IsFirstRepeat rules i j))
    → IsFaultOf rules (fault_by f)
fault_is rules r (map_fault.BadPattern i) is bad twice = (bad i).0 is
fault_is rules r (map_fault.RuleTwice i j) is bad twice = (twice i j).0 is
fault_is rules r map_fault.NoMemory is bad twice = none_at_fault rules r is bad twice
