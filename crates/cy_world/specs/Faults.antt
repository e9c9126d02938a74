-- Why no connector is made: what the mapper says of the rules.
use Rattle.std.specs.Prelude.{◌≡◌, List, None, Some}
use Rattle.cy_map.specs.declared.fault.MapFault.{MapFault}
use Rattle.cy_map.specs.declared.fault.MapFault.TheVariants as map_fault
use Rattle.cy_map.specs.declared.rule.Rule.{Rule}
use Rattle.cy_map.specs.Refusals.{IsFirstRepeat, IsTaken, first_bad}
use Rattle.cy_world.specs.declared.fault.WorldFault.{WorldFault}
use Rattle.cy_world.specs.declared.fault.WorldFault.TheVariants as fault

abbrev pub fault_by : MapFault → WorldFault
fault_by (map_fault.BadPattern i) = fault.BadPattern i
fault_by (map_fault.RuleTwice i j) = fault.RuleTwice i j
fault_by map_fault.NoMemory = fault.NoMemory

-- The fault has its cause in the rules. Memory is said to be wanting only where they are taken.
abbrev pub IsFaultOf : List Rule → WorldFault → Type 0
IsFaultOf rules (fault.BadPattern i) = first_bad rules ≡ Some i
IsFaultOf rules (fault.RuleTwice i j) = (first_bad rules ≡ None) × IsFirstRepeat rules i j
IsFaultOf rules fault.NoMemory = IsTaken rules
