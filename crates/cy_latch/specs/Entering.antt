-- What entering a latch does.
use Rattle.cy_latch.specs.declared.book.Enter.{Enter}
use Rattle.cy_latch.specs.declared.book.Enter.TheVariants.{Entered, Full}
use Rattle.cy_latch.specs.Runs.{Turn, entered, was_full}

-- the turn that an answer tells of
abbrev pub turn_of : Enter → Turn
turn_of (Entered n) = entered n
turn_of (Full count) = was_full
