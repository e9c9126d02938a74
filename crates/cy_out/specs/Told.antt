-- What the values of this crate say, in the words of answers.
use Rattle.cy_event.specs.AnswerModes as modes
use Rattle.cy_out.specs.declared.mode.Answer.{Answer}
use Rattle.cy_out.specs.declared.mode.Mode.{Mode}
use Rattle.cy_out.specs.declared.mode.Mode.TheVariants.{Void, Counted, Chunked, UntilClose}

abbrev pub told_asked : Answer → modes.Asked
told_asked a = record { minor = a.minor; is_head = a.is_head; keep = a.keep }

abbrev pub told_mode : Mode → modes.Mode
told_mode Void = modes.void
told_mode Counted = modes.counted
told_mode Chunked = modes.chunked
told_mode UntilClose = modes.until_close
