-- What the shape of a head says, in the words of answers.
use Rattle.cy_event.specs.Answers as answers
use Rattle.cy_event.specs.AnswerModes as modes
use Rattle.cy_respond.specs.declared.shape.Connection.{Connection}
use Rattle.cy_respond.specs.declared.shape.Connection.TheVariants.{Silent, Close, KeepAlive}
use Rattle.cy_respond.specs.declared.shape.Shape.{Shape}

abbrev pub told : Connection → answers.Connection
told Silent = answers.silent
told Close = answers.close
told KeepAlive = answers.keep_alive

abbrev pub told_shape : Shape → modes.Shape
told_shape s = record { told_length = s.length; in_chunks = s.chunked; connection = told s.connection }
