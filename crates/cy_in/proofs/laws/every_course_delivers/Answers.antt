-- By what each call keeps.
use Rattle.cy_in.proofs.Delivering.{every_course}
use Rattle.cy_in.proofs.laws.every_course_delivers.Goals as goal

pub returns : goal.returns
returns c = every_course
