-- The table by which an executor starts a thread or lets a task wait. Own, after Tomcat.
use Rattle.std.specs.Prelude.{nat_lt, not, if◌then◌else◌}
use Rattle.cy_executor.specs.declared.admission.Counts.{Counts}
use Rattle.cy_executor.specs.declared.admission.Admission.{Admission}
use Rattle.cy_executor.specs.declared.admission.Admission.TheVariants.{Start, Queue}

abbrev pub admission : Counts → Admission
admission c =
    if nat_lt c.threads c.core then Start
    else if not (nat_lt c.threads c.max) then Queue
    else if not (nat_lt c.threads c.submitted) then Queue
    else Start
