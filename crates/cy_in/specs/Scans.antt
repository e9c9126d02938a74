-- What a scan answers.
use Rattle.cy_event.specs.declared.body.BodyStage.{BodyStage}
use Rattle.cy_event.specs.declared.body.BodyStage.TheVariants as stage
use Rattle.cy_event.specs.declared.body.BodyMark.{BodyMark}
use Rattle.cy_in.specs.declared.fault.BodyFault.TheVariants as fault
use Rattle.cy_in.specs.declared.fault.Scan.{Scan}
use Rattle.cy_in.specs.declared.fault.Scan.TheVariants as scan

-- what was scanned up to the mark is a part of a body, a whole one, or bad
abbrev pub scan_at : BodyMark → BodyStage → Scan
scan_at m stage.Whole = scan.Whole
scan_at m stage.Malformed = scan.Bad (fault.BadChunk m.raw)
scan_at m stage.TooLong = scan.Bad fault.TrailerTooLarge
scan_at m _ = scan.Partial
