-- What a judgement says.
use Rattle.std.specs.Prelude.{◌≡◌}
use Rattle.cy_event.specs.Framings.{Framed}
use Rattle.cy_event.specs.RequestHeads.{RequestParts}
use Rattle.cy_framing.specs.declared.verdict.Framed.{Framed as FramedSo}
use Rattle.cy_event.specs.Targets.{target_of}
use Rattle.cy_in.specs.Intakes.{IsShort}
use Rattle.cy_map.specs.Mapping.{found_of}
use Rattle.cy_model.specs.Verdicts.{Verdict, turned_away, unserved, served}
use Rattle.cy_target.specs.Kept.{with_target}
use Rattle.cy_proc.specs.declared.verdict.Judgement.{Judgement}
use Rattle.cy_proc.specs.declared.verdict.Judgement.TheVariants as judged

-- the framing of the code is the one of the verdict
abbrev pub framed_of : FramedSo → Framed
framed_of f = record { body = f.body; keep = f.keep; go_on = f.go_on }

-- a judgement of the code is the verdict
abbrev pub IsVerdict : Verdict → Judgement → Type 0
IsVerdict (turned_away status) (judged.TurnedAway s) = s ≡ status
IsVerdict (unserved f) (judged.Unserved so) = framed_of so ≡ f
IsVerdict (served rule f) (judged.Served found so) = (found ≡ found_of rule) × (framed_of so ≡ f)
IsVerdict v j = ⊥

-- the head stands in the table as before; one that isn't turned away has its path and its query
abbrev pub HasTarget : Judgement → RequestParts → RequestParts → Type 0
HasTarget (judged.TurnedAway status) old new = new.head ≡ old.head
HasTarget j old new = new ≡ with_target (target_of old.head.method old.head.target) old

-- a body that is framed so is short enough
abbrev pub IsShortJudgement : Judgement → Type 0
IsShortJudgement (judged.TurnedAway status) = Unit {0}
IsShortJudgement (judged.Unserved so) = IsShort so.body
IsShortJudgement (judged.Served found so) = IsShort so.body
