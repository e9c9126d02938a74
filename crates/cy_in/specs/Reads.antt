-- What reads of content answer.
use Rattle.std.specs.Prelude.{ℕ, List, length, if◌then◌else◌}
use Rattle.cy_in.specs.Intakes.{Intake, content_read, has_content, is_whole}
use Rattle.cy_event.specs.declared.steps.Reply.{Reply}
use Rattle.cy_event.specs.declared.steps.Reply.TheVariants as reply

-- content, where some waits; else the end, where the body is whole
abbrev pub reply_of_read : ℕ → Intake → List ℕ → Reply
reply_of_read n i input =
    if has_content i then reply.Got (length (content_read n i input))
    else if is_whole i.scanned.stage then reply.GotEnd
    else reply.Again
