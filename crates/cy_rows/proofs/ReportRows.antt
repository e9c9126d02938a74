-- The report of a connection whose request has a body, written down by hand.
use Rattle.std.proofs.Common.{◌≡◌, ℕ, List, [], ◌∷◌, codes, refl, length}
use Rattle.std.specs.Fmt.{digits}
use Rattle.std.specs.Str.{is_utf8, chars}
use lib.Utf8.{encode}
use Rattle.cy_bytes.specs.Quoting.{quoted}
use Rattle.cy_event.specs.declared.steps.Act.TheVariants as act
use Rattle.cy_event.specs.declared.steps.Event.TheVariants as event
use Rattle.cy_event.specs.declared.steps.Step.{Step}
use Rattle.cy_event.specs.declared.steps.Step.TheVariants as step
use Rattle.cy_event.specs.Answers.{head_text}
use Rattle.cy_event.specs.Dates.{date_at, count_off}
use Rattle.cy_event.specs.Framings.{framed}
use Rattle.cy_event.specs.Heads.{is_name_byte, trimmed, front_length, whole_head, host_fits, head_of}
use Rattle.cy_event.specs.Limits.{standard}
use Rattle.cy_event.specs.Targets.{target_of}
use Rattle.cy_model.specs.Entries.{after, reply_to}
use Rattle.cy_model.specs.Laws.{one_rule}
use Rattle.cy_model.specs.Reports.{reply_text, reply_line, chart_line, connection_text, report}
use Rattle.cy_model.specs.Settling.{rested, settled}
use Rattle.cy_model.specs.Verdicts.{verdict_of}

abbrev came : List ℕ → Step
came bytes = step.On 1 event.In bytes

abbrev wrote : List ℕ → Step
wrote bytes = step.Act 1 (act.Write (length bytes)) bytes

abbrev asked : ℕ → Step
asked n = step.Act 1 (act.Read n) []

abbrev returned : Step
returned = step.Act 1 act.Return []

-- a body in chunks comes in two pieces, and is read in two and to its end
body_in_chunks : report (standard 1) one_rule (step.Admit 1 ∷ came (codes "POST / HTTP/1.1\r\nHost: a\r\nTransfer-Encoding: chunked\r\n\r\n3\r\nabc\r\n") ∷ step.Run 1 ∷ asked 2 ∷ came (codes "0\r\n\r\n") ∷ asked 9 ∷ asked 9 ∷ wrote (codes "ok") ∷ returned ∷ step.On 1 (event.Took 100) [] ∷ [])
    ≡ codes "1 Entered\n2 Taken 64\n3 Begun service 0\n4 Got \"ab\"\n5 Taken 5\n6 Got \"c\"\n7 GotEnd\n8 Taken 2\n9 Done\n10 Taken 75\nconn 1 open took 75 of 75\nout \"HTTP/1.1 200 \\r\\nContent-Length: 2\\r\\nDate: Thu, 01 Jan 1970 00:00:00 GMT\\r\\n\\r\\nok\"\nchart 1 1 Run Return\n"
unfolding report reply_line reply_text chart_line connection_text after reply_to settled rested verdict_of target_of framed quoted head_text date_at count_off is_name_byte trimmed front_length whole_head host_fits head_of is_utf8 digits chars encode
body_in_chunks = refl
