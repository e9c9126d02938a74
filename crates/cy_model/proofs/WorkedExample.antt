-- The worked example of the README, computed from the definitions.
use Rattle.std.proofs.Common.{refl}
use Rattle.std.specs.Fmt.{digits}
use Rattle.cy_bytes.specs.Quoting.{quoted}
use Rattle.cy_event.specs.Answers.{head_text}
use Rattle.cy_event.specs.Dates.{date_at, count_off}
use Rattle.cy_event.specs.Heads.{is_name_byte, trimmed, front_length, whole_head, host_fits, head_of}
use Rattle.cy_model.specs.Laws.{ExampleIsReported}
use Rattle.cy_model.specs.Entries.{after, reply_to}
use Rattle.cy_model.specs.Reports.{reply_text, reply_line, chart_line, connection_text, report}
use Rattle.cy_model.specs.Settling.{rested, settled}
use Rattle.cy_model.specs.Verdicts.{verdict_of}
use Rattle.cy_event.specs.Targets.{target_of}
use Rattle.cy_event.specs.Framings.{framed}
use Rattle.std.specs.Str.{is_utf8, chars}
use lib.Utf8.{encode}

pub example_is_reported : ExampleIsReported
unfolding report reply_line reply_text chart_line connection_text after reply_to settled rested verdict_of target_of framed quoted head_text date_at count_off is_name_byte trimmed front_length whole_head host_fits head_of is_utf8 digits chars encode
example_is_reported = refl
