-- The counts of the adapters.
use Rattle.std.specs.Prelude.{ℕ}
use Rattle.cy_net.specs.declared.link.MioLink.{MioLink}
use Rattle.cy_net.specs.declared.ready.MioReady.{MioReady}

-- how many reads failed
abbrev pub link_in_faults : MioLink → ℕ
link_in_faults l = l.in_faults

-- how many writes failed
abbrev pub link_out_faults : MioLink → ℕ
link_out_faults l = l.out_faults

-- how many reads and writes found nothing yet
abbrev pub link_pauses : MioLink → ℕ
link_pauses l = l.pauses

-- how many registers and polls failed
abbrev pub ready_faults : MioReady → ℕ
ready_faults r = r.faults
