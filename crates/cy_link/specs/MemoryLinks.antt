-- What a link in memory shows.
use Rattle.std.specs.Prelude.{ℕ, List, ◌++◌, drop, take, vec_capacity}
use Rattle.cy_link.specs.declared.items.Input.{Input}
use Rattle.cy_link.specs.declared.items.Output.{Output}
use Rattle.cy_link.specs.declared.mem_link.MemLink.{MemLink}
use Rattle.cy_link.specs.Items.{bytes_of}

-- the items that are left to read, of which the first may be begun
abbrev pub link_inputs : MemLink → List Input
link_inputs l = drop l.cursor.item l.inputs.items

-- the byte of the first of these at which the next read begins
abbrev pub link_byte : MemLink → ℕ
link_byte l = l.cursor.byte

-- what is left to give
abbrev pub link_left : MemLink → List ℕ
link_left l = drop l.cursor.byte (bytes_of (link_inputs l))

-- what was given: all of the items before, and the front of the one that is begun
abbrev pub link_gave : MemLink → List ℕ
link_gave l = bytes_of (take l.cursor.item l.inputs.items) ++ take l.cursor.byte (bytes_of (link_inputs l))

-- the items that the next writes find
abbrev pub link_outputs : MemLink → List Output
link_outputs l = drop l.written l.outputs.items

-- what was taken
abbrev pub link_took : MemLink → List ℕ
link_took l = l.taken.items

-- how many bytes it can take before it needs memory
abbrev pub link_room : MemLink → ℕ
link_room l = vec_capacity l.taken

-- the numbers of the reads that fail, how many were made, and how many failed
abbrev pub link_failing_reads : MemLink → List ℕ
link_failing_reads l = l.reads.failing.items

abbrev pub link_reads : MemLink → ℕ
link_reads l = l.reads.made

abbrev pub link_in_faults : MemLink → ℕ
link_in_faults l = l.reads.faults

-- the same of the writes
abbrev pub link_failing_writes : MemLink → List ℕ
link_failing_writes l = l.writes.failing.items

abbrev pub link_writes : MemLink → ℕ
link_writes l = l.writes.made

abbrev pub link_out_faults : MemLink → ℕ
link_out_faults l = l.writes.faults

-- how many answers were pauses
abbrev pub link_pauses : MemLink → ℕ
link_pauses l = l.pauses
