-- What the sources and sinks in memory show.
use Rattle.std.specs.Prelude.{Bool, ◌==◌, ℕ, List, drop, vec_capacity}
use Rattle.std.specs.List.{list_any}
use Rattle.cy_link.specs.declared.mem_source.MemSource.{MemSource}
use Rattle.cy_link.specs.declared.mem_sink.MemSink.{MemSink}

-- the call of this number is one of those listed
abbrev pub is_listed : List ℕ → ℕ → Bool
is_listed numbers call = list_any (λ n. n == call) numbers

-- what a source has left
abbrev pub source_left : MemSource → List ℕ
source_left s = drop s.position s.content.items

-- the numbers of the reads that fail, of which the first is 0
abbrev pub source_failing : MemSource → List ℕ
source_failing s = s.calls.failing.items

-- how many reads were made
abbrev pub source_reads : MemSource → ℕ
source_reads s = s.calls.made

-- how many reads failed
abbrev pub source_faults : MemSource → ℕ
source_faults s = s.calls.faults

-- the most that one read gives
abbrev pub source_piece : MemSource → ℕ
source_piece s = s.piece

-- what a sink holds
abbrev pub sink_held : MemSink → List ℕ
sink_held s = s.content.items

-- how many bytes it can hold before it needs memory
abbrev pub sink_room : MemSink → ℕ
sink_room s = vec_capacity s.content

-- the numbers of the writes that fail, of which the first is 0
abbrev pub sink_failing : MemSink → List ℕ
sink_failing s = s.calls.failing.items

-- how many writes were made
abbrev pub sink_writes : MemSink → ℕ
sink_writes s = s.calls.made

-- how many writes failed
abbrev pub sink_faults : MemSink → ℕ
sink_faults s = s.calls.faults

-- the most that one write takes
abbrev pub sink_piece : MemSink → ℕ
sink_piece s = s.piece
