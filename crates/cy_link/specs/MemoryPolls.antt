-- What a readiness in memory shows.
use Rattle.std.specs.Prelude.{ℕ, List}
use Rattle.cy_link.specs.declared.mem_ready.MemReady.{MemReady}

-- one more than the greatest place registered, or 0
abbrev pub ready_places : MemReady → ℕ
ready_places r = r.places

-- the place of the next event
abbrev pub ready_next : MemReady → ℕ
ready_next r = r.next

-- the numbers of the calls that fail, and how many were made, of `register` and of `poll`
abbrev pub ready_failing_registers : MemReady → List ℕ
ready_failing_registers r = r.registers.failing.items

abbrev pub ready_registers : MemReady → ℕ
ready_registers r = r.registers.made

abbrev pub ready_failing_polls : MemReady → List ℕ
ready_failing_polls r = r.polls.failing.items

abbrev pub ready_polls : MemReady → ℕ
ready_polls r = r.polls.made

-- how many calls failed
abbrev pub ready_faults : MemReady → ℕ
ready_faults r = r.faults
