-- What the functions that look for a head answer, by what stands at the front of the bytes.
use Rattle.std.specs.Prelude.{◌≡◌, ℕ, ◌+◌, ◌≤◌, nat_le, List, [], length, take, sum_by, Option, Some, None, if◌then◌else◌}
use Rattle.httparse.specs.Spans.{IsRequestWithin}
use Rattle.httparse.specs.declared.spans.HeaderSpan.{HeaderSpan}
use Rattle.cy_event.specs.Heads.{Field, Head, Front, awaited, found, malformed, front_length}
use Rattle.cy_event.specs.RequestHeads.{RequestParts}
use Rattle.cy_head.specs.HeadSpans.{head_at}
use Rattle.cy_head.specs.declared.due.Due.{Due}
use Rattle.cy_head.specs.declared.due.Due.TheVariants as due
use Rattle.cy_head.specs.declared.front.Front.{Front as Answer}
use Rattle.cy_head.specs.declared.front.Front.TheVariants as answer
use Rattle.cy_head.specs.declared.spans.FrontSpans.{FrontSpans}
use Rattle.cy_head.specs.declared.spans.FrontSpans.TheVariants as spans

-- what is answered
abbrev pub answer_to : Front → Answer
answer_to awaited = answer.Wait
answer_to (found n h) = answer.Head n
answer_to malformed = answer.Bad

-- how many bytes the names and the values of fields have
abbrev pub size_of_fields : List Field → ℕ
size_of_fields fields = sum_by (λ f. length f.name + length f.value) fields

-- a head that was just read: its path and its query aren't known yet
abbrev pub just_read : Head → RequestParts
just_read h = record { head = h; path = []; query = None; field_size = size_of_fields h.fields }

-- what a table holds that is filled by a head that is found
abbrev pub filled_by : Front → RequestParts → RequestParts
filled_by awaited parts = parts
filled_by (found n h) parts = just_read h
filled_by malformed parts = parts

-- there is a front of this length; or none, where so many bytes are too many
abbrev pub due_by : ℕ → ℕ → Option ℕ → Due
due_by max_head size None = if nat_le max_head size then due.TooLong else due.Wait
due_by max_head size (Some n) = due.Front n

-- whether a head of at most max_head bytes is due
abbrev pub due_by_bytes : ℕ → List ℕ → Due
due_by_bytes max_head bytes = due_by max_head (length bytes) (front_length bytes)

-- the spans cover the parts of the head that is found
abbrev pub Locates : Front → List ℕ → List HeaderSpan → FrontSpans → Type 0
Locates front bytes headers spans.Wait = front ≡ awaited
Locates front bytes headers (spans.Head r) =
    front ≡ found r.len (head_at (take r.len bytes) r (take r.headers headers))
Locates front bytes headers spans.Bad = front ≡ malformed

-- the head is within the bytes, and the spans within the head
abbrev pub AreSpansWithin : List ℕ → List HeaderSpan → FrontSpans → Type 0
AreSpansWithin bytes headers spans.Wait = Unit {0}
AreSpansWithin bytes headers (spans.Head r) = (r.len ≤ length bytes) × IsRequestWithin (take r.len bytes) headers r
AreSpansWithin bytes headers spans.Bad = Unit {0}
