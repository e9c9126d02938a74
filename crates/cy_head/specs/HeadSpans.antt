-- The parts of a head by the spans that the kit's `httparse` answers. The laws cite none of these words.
use Rattle.std.specs.Prelude.{ℕ, ◌≤◌, List, [], length, map}
use Rattle.httparse.specs.Grammar.{RequestHead, ReadsRequest}
use Rattle.httparse.specs.Spans.{span_bytes}
use Rattle.httparse.specs.declared.spans.HeaderSpan.{HeaderSpan}
use Rattle.httparse.specs.declared.spans.RequestSpans.{RequestSpans}
use Rattle.cy_event.specs.Heads.{Field, Head}

-- the whole text is a head of the grammar of at most max_fields fields
abbrev pub HasWhole : List ℕ → ℕ → Type 0
HasWhole text max_fields = (g : RequestHead) × ReadsRequest text g [] × (length g.fields ≤ max_fields)

-- a field of this name
abbrev pub field_of_name : List ℕ → Field
field_of_name name = record { name = name; value = [] }

-- the field that the spans cover
abbrev pub field_at : List ℕ → HeaderSpan → Field
field_at buf s = record { name = span_bytes buf s.name; value = span_bytes buf s.value }

-- the fields that the spans cover
abbrev pub fields_at : List ℕ → List HeaderSpan → List Field
fields_at buf spans = map (field_at buf) spans

-- the head that the spans cover
abbrev pub head_at : List ℕ → RequestSpans → List HeaderSpan → Head
head_at buf r spans = record {
  method = span_bytes buf r.method;
  target = span_bytes buf r.path;
  minor = r.version;
  fields = fields_at buf spans;
}
