-- The bytes that end a body, from each stage on.
use Rattle.std.proofs.Common.{◌≡◌, ℕ, ◌+◌, ◌≤◌, false, List, [], ◌∷◌, ◌++◌, replicate, arith, leb, refl}
use Rattle.std.proofs.lemmas.Bool.{leb-false}
use Rattle.std.proofs.lemmas.List.{length-replicate}
use Rattle.cy_event.specs.Bodies.{behind_line, is_bad}
use Rattle.cy_event.specs.BodyGrammar.{line_end}
use Rattle.cy_event.specs.declared.body.BodyStage.{BodyStage}
use Rattle.cy_event.specs.declared.body.BodyStage.TheVariants as stage
use Rattle.cy_in.proofs.BodyWritten.{chunk_ends, counted_reach, data_reach}
use Rattle.cy_in.proofs.Choices.{chosen}
use Rattle.cy_in.proofs.Joins.{append_nil}
use Rattle.cy_in.proofs.LineWritten.{blanks_reach, line_ends, size_ends, text_ends}
use Rattle.cy_in.proofs.Reaching.{Reaches, cons, join, of_content, one, stay}
use Rattle.cy_in.proofs.Room.{HasRoom}
use Rattle.cy_in.proofs.TrailersWritten.{fits, name_reach, trailers_reach, value_reach}

-- bytes that lead to the end of a body, all of whose content is this byte
pub record Ends (max fill : ℕ) (s : BodyStage) : Type 0 where
  pub bytes : List ℕ
  pub count : ℕ
  pub reaches : Reaches max s bytes (replicate count fill) stage.Whole

-- bytes without content that lead to a stage, and then its end
through : (max fill : ℕ) (s : BodyStage) (bytes : List ℕ) (next : BodyStage) → Reaches max s bytes [] next → Ends max fill next → Ends max fill s
through max fill s bytes next first end = record {
  bytes = bytes ++ end.bytes;
  count = end.count;
  reaches = join max s bytes [] next end.bytes (replicate end.count fill) stage.Whole first end.reaches;
}

-- ---- the trailers

none_reach : (max t : ℕ) → t + 2 ≤ max → Reaches max (stage.FieldDue t) line_end [] stage.Whole
none_reach max t room = trailers_reach max t [] (λ k d lt. absurd (omega arith)) room

none_more : (max fill t : ℕ) → t + 2 ≤ max → Ends max fill (stage.FieldDue t)
none_more max fill t room = record { bytes = line_end; count = 0; reaches = none_reach max t room }

value_ends : (max fill t : ℕ) → t + 4 ≤ max → Ends max fill (stage.InValue t)
value_ends max fill t room =
    through max fill (stage.InValue t) line_end (stage.FieldDue (t + 0 + 2)) (value_reach max t [] refl (omega arith)) (none_more max fill (t + 0 + 2) (omega arith))

name_ends : (max fill t : ℕ) → t + 5 ≤ max → Ends max fill (stage.InName t)
name_ends max fill t room =
    through max fill (stage.InName t) (58 ∷ line_end) (stage.FieldDue (t + 0 + 1 + 0 + 2)) (name_reach max t [] [] refl refl (omega arith))
    (none_more max fill (t + 0 + 1 + 0 + 2) (omega arith))

field_ends : (max fill t : ℕ) → t + 3 ≤ max → Ends max fill (stage.FieldEnds t)
field_ends max fill t room =
    through max fill (stage.FieldEnds t) (10 ∷ []) (stage.FieldDue (t + 1))
    (one max (stage.FieldEnds t) 10 (stage.FieldDue (t + 1)) (fits max (t + 3) (stage.FieldDue (t + 1)) room) refl refl refl)
    (none_more max fill (t + 1) (omega arith))

-- ---- the last chunk

abbrev last_text : List ℕ
last_text = 48 ∷ (line_end ++ line_end)

last_reach : (max : ℕ) → 2 ≤ max → Reaches max stage.SizeDue last_text [] stage.Whole
last_reach max least =
    cons max stage.SizeDue 48 (stage.InSize 1 0) (line_end ++ line_end) [] stage.Whole (one max stage.SizeDue 48 (stage.InSize 1 0) refl refl refl refl)
    (join max (stage.InSize 1 0) line_end [] (stage.FieldDue 0) line_end [] stage.Whole (size_ends max 1 0) (none_reach max 0 (omega arith)))

chunk_reach : (max : ℕ) → 2 ≤ max → Reaches max stage.ChunkEnds (line_end ++ last_text) [] stage.Whole
chunk_reach max least = join max stage.ChunkEnds line_end [] stage.SizeDue last_text [] stage.Whole (chunk_ends max) (last_reach max least)

last_chunk : (max fill : ℕ) → 2 ≤ max → Ends max fill stage.SizeDue
last_chunk max fill least = record { bytes = last_text; count = 0; reaches = last_reach max least }

data_ends : (max fill n : ℕ) → 2 ≤ max → 1 ≤ n → Ends max fill (stage.InChunk n)
data_ends max fill n least some = record {
  bytes = replicate n fill ++ (line_end ++ last_text);
  count = n;
  reaches = of_content max (stage.InChunk n) _ _ (replicate n fill) stage.Whole
      (join max (stage.InChunk n) (replicate n fill) (replicate n fill) stage.ChunkEnds (line_end ++ last_text) [] stage.Whole
      (data_reach max n (replicate n fill) (length-replicate n fill) some) (chunk_reach max least))
      (append_nil (replicate n fill));
}

-- ---- the line before a chunk

line_end_ends : (max fill v : ℕ) → 2 ≤ max → Ends max fill (behind_line v)
line_end_ends max fill v least =
    chosen (Ends max fill) (leb v 0) (stage.FieldDue 0) (stage.InChunk v)
    (λ e. none_more max fill 0 (omega arith)) (λ e. data_ends max fill v least (omega (arith, leb-false v 0 e)))

-- ---- any stage

-- What isn't bad, and has room for what every continuation needs, goes on to the end of a body.
pub ends : (max fill : ℕ) (s : BodyStage) → 2 ≤ max → is_bad s ≡ false → HasRoom max s → Ends max fill s
ends max fill stage.Whole least good room = record { bytes = []; count = 0; reaches = stay max stage.Whole }
ends max fill (stage.Counted n) least good room = record {
  bytes = replicate n fill;
  count = n;
  reaches = counted_reach max n (replicate n fill) (length-replicate n fill) room;
}
ends max fill stage.SizeDue least good room = last_chunk max fill least
ends max fill (stage.InSize d v) least good room =
    through max fill (stage.InSize d v) line_end (behind_line v) (size_ends max d v) (line_end_ends max fill v least)
ends max fill (stage.InBlanks l v) least good room =
    through max fill (stage.InBlanks l v) (59 ∷ line_end) (behind_line v) (blanks_reach max l v [] [] refl refl (omega arith)) (line_end_ends max fill v least)
ends max fill (stage.InExtension l v) least good room =
    through max fill (stage.InExtension l v) line_end (behind_line v) (text_ends max l v) (line_end_ends max fill v least)
ends max fill (stage.LineEnds v) least good room =
    through max fill (stage.LineEnds v) (10 ∷ []) (behind_line v) (line_ends max v) (line_end_ends max fill v least)
ends max fill (stage.InChunk n) least good room = data_ends max fill n least room
ends max fill stage.ChunkEnds least good room = record { bytes = line_end ++ last_text; count = 0; reaches = chunk_reach max least }
ends max fill stage.ChunkEnded least good room =
    through max fill stage.ChunkEnded (10 ∷ []) stage.SizeDue (one max stage.ChunkEnded 10 stage.SizeDue refl refl refl refl) (last_chunk max fill least)
ends max fill (stage.FieldDue t) least good room = none_more max fill t room
ends max fill (stage.InName t) least good room = name_ends max fill t room
ends max fill (stage.InValue t) least good room = value_ends max fill t room
ends max fill (stage.FieldEnds t) least good room = field_ends max fill t room
ends max fill stage.LastEnds least good room =
    record { bytes = 10 ∷ []; count = 0; reaches = one max stage.LastEnds 10 stage.Whole refl refl refl refl }
ends max fill stage.Malformed least good room = cc
ends max fill stage.TooLong least good room = cc
