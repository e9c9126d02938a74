-- A body, as it is written, is read to its end.
use Rattle.std.proofs.Common.{◌≡◌, ℕ, ◌+◌, ◌-◌, ◌≤◌, ◌<◌, List, [], ◌∷◌, ◌++◌, length, refl, sym, ap, ◌∙◌, arith, leb}
use Rattle.std.specs.Prelude.{All}
use Rattle.std.specs.List.{flat_map}
use Rattle.std.proofs.lemmas.Bool.{le-leb, lt-leb, lt-ltb}
use Rattle.std.proofs.lemmas.List.Elements.{All-head, All-tail}
use Rattle.cy_event.specs.Bodies.{behind_line, body_at, body_of, body_start, content_in, first_stage, is_over, scan_bytes, whole}
use Rattle.cy_event.specs.BodyGrammar.{Chunk, ChunkedBody, IsBody, IsChunk, IsChunked, body_text, chunk_text, content_of, line_end, line_text, size_of, trailers_text}
use Rattle.cy_event.specs.declared.framing.Framing.{Framing}
use Rattle.cy_event.specs.declared.framing.Framing.TheVariants as framing
use Rattle.cy_event.specs.declared.body.BodyMark.{BodyMark}
use Rattle.cy_event.specs.declared.body.BodyStage.TheVariants as stage
use Rattle.cy_in.proofs.Joins.{append_nil, settled_body}
use Rattle.cy_in.proofs.LineWritten.{line_reach}
use Rattle.cy_in.proofs.TrailersWritten.{trailers_reach}
use Rattle.cy_in.proofs.Reaching.{Reaches, cons, from_stage, join, mark_at, of_bytes, of_content, one, one_content, stay, to_stage}
use Rattle.cy_in.proofs.Choices.{where_not, where_yes}

-- ---- content

pub data_reach : (max n : ℕ) (data' : List ℕ) → length data' ≡ n → 1 ≤ n → Reaches max (stage.InChunk n) data' data' stage.ChunkEnds
data_reach max n [] size some = absurd (omega arith)
data_reach max n (b ∷ []) size some =
    let few : n ≤ 1 = omega arith in
    one_content max (stage.InChunk n) b stage.ChunkEnds (where_yes (leb n 1) _ _ (le-leb n 1 few)) refl refl (lt-ltb 0 n some)
data_reach max n (b ∷ c ∷ rest) size some =
    let more : 1 < n = omega arith in
    join max (stage.InChunk n) (b ∷ []) (b ∷ []) (stage.InChunk (n - 1)) (c ∷ rest) (c ∷ rest) stage.ChunkEnds
    (one_content max (stage.InChunk n) b (stage.InChunk (n - 1)) (where_not (leb n 1) _ _ (lt-leb n 1 more)) refl refl (lt-ltb 0 n some))
    (data_reach max (n - 1) (c ∷ rest) (omega arith) (omega arith))

pub counted_reach : (max n : ℕ) (bytes : List ℕ) → length bytes ≡ n → 1 ≤ n → Reaches max (stage.Counted n) bytes bytes stage.Whole
counted_reach max n [] size some = absurd (omega arith)
counted_reach max n (b ∷ []) size some =
    let few : n ≤ 1 = omega arith in
    one_content max (stage.Counted n) b stage.Whole (where_yes (leb n 1) _ _ (le-leb n 1 few)) refl refl (lt-ltb 0 n some)
counted_reach max n (b ∷ c ∷ rest) size some =
    let more : 1 < n = omega arith in
    join max (stage.Counted n) (b ∷ []) (b ∷ []) (stage.Counted (n - 1)) (c ∷ rest) (c ∷ rest) stage.Whole
    (one_content max (stage.Counted n) b (stage.Counted (n - 1)) (where_not (leb n 1) _ _ (lt-leb n 1 more)) refl refl (lt-ltb 0 n some))
    (counted_reach max (n - 1) (c ∷ rest) (omega arith) (omega arith))

-- ---- chunks

pub chunk_ends : (max : ℕ) → Reaches max stage.ChunkEnds line_end [] stage.SizeDue
chunk_ends max =
    cons max stage.ChunkEnds 13 stage.ChunkEnded (10 ∷ []) [] stage.SizeDue
    (one max stage.ChunkEnds 13 stage.ChunkEnded refl refl refl refl) (one max stage.ChunkEnded 10 stage.SizeDue refl refl refl refl)

chunk_begins : (n : ℕ) → 1 ≤ n → behind_line n ≡ stage.InChunk n
chunk_begins n some = where_not (leb n 0) _ _ (lt-leb n 0 some)

chunk_reach : (max : ℕ) (c : Chunk) → IsChunk c → Reaches max stage.SizeDue (chunk_text c) c.bytes stage.SizeDue
chunk_reach max c right =
    let some : 1 ≤ size_of c.line.digits = omega (arith, right.size, right.some) in
    let size : length c.bytes ≡ size_of c.line.digits = sym right.size in
    of_content max stage.SizeDue (chunk_text c) (c.bytes ++ []) c.bytes stage.SizeDue
    (join max stage.SizeDue (line_text c.line) [] (stage.InChunk (size_of c.line.digits)) (c.bytes ++ line_end) (c.bytes ++ []) stage.SizeDue
    (to_stage max stage.SizeDue (line_text c.line) [] _ _ (line_reach max c.line right.line) (chunk_begins (size_of c.line.digits) some))
    (join max (stage.InChunk (size_of c.line.digits)) c.bytes c.bytes stage.ChunkEnds line_end [] stage.SizeDue
    (data_reach max (size_of c.line.digits) c.bytes size some) (chunk_ends max)))
    (append_nil c.bytes)

chunks_reach : (max : ℕ) (cs : List Chunk) → All IsChunk cs →
    Reaches max stage.SizeDue (flat_map chunk_text cs) (flat_map (λ (c : Chunk). c.bytes) cs) stage.SizeDue
chunks_reach max [] right = stay max stage.SizeDue
chunks_reach max (c ∷ cs) right =
    join max stage.SizeDue (chunk_text c) c.bytes stage.SizeDue (flat_map chunk_text cs) (flat_map (λ (c : Chunk). c.bytes) cs) stage.SizeDue
    (chunk_reach max c (All-head IsChunk c cs right)) (chunks_reach max cs (All-tail IsChunk c cs right))

-- ---- bodies

chunked_reach : (max : ℕ) (b : ChunkedBody) → IsChunked max b → Reaches max stage.SizeDue (body_text b) (content_of b) stage.Whole
chunked_reach max b right =
    let none : behind_line (size_of b.last.digits) ≡ stage.FieldDue 0 = ap behind_line right.end in
    of_content max stage.SizeDue (body_text b) (content_of b ++ []) (content_of b) stage.Whole
    (join max stage.SizeDue (flat_map chunk_text b.chunks) (content_of b) stage.SizeDue (line_text b.last ++ trailers_text b.trailers) [] stage.Whole
    (chunks_reach max b.chunks right.chunks)
    (join max stage.SizeDue (line_text b.last) [] (stage.FieldDue 0) (trailers_text b.trailers) [] stage.Whole
    (to_stage max stage.SizeDue (line_text b.last) [] _ _ (line_reach max b.last right.last) none)
    (trailers_reach max 0 b.trailers right.trailers (omega (arith, right.short)))))
    (append_nil (content_of b))

-- what leads to the end is whole, whatever stands behind it
reached_whole : (max : ℕ) (f : Framing) (bytes content more : List ℕ) → Reaches max (first_stage f) bytes content stage.Whole →
    body_of max f (bytes ++ more) ≡ whole content (length bytes)
reached_whole max f bytes content more r =
    let e : scan_bytes max (body_start f) bytes ≡ mark_at (0 + length bytes) (0 + length content) stage.Whole = r.mark 0 0 in
    let size : 0 + length bytes ≡ length bytes = omega arith in
    settled_body max f bytes more (ap (λ (m : BodyMark). is_over m.stage) e)
    ∙ (ap (λ (m : BodyMark). body_at m (content_in max (body_start f) bytes) m.stage) e
    ∙ (ap (λ (c : List ℕ). whole c (0 + length bytes)) (r.content 0 0)
    ∙ ap (λ (n : ℕ). whole content n) size))

counted_from : (max n : ℕ) (bytes : List ℕ) → length bytes ≡ n → Reaches max (first_stage (framing.Length n)) bytes bytes stage.Whole
counted_from max n [] size =
    let none : n ≤ 0 = omega arith in
    from_stage max stage.Whole (first_stage (framing.Length n)) [] [] stage.Whole (stay max stage.Whole) (sym (where_yes (leb n 0) _ _ (le-leb n 0 none)))
counted_from max n (b ∷ bytes) size =
    let some : 0 < n = omega arith in
    from_stage max (stage.Counted n) (first_stage (framing.Length n)) (b ∷ bytes) (b ∷ bytes) stage.Whole
    (counted_reach max n (b ∷ bytes) size some) (sym (where_not (leb n 0) _ _ (lt-leb n 0 some)))

pub written_is_whole : (max : ℕ) (f : Framing) (bytes content more : List ℕ) → IsBody max f bytes content →
    body_of max f (bytes ++ more) ≡ whole content (length bytes)
written_is_whole max framing.None bytes content more body =
    reached_whole max framing.None bytes content more
    (of_bytes max stage.Whole [] bytes content stage.Whole (of_content max stage.Whole [] [] content stage.Whole (stay max stage.Whole) (sym body.1)) (sym body.0))
written_is_whole max (framing.Length n) bytes content more body =
    reached_whole max (framing.Length n) bytes content more
    (of_content max (first_stage (framing.Length n)) bytes bytes content stage.Whole (counted_from max n bytes body.0) (sym body.1))
written_is_whole max framing.Chunked bytes content more body =
    reached_whole max framing.Chunked bytes content more
    (of_bytes max stage.SizeDue (body_text body.0) bytes content stage.Whole
    (of_content max stage.SizeDue (body_text body.0) (content_of body.0) content stage.Whole (chunked_reach max body.0 body.1) body.3) body.2)
