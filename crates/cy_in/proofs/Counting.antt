-- What a mark counts: the bytes that belong to the body, and the content among them.
use Rattle.std.proofs.Common.{◌≡◌, ℕ, ◌+◌, ◌-◌, ◌<◌, ◌≤◌, Bool, true, false, List, [], ◌∷◌, ◌++◌, length, take, drop, refl, sym, ap, ◌∙◌, arith, cond, leb, ltb, suc, subst}
use Rattle.std.proofs.Math.Seq.{take-nil, drop-append_seam}
use Rattle.std.proofs.lemmas.Bool.{ltb-true, ltb-false}
use Rattle.std.proofs.lemmas.List.{length-take, take-append-drop, take-take}
use Rattle.cy_event.specs.Bodies.{advanced, byte_before, content_in, content_left, count, is_bad, is_content, is_over, next_stage, scan_byte, scan_bytes}
use Rattle.cy_event.specs.declared.body.BodyMark.{BodyMark}
use Rattle.cy_event.specs.declared.body.BodyStage.{BodyStage}
use Rattle.cy_event.specs.declared.body.BodyStage.TheVariants as stage
use Rattle.cy_event.proofs.BodyRuns.{one_byte}
use Rattle.cy_in.proofs.Choices.{chosen, never_both, tested}
use Rattle.cy_in.proofs.BodiesAt.{bad_is_over}
use Rattle.cy_in.proofs.GoingOn.{all_counted}
use Rattle.cy_in.proofs.Joins.{content_join, over_content, over_scan, scan_join}
use Rattle.cy_in.proofs.Reaching.{mark_at}
use Rattle.cy_in.proofs.WholeWritten.{bad_step, good_step}

-- ---- bytes

-- the mark counts one byte more, or none
record CountsByte (m next : BodyMark) : Type 0 where
  least : m.raw ≤ next.raw
  most : next.raw ≤ m.raw + 1

counts_byte : (max : ℕ) (m : BodyMark) (b : ℕ) → CountsByte m (scan_byte max m b)
counts_byte max m b = by_tests (is_over m.stage) (is_bad (next_stage max m.stage b))
  where
    by_tests : (over wrong : Bool) →
        CountsByte m (cond over m (cond wrong (record m { stage = next_stage max m.stage b }) (advanced m (next_stage max m.stage b))))
    by_tests true wrong = record { least = omega arith; most = omega arith }
    by_tests false true = record { least = omega arith; most = omega arith }
    by_tests false false = record { least = omega arith; most = omega arith }

-- the mark counts so many of the bytes
pub record CountsBytes (m next : BodyMark) (n : ℕ) : Type 0 where
  pub least : m.raw ≤ next.raw
  pub most : next.raw ≤ m.raw + n

pub counts_bytes : (max : ℕ) (m : BodyMark) (bytes : List ℕ) → CountsBytes m (scan_bytes max m bytes) (length bytes)
counts_bytes max m [] = record { least = omega arith; most = omega arith }
counts_bytes max m (b ∷ bytes) =
    let one = counts_byte max m b in
    let more = counts_bytes max (scan_byte max m b) bytes in
    record { least = omega (arith, one.least, more.least); most = omega (arith, one.most, more.most) }

-- ---- content

-- a byte of content makes nothing bad
content_good : (max : ℕ) (s : BodyStage) (b : ℕ) → is_content s ≡ true → is_bad (next_stage max s b) ≡ false
content_good max (stage.Counted n) b held = chosen (λ x. is_bad x ≡ false) (leb n 1) stage.Whole (stage.Counted (n - 1)) (λ e. refl) (λ e. refl)
content_good max (stage.InChunk n) b held = chosen (λ x. is_bad x ≡ false) (leb n 1) stage.ChunkEnds (stage.InChunk (n - 1)) (λ e. refl) (λ e. refl)
content_good max _ b held = cc

bad_is_other : (max : ℕ) (s : BodyStage) (b : ℕ) → is_bad (next_stage max s b) ≡ true → is_content s ≡ false
bad_is_other max s b wrong =
    tested (is_content s) (is_content s ≡ false)
    (λ held. absurd (never_both _ wrong (content_good max s b held))) (λ other. other)

counted_other : (max : ℕ) (m : BodyMark) (b : ℕ) → is_content m.stage ≡ false → (scan_byte max m b).content ≡ m.content
counted_other max m b other = by_tests (is_over m.stage) (is_bad (next_stage max m.stage b))
  where
    none : m.content + count (is_content m.stage) ≡ m.content
    none = rw other (omega arith)

    by_tests : (over wrong : Bool) →
        (cond over m (cond wrong (record m { stage = next_stage max m.stage b }) (advanced m (next_stage max m.stage b)))).content ≡ m.content
    by_tests true wrong = refl
    by_tests false true = refl
    by_tests false false = none

-- the mark counts all content among the bytes
pub content_counted : (max : ℕ) (m : BodyMark) (bytes : List ℕ) → (scan_bytes max m bytes).content ≡ m.content + length (content_in max m bytes)
content_counted max m [] = omega arith
content_counted max m (b ∷ bytes) =
    tested (is_content m.stage) ((scan_bytes max m (b ∷ bytes)).content ≡ m.content + length (content_in max m (b ∷ bytes)))
    (λ held. let step : (scan_byte max m b).content ≡ m.content + 1 = ap (λ (r : BodyMark). r.content) (one_byte max m b (omega (arith, ltb-true 0 (content_left m.stage) held))) in
    let size : length (content_in max m (b ∷ bytes)) ≡ suc (length (content_in max (scan_byte max m b) bytes)) =
    ap (λ (t : Bool). length (byte_before t b (content_in max (scan_byte max m b) bytes))) held in
    omega (arith, content_counted max (scan_byte max m b) bytes))
    (λ other. let step : (scan_byte max m b).content ≡ m.content = counted_other max m b other in
    let size : length (content_in max m (b ∷ bytes)) ≡ length (content_in max (scan_byte max m b) bytes) =
    ap (λ (t : Bool). length (byte_before t b (content_in max (scan_byte max m b) bytes))) other in
    omega (arith, content_counted max (scan_byte max m b) bytes))

-- ---- the bytes that belong to the body hold all its content

none_held : (max raw n : ℕ) (s : BodyStage) (bytes : List ℕ) (k : ℕ) → k ≡ 0 → content_in max (mark_at raw n s) bytes ≡ [] →
    content_in max (mark_at raw n s) bytes ≡ content_in max (mark_at raw n s) (take k bytes)
none_held max raw n s bytes k none empty = rw none empty

held_more : (max : ℕ) (m : BodyMark) (b : ℕ) (bytes : List ℕ) (k j : ℕ) → k ≡ suc j →
    content_in max (scan_byte max m b) bytes ≡ content_in max (scan_byte max m b) (take j bytes) →
    content_in max m (b ∷ bytes) ≡ content_in max m (take k (b ∷ bytes))
held_more max m b bytes k j more same = rw more (ap (byte_before (is_content m.stage) b) same)

pub held_within : (max raw n : ℕ) (s : BodyStage) (bytes : List ℕ) →
    content_in max (mark_at raw n s) bytes ≡ content_in max (mark_at raw n s) (take ((scan_bytes max (mark_at raw n s) bytes).raw - raw) bytes)
held_within max raw n s [] = sym (ap (content_in max (mark_at raw n s)) (take-nil (raw - raw)))
held_within max raw n s (b ∷ bytes) =
    tested (is_over s) (content_in max (mark_at raw n s) (b ∷ bytes) ≡ content_in max (mark_at raw n s) (take (end.raw - raw) (b ∷ bytes)))
    (λ over. none_held max raw n s (b ∷ bytes) (end.raw - raw)
    (omega (arith, ap (λ (m : BodyMark). m.raw) (over_scan max (mark_at raw n s) (b ∷ bytes) over)))
    (over_content max (mark_at raw n s) (b ∷ bytes) over))
    (λ going. tested (is_bad next) (content_in max (mark_at raw n s) (b ∷ bytes) ≡ content_in max (mark_at raw n s) (take (end.raw - raw) (b ∷ bytes)))
    (λ wrong. let step = bad_step max raw n s b going wrong in
    let over = bad_is_over next wrong in
    none_held max raw n s (b ∷ bytes) (end.raw - raw)
    (omega (arith, ap (λ (m : BodyMark). (scan_bytes max m bytes).raw) step, ap (λ (m : BodyMark). m.raw) (over_scan max (mark_at raw n next) bytes over)))
    (ap (λ (t : Bool). byte_before t b (content_in max (scan_byte max (mark_at raw n s) b) bytes)) (bad_is_other max s b wrong)
    ∙ (ap (λ (m : BodyMark). content_in max m bytes) step ∙ over_content max (mark_at raw n next) bytes over)))
    (λ good. let step = good_step max raw n s b going good in
    let later = counts_bytes max (mark_at (raw + 1) (n + count (is_content s)) next) bytes in
    let there : end.raw ≡ (scan_bytes max (mark_at (raw + 1) (n + count (is_content s)) next) bytes).raw = ap (λ (m : BodyMark). (scan_bytes max m bytes).raw) step in
    held_more max (mark_at raw n s) b bytes (end.raw - raw)
    ((scan_bytes max (mark_at (raw + 1) (n + count (is_content s)) next) bytes).raw - (raw + 1)) (omega (arith, later.least, there))
    (ap (λ (m : BodyMark). content_in max m bytes) step
    ∙ (held_within max (raw + 1) (n + count (is_content s)) next bytes
    ∙ sym (ap (λ (m : BodyMark). content_in max m (take ((scan_bytes max (mark_at (raw + 1) (n + count (is_content s)) next) bytes).raw - (raw + 1)) bytes)) step)))))
  where
    next : BodyStage
    next = next_stage max s b

    end : BodyMark
    end = scan_bytes max (mark_at raw n s) (b ∷ bytes)

-- ---- the bytes that belong to the body lead to its mark

scan_more : (max : ℕ) (m : BodyMark) (b : ℕ) (bytes : List ℕ) (k j : ℕ) → k ≡ suc j →
    scan_bytes max (scan_byte max m b) bytes ≡ scan_bytes max (scan_byte max m b) (take j bytes) →
    scan_bytes max m (b ∷ bytes) ≡ scan_bytes max m (take k (b ∷ bytes))
scan_more max m b bytes k j more same = rw more same

-- unless the byte behind them is bad
pub scan_within : (max raw n : ℕ) (s : BodyStage) (bytes : List ℕ) → is_bad (scan_bytes max (mark_at raw n s) bytes).stage ≡ false →
    scan_bytes max (mark_at raw n s) bytes ≡ scan_bytes max (mark_at raw n s) (take ((scan_bytes max (mark_at raw n s) bytes).raw - raw) bytes)
scan_within max raw n s [] fine = sym (ap (scan_bytes max (mark_at raw n s)) (take-nil (raw - raw)))
scan_within max raw n s (b ∷ bytes) fine =
    tested (is_over s) (end ≡ scan_bytes max (mark_at raw n s) (take (end.raw - raw) (b ∷ bytes)))
    (λ over. over_scan max (mark_at raw n s) (b ∷ bytes) over
    ∙ sym (over_scan max (mark_at raw n s) (take (end.raw - raw) (b ∷ bytes)) over))
    (λ going. tested (is_bad next) (end ≡ scan_bytes max (mark_at raw n s) (take (end.raw - raw) (b ∷ bytes)))
    (λ wrong. let stays : end ≡ mark_at raw n next =
    ap (λ (m : BodyMark). scan_bytes max m bytes) (bad_step max raw n s b going wrong)
    ∙ over_scan max (mark_at raw n next) bytes (bad_is_over next wrong) in
    absurd (never_both (is_bad end.stage) (ap (λ (m : BodyMark). is_bad m.stage) stays ∙ wrong) fine))
    (λ good. let step = good_step max raw n s b going good in
    let on : BodyMark = mark_at (raw + 1) (n + count (is_content s)) next in
    let later = counts_bytes max on bytes in
    let there : end ≡ scan_bytes max on bytes = ap (λ (m : BodyMark). scan_bytes max m bytes) step in
    scan_more max (mark_at raw n s) b bytes (end.raw - raw) ((scan_bytes max on bytes).raw - (raw + 1))
    (omega (arith, later.least, ap (λ (m : BodyMark). m.raw) there))
    (there
    ∙ (scan_within max (raw + 1) (n + count (is_content s)) next bytes (sym (ap (λ (m : BodyMark). is_bad m.stage) there) ∙ fine)
    ∙ sym (ap (λ (m : BodyMark). scan_bytes max m (take ((scan_bytes max on bytes).raw - (raw + 1)) bytes)) step)))))
  where
    next : BodyStage
    next = next_stage max s b

    end : BodyMark
    end = scan_bytes max (mark_at raw n s) (b ∷ bytes)

-- the fewest bytes that hold so much content all belong to the body
pub all_belong : (max n k : ℕ) (m : BodyMark) (bytes : List ℕ) → ((j : ℕ) → j < k → length (content_in max m (take j bytes)) < n) →
    length (content_in max m (take k bytes)) ≡ n → (scan_bytes max m (take k bytes)).raw ≡ m.raw + k
all_belong max n k m bytes fewest size =
    let mark : BodyMark = scan_bytes max m (take k bytes) in
    let d : ℕ = mark.raw - m.raw in
    let counts = counts_bytes max m (take k bytes) in
    let most : d ≤ k = omega (arith, counts.most, length-take k bytes) in
    let held : length (content_in max m (take d bytes)) ≡ n =
    ap (λ (xs : List ℕ). length (content_in max m xs)) (sym (take-take d k bytes most))
    ∙ (ap length (sym (held_within max m.raw m.content m.stage (take k bytes))) ∙ size) in
    tested (ltb d k) (mark.raw ≡ m.raw + k)
    (λ less. absurd (omega (arith, held, fewest d (omega (arith, ltb-true d k less)))))
    (λ all. omega (arith, ltb-false d k all, counts.least, most))

-- ---- going on from a mark within the bytes

drop_taken : (k : ℕ) (bytes : List ℕ) → drop (length (take k bytes)) bytes ≡ drop k bytes
drop_taken k bytes =
    subst (λ (xs : List ℕ). drop (length (take k bytes)) xs ≡ drop k bytes) (take-append-drop k bytes) (drop-append_seam (take k bytes) (drop k bytes))

-- where the mark behind the first bytes isn't over, it has counted them all
at_mark : (max : ℕ) (m : BodyMark) (bytes : List ℕ) (k : ℕ) → is_over (scan_bytes max m (take k bytes)).stage ≡ false →
    drop ((scan_bytes max m (take k bytes)).raw - m.raw) bytes ≡ drop k bytes
at_mark max m bytes k going =
    let n : (scan_bytes max m (take k bytes)).raw - m.raw ≡ length (take k bytes) = omega (arith, all_counted max m.raw m.content m.stage (take k bytes) going) in
    ap (λ (i : ℕ). drop i bytes) n ∙ drop_taken k bytes

pub resume_scan : (max : ℕ) (m : BodyMark) (bytes : List ℕ) (k : ℕ) →
    scan_bytes max m bytes ≡ scan_bytes max (scan_bytes max m (take k bytes)) (drop ((scan_bytes max m (take k bytes)).raw - m.raw) bytes)
resume_scan max m bytes k =
    ap (scan_bytes max m) (sym (take-append-drop k bytes))
    ∙ (scan_join max m (take k bytes) (drop k bytes)
    ∙ tested (is_over mid.stage) (scan_bytes max mid (drop k bytes) ≡ scan_bytes max mid (drop (mid.raw - m.raw) bytes))
    (λ over. over_scan max mid (drop k bytes) over ∙ sym (over_scan max mid (drop (mid.raw - m.raw) bytes) over))
    (λ going. ap (scan_bytes max mid) (sym (at_mark max m bytes k going))))
  where
    mid : BodyMark
    mid = scan_bytes max m (take k bytes)

pub resume_content : (max : ℕ) (m : BodyMark) (bytes : List ℕ) (k : ℕ) →
    content_in max m bytes ≡ content_in max m (take k bytes) ++ content_in max (scan_bytes max m (take k bytes)) (drop ((scan_bytes max m (take k bytes)).raw - m.raw) bytes)
resume_content max m bytes k =
    ap (content_in max m) (sym (take-append-drop k bytes))
    ∙ (content_join max m (take k bytes) (drop k bytes)
    ∙ ap (λ (c : List ℕ). content_in max m (take k bytes) ++ c)
    (tested (is_over mid.stage) (content_in max mid (drop k bytes) ≡ content_in max mid (drop (mid.raw - m.raw) bytes))
    (λ over. over_content max mid (drop k bytes) over ∙ sym (over_content max mid (drop (mid.raw - m.raw) bytes) over))
    (λ going. ap (content_in max mid) (sym (at_mark max m bytes k going)))))
  where
    mid : BodyMark
    mid = scan_bytes max m (take k bytes)
