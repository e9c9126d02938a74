-- What a run of content does to a mark, so that content is passed by as a slice.
use Rattle.std.proofs.Common.{◌≡◌, ℕ, zero, suc, ◌+◌, ◌-◌, ◌≤◌, Bool, true, false, List, [], ◌∷◌, length, drop, refl, ap, ◌∙◌, arith, leb, cond}
use Rattle.std.proofs.lemmas.Bool.{lt-ltb}
use Rattle.std.proofs.lemmas.Bool.Decides.{nat_tests}
use Rattle.cy_event.specs.Bodies.{scan_byte, scan_bytes, content_left, run_after, run_stage, is_bad, is_content}
use Rattle.cy_event.specs.declared.body.BodyStage.{BodyStage}
use Rattle.cy_event.specs.declared.body.BodyStage.TheVariants as stage
use Rattle.cy_event.specs.declared.body.BodyMark.{BodyMark}

abbrev mark_at : ℕ → ℕ → BodyStage → BodyMark
mark_at raw content s = record { raw = raw; content = content; stage = s }

-- ---- one byte of content

good_count : (t : Bool) (n : ℕ) → is_bad (cond t stage.Whole (stage.Counted n)) ≡ false
good_count true n = refl
good_count false n = refl

good_chunk : (t : Bool) (n : ℕ) → is_bad (cond t stage.ChunkEnds (stage.InChunk n)) ≡ false
good_chunk true n = refl
good_chunk false n = refl

byte_at : (max raw content : ℕ) (s : BodyStage) (b : ℕ) → 1 ≤ content_left s →
    scan_byte max (mark_at raw content s) b ≡ run_after (mark_at raw content s) 1
byte_at max raw content (stage.Counted n) b left = rw (good_count (leb n 1) (n - 1), lt-ltb 0 n left)
byte_at max raw content (stage.InChunk n) b left = rw (good_chunk (leb n 1) (n - 1), lt-ltb 0 n left)
byte_at max raw content _ b left = absurd (omega arith)

pub one_byte : (max : ℕ) (m : BodyMark) (b : ℕ) → 1 ≤ content_left m.stage → scan_byte max m b ≡ run_after m 1
one_byte max m b left = byte_at max m.raw m.content m.stage b left

pub content_is : (s : BodyStage) → 1 ≤ content_left s → is_content s ≡ true
content_is s left = lt-ltb 0 (content_left s) left

-- ---- a run and one byte more

same_test : (n k : ℕ) → 1 ≤ n → leb (n - 1) k ≡ leb n (k + 1)
same_test n k some = grind (arith, nat_tests)

past_one : (n k : ℕ) → 1 ≤ k → k + 1 ≤ n → leb n 1 ≡ false
past_one n k some left = grind (arith, nat_tests)

stage_more : (s : BodyStage) (k : ℕ) → 1 ≤ k → k + 1 ≤ content_left s → run_stage (run_stage s 1) k ≡ run_stage s (k + 1)
stage_more (stage.Counted n) k some left =
    let fewer : n - 1 - k ≡ n - (k + 1) = omega arith in
    rw (past_one n k some left, same_test n k (omega arith), fewer)
stage_more (stage.InChunk n) k some left =
    let fewer : n - 1 - k ≡ n - (k + 1) = omega arith in
    rw (past_one n k some left, same_test n k (omega arith), fewer)
stage_more _ k some left = absurd (omega arith)

same_mark : (raw raw' content content' : ℕ) (s s' : BodyStage) → raw ≡ raw' → content ≡ content' → s ≡ s' →
    mark_at raw content s ≡ mark_at raw' content' s'
same_mark raw raw' content content' s s' p q r = cc

pub run_more : (m : BodyMark) (k : ℕ) → 1 ≤ k → k + 1 ≤ content_left m.stage → run_after (run_after m 1) k ≡ run_after m (k + 1)
run_more m k some left =
    same_mark _ _ _ _ _ _ (omega arith) (omega arith) (stage_more m.stage k some left)

pub left_less : (s : BodyStage) (k : ℕ) → 1 ≤ k → k + 1 ≤ content_left s → k ≤ content_left (run_stage s 1)
left_less (stage.Counted n) k some left = rw (past_one n k some left) (omega arith)
left_less (stage.InChunk n) k some left = rw (past_one n k some left) (omega arith)
left_less _ k some left = absurd (omega arith)

-- ---- a run

-- the mark behind a run of content, and what stands behind it
pub scan_run : (max : ℕ) (m : BodyMark) (bytes : List ℕ) (k : ℕ) → 1 ≤ k → k ≤ content_left m.stage → k ≤ length bytes →
    scan_bytes max m bytes ≡ scan_bytes max (run_after m k) (drop k bytes)
scan_run max m bytes zero some left here = absurd (omega arith)
scan_run max m [] (suc k) some left here = absurd (omega arith)
scan_run max m (b ∷ bytes) (suc zero) some left here = rw (one_byte max m b left)
scan_run max m (b ∷ bytes) (suc (suc k)) some left here =
    let more : 1 ≤ suc k = omega arith in
    let within : suc k + 1 ≤ content_left m.stage = omega arith in
    let same : suc k + 1 ≡ suc (suc k) = omega arith in
    rw (one_byte max m b (omega arith))
    (scan_run max (run_after m 1) bytes (suc k) more (left_less m.stage (suc k) more within) (omega arith)
    ∙ ap (λ (r : BodyMark). scan_bytes max r (drop (suc k) bytes)) (run_more m (suc k) more within ∙ ap (run_after m) same))
