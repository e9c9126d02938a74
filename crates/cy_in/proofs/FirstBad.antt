-- The first byte behind which nothing goes on.
use Rattle.std.proofs.Common.{◌≡◌, ℕ, ◌+◌, ◌≤◌, true, false, List, [], ◌∷◌, ◌++◌, length, take, refl, sym, ap, ◌∙◌, subst, arith, length-append, append_assoc, leb}
use Rattle.std.proofs.lemmas.List.{take_at}
use Rattle.cy_event.specs.Bodies.{BadBody, bad, body_at, body_of, body_start, content_in, count, first_stage, is_bad, is_content, is_over, malformed_at, next_stage, scan_bytes, trailers_too_large}
use Rattle.cy_event.specs.BodyGrammar.{IsBody}
use Rattle.cy_event.specs.declared.framing.Framing.{Framing}
use Rattle.cy_event.specs.declared.framing.Framing.TheVariants as framing
use Rattle.cy_event.specs.declared.body.BodyMark.{BodyMark}
use Rattle.cy_event.specs.declared.body.BodyStage.{BodyStage}
use Rattle.cy_event.specs.declared.body.BodyStage.TheVariants as stage
use Rattle.cy_in.specs.Continuations.{GoesOn, IsCause, IsFirstBad}
use Rattle.cy_in.proofs.Choices.{chosen, never_both, tested}
use Rattle.cy_in.proofs.BodiesAt.{bad_is_over, bad_stage, going_is_good}
use Rattle.cy_in.proofs.GoingOn.{bad_ends, first_step, good_goes_on}
use Rattle.cy_in.proofs.Joins.{over_scan, scan_join}
use Rattle.cy_in.proofs.OtherLimits.{enough, good_stays, malformed_stays, too_long_lifts}
use Rattle.cy_in.proofs.Reaching.{mark_at, same_mark}
use Rattle.cy_in.proofs.WholeWritten.{bad_step, good_step}

-- ---- the byte

-- the byte that makes a body bad, what stands before it and behind it, and the mark there
record Found (max raw n : ℕ) (s : BodyStage) (bytes : List ℕ) : Type 0 where
  before : List ℕ
  byte : ℕ
  behind : List ℕ
  held : ℕ
  at : BodyStage
  is : bytes ≡ before ++ (byte ∷ behind)
  scanned : scan_bytes max (mark_at raw n s) before ≡ mark_at (raw + length before) held at
  going : is_over at ≡ false
  wrong : is_bad (next_stage max at byte) ≡ true
  mark : scan_bytes max (mark_at raw n s) bytes ≡ mark_at (raw + length before) held (next_stage max at byte)

found_here : (max raw n : ℕ) (s : BodyStage) (b : ℕ) (bytes : List ℕ) → is_over s ≡ false → is_bad (next_stage max s b) ≡ true → Found max raw n s (b ∷ bytes)
found_here max raw n s b bytes going wrong =
    let none : raw ≡ raw + 0 = omega arith in
    record {
      before = [];
      byte = b;
      behind = bytes;
      held = n;
      at = s;
      is = refl;
      scanned = same_mark raw (raw + 0) n n s none refl;
      going = going;
      wrong = wrong;
      mark = ap (λ (m : BodyMark). scan_bytes max m bytes) (bad_step max raw n s b going wrong)
          ∙ (over_scan max (mark_at raw n (next_stage max s b)) bytes (bad_is_over (next_stage max s b) wrong)
          ∙ same_mark raw (raw + 0) n n (next_stage max s b) none refl);
    }

found_later : (max raw n : ℕ) (s : BodyStage) (b : ℕ) (bytes : List ℕ) → is_over s ≡ false → is_bad (next_stage max s b) ≡ false →
    Found max (raw + 1) (n + count (is_content s)) (next_stage max s b) bytes → Found max raw n s (b ∷ bytes)
found_later max raw n s b bytes going good r =
    let step = good_step max raw n s b going good in
    let one : raw + 1 + length r.before ≡ raw + length (b ∷ r.before) = omega arith in
    record {
      before = b ∷ r.before;
      byte = r.byte;
      behind = r.behind;
      held = r.held;
      at = r.at;
      is = ap (λ (xs : List ℕ). b ∷ xs) r.is;
      scanned = ap (λ (m : BodyMark). scan_bytes max m r.before) step ∙ (r.scanned ∙ same_mark _ _ r.held r.held r.at one refl);
      going = r.going;
      wrong = r.wrong;
      mark = ap (λ (m : BodyMark). scan_bytes max m bytes) step ∙ (r.mark ∙ same_mark _ _ r.held r.held (next_stage max r.at r.byte) one refl);
    }

find : (max raw n : ℕ) (s : BodyStage) (bytes : List ℕ) → is_bad s ≡ false → is_bad (scan_bytes max (mark_at raw n s) bytes).stage ≡ true →
    Found max raw n s bytes
find max raw n s [] good wrong = absurd (never_both (is_bad s) wrong good)
find max raw n s (b ∷ bytes) good wrong =
    tested (is_over s) (Found max raw n s (b ∷ bytes))
    (λ over. absurd (never_both (is_bad s) (sym (ap (λ (m : BodyMark). is_bad m.stage) (over_scan max (mark_at raw n s) (b ∷ bytes) over)) ∙ wrong) good))
    (λ going. tested (is_bad next) (Found max raw n s (b ∷ bytes))
    (λ bad. found_here max raw n s b bytes going bad)
    (λ fine. found_later max raw n s b bytes going fine
    (find max (raw + 1) (n + count (is_content s)) next bytes fine
    (sym (ap (λ (m : BodyMark). is_bad (scan_bytes max m bytes).stage) (good_step max raw n s b going fine)) ∙ wrong))))
  where
    next : BodyStage
    next = next_stage max s b

-- ---- greater limits

more_limit : (max k : ℕ) (f : Framing) (bytes content : List ℕ) → IsBody max f bytes content → IsBody (max + k) f bytes content
more_limit max k framing.None bytes content body = body
more_limit max k (framing.Length n) bytes content body = body
more_limit max k framing.Chunked bytes content body = (
  body.0,
  record {
    chunks = body.1.chunks;
    last = body.1.last;
    end = body.1.end;
    trailers = body.1.trailers;
    short = omega (arith, body.1.short);
  },
  body.2,
  body.3,
)

goes_on_more : (max k : ℕ) (f : Framing) (bytes : List ℕ) → GoesOn max f bytes → GoesOn (max + k) f bytes
goes_on_more max k f bytes on = record {
  more = on.more;
  body = on.body;
  content = on.content;
  behind = on.behind;
  written = more_limit max k f on.body on.content on.written;
  same = on.same;
}

-- what isn't over is scanned in the same way under a greater limit
scan_more : (max k raw n : ℕ) (s : BodyStage) (bytes : List ℕ) → is_over (scan_bytes max (mark_at raw n s) bytes).stage ≡ false →
    scan_bytes (max + k) (mark_at raw n s) bytes ≡ scan_bytes max (mark_at raw n s) bytes
scan_more max k raw n s [] on = refl
scan_more max k raw n s (b ∷ bytes) on =
    let first = first_step max raw n s b bytes on in
    let stays = good_stays max k s b first.going first.good in
    let good : is_bad (next_stage (max + k) s b) ≡ false = ap is_bad stays ∙ first.good in
    ap (λ (m : BodyMark). scan_bytes (max + k) m bytes) (good_step (max + k) raw n s b first.going good)
    ∙ (ap (λ (x : BodyStage). scan_bytes (max + k) (mark_at (raw + 1) (n + count (is_content s)) x) bytes) stays
    ∙ (scan_more max k (raw + 1) (n + count (is_content s)) (next_stage max s b) bytes (sym (ap (λ (m : BodyMark). is_over m.stage) first.step) ∙ on)
    ∙ sym first.step))

-- ---- the law

first_good : (f : Framing) → is_bad (first_stage f) ≡ false
first_good framing.None = refl
first_good (framing.Length n) = chosen (λ s. is_bad s ≡ false) (leb n 0) stage.Whole (stage.Counted n) (λ e. refl) (λ e. refl)
first_good framing.Chunked = refl

one_more : (max raw n : ℕ) (s : BodyStage) (b : ℕ) → is_over s ≡ false → (scan_bytes max (mark_at raw n s) (b ∷ [])).stage ≡ next_stage max s b
one_more max raw n s b going =
    tested (is_bad (next_stage max s b)) ((scan_bytes max (mark_at raw n s) (b ∷ [])).stage ≡ next_stage max s b)
    (λ wrong. ap (λ (m : BodyMark). m.stage) (bad_step max raw n s b going wrong))
    (λ good. ap (λ (m : BodyMark). m.stage) (good_step max raw n s b going good))

before_is : (max : ℕ) (s : BodyStage) (bytes : List ℕ) (r : Found max 0 0 s bytes) → take (length r.before) bytes ≡ r.before
before_is max s bytes r = ap (take (length r.before)) r.is ∙ take_at r.before (r.byte ∷ r.behind) (length r.before) refl

with_byte_is : (max : ℕ) (s : BodyStage) (bytes : List ℕ) (r : Found max 0 0 s bytes) → take (length r.before + 1) bytes ≡ r.before ++ (r.byte ∷ [])
with_byte_is max s bytes r =
    let same : bytes ≡ (r.before ++ (r.byte ∷ [])) ++ r.behind = r.is ∙ sym (append_assoc r.before (r.byte ∷ []) r.behind) in
    let size : length (r.before ++ (r.byte ∷ [])) ≡ length r.before + 1 = length-append r.before (r.byte ∷ []) in
    ap (take (length r.before + 1)) same ∙ take_at (r.before ++ (r.byte ∷ [])) r.behind (length r.before + 1) size

-- what a limit makes of the byte, where it leads to the same mark before it
stage_behind : (max limit : ℕ) (s : BodyStage) (bytes : List ℕ) (r : Found max 0 0 s bytes) →
    scan_bytes limit (mark_at 0 0 s) r.before ≡ mark_at (0 + length r.before) r.held r.at →
    (scan_bytes limit (mark_at 0 0 s) (take (length r.before + 1) bytes)).stage ≡ next_stage limit r.at r.byte
stage_behind max limit s bytes r same =
    ap (λ (xs : List ℕ). (scan_bytes limit (mark_at 0 0 s) xs).stage) (with_byte_is max s bytes r)
    ∙ (ap (λ (m : BodyMark). m.stage) (scan_join limit (mark_at 0 0 s) r.before (r.byte ∷ []))
    ∙ (ap (λ (m : BodyMark). (scan_bytes limit m (r.byte ∷ [])).stage) same
    ∙ one_more limit (0 + length r.before) r.held r.at r.byte r.going))

stage_more : (max k : ℕ) (s : BodyStage) (bytes : List ℕ) (r : Found max 0 0 s bytes) →
    (scan_bytes (max + k) (mark_at 0 0 s) (take (length r.before + 1) bytes)).stage ≡ next_stage (max + k) r.at r.byte
stage_more max k s bytes r =
    stage_behind max (max + k) s bytes r
    (scan_more max k 0 0 s r.before (ap (λ (m : BodyMark). is_over m.stage) r.scanned ∙ r.going) ∙ r.scanned)

why_is : (why why' : BadBody) → bad why ≡ bad why' → why ≡ why'
why_is why why' e = cc

cause : (max : ℕ) (f : Framing) (bytes : List ℕ) (why : BadBody) → 2 ≤ max → (r : Found max 0 0 (first_stage f) bytes) (c : List ℕ) (s : BodyStage) →
    next_stage max r.at r.byte ≡ s → body_at (mark_at (0 + length r.before) r.held (next_stage max r.at r.byte)) c s ≡ bad why →
    IsCause f bytes (length r.before) why
cause max f bytes why least r c stage.Malformed is e =
    subst (IsCause f bytes (length r.before)) (why_is (malformed_at (0 + length r.before)) why e) (
      omega arith,
      λ limit on.
          let sum : limit + max ≡ max + limit = omega arith in
          let wrong : is_bad (scan_bytes (max + limit) (body_start f) (take (length r.before + 1) bytes)).stage ≡ true =
          ap is_bad (stage_more max limit (first_stage f) bytes r ∙ malformed_stays max limit r.at r.byte r.going is) in
          bad_ends (max + limit) f (take (length r.before + 1) bytes) wrong
          (subst (λ (n : ℕ). GoesOn n f (take (length r.before + 1) bytes)) sum (goes_on_more limit max f (take (length r.before + 1) bytes) on)),
    )
cause max f bytes why least r c stage.TooLong is e =
    let few : enough r.at ≤ max + enough r.at = omega arith in
    let good : is_bad (scan_bytes (max + enough r.at) (body_start f) (take (length r.before + 1) bytes)).stage ≡ false =
    ap is_bad (stage_more max (enough r.at) (first_stage f) bytes r) ∙ too_long_lifts max (enough r.at) r.at r.byte r.going is few in
    subst (IsCause f bytes (length r.before)) (why_is trailers_too_large why e)
    (max + enough r.at, good_goes_on (max + enough r.at) f (take (length r.before + 1) bytes) (omega arith) good)
cause max f bytes why least r c stage.Whole is e = cc
cause max f bytes why least r c _ is e = cc

pub first_decides : (max : ℕ) (f : Framing) (bytes : List ℕ) (why : BadBody) → 2 ≤ max → body_of max f bytes ≡ bad why →
    (place : ℕ) × IsFirstBad max f bytes place why
first_decides max f bytes why least e =
    let m : BodyMark = scan_bytes max (body_start f) bytes in
    let c : List ℕ = content_in max (body_start f) bytes in
    let r : Found max 0 0 (first_stage f) bytes = find max 0 0 (first_stage f) bytes (first_good f) (bad_stage m c m.stage why e) in
    let there : body_of max f bytes ≡ body_at (mark_at (0 + length r.before) r.held (next_stage max r.at r.byte)) c (next_stage max r.at r.byte) =
    ap (λ (m : BodyMark). body_at m c m.stage) r.mark in
    let fine : is_bad (scan_bytes max (body_start f) r.before).stage ≡ false = ap (λ (m : BodyMark). is_bad m.stage) r.scanned ∙ going_is_good r.at r.going in (
      length r.before,
      record {
        here = omega (arith, ap length r.is, length-append r.before (r.byte ∷ r.behind));
        before = subst (GoesOn max f) (sym (before_is max (first_stage f) bytes r)) (good_goes_on max f r.before least fine);
        behind = bad_ends max f (take (length r.before + 1) bytes) (ap is_bad (stage_behind max max (first_stage f) bytes r r.scanned) ∙ r.wrong);
        cause = cause max f bytes why least r c (next_stage max r.at r.byte) refl (sym there ∙ e);
      },
    )
