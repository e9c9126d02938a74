-- Bytes are bad exactly where they don't go on to a written body.
use Rattle.std.proofs.Common.{◌≡◌, ℕ, ◌+◌, ◌≤◌, true, false, List, [], ◌∷◌, ◌++◌, length, take, drop, sym, ap, ◌∙◌, subst, arith, length-append, take_all, zero, suc, cond, eqb, replicate}
use Rattle.std.proofs.Math.Seq.{drop-append_seam}
use Rattle.std.proofs.lemmas.Bool.{eqb-true}
use Rattle.std.proofs.lemmas.List.{take-append-drop}
use Rattle.cy_event.specs.Bodies.{BadBody, bad, body_of, body_start, content_in, count, first_stage, is_bad, is_content, is_over, next_stage, partial, scan_bytes}
use Rattle.cy_event.specs.BodyGrammar.{IsBody}
use Rattle.cy_event.specs.declared.framing.Framing.{Framing}
use Rattle.cy_event.specs.declared.body.BodyMark.{BodyMark}
use Rattle.cy_event.specs.declared.body.BodyStage.{BodyStage}
use Rattle.cy_event.specs.declared.body.BodyStage.TheVariants as stage
use Rattle.cy_in.specs.Continuations.{GoesOn, IsBadExactly}
use Rattle.cy_in.proofs.Choices.{never_both, tested, where_not, where_yes}
use Rattle.cy_in.proofs.BodiesAt.{bad_at, bad_is_over, going_is_good, over_is_whole, partial_content, partial_is_going, whole_at}
use Rattle.cy_in.proofs.Continuing.{bad_has_none}
use Rattle.cy_in.proofs.Endings.{Ends, ends}
use Rattle.cy_in.proofs.Joins.{append_nil, content_join, over_scan, scan_join}
use Rattle.cy_in.proofs.Reaching.{mark_at}
use Rattle.cy_in.proofs.Room.{first_room, scan_room}
use Rattle.cy_in.proofs.WholeWritten.{bad_step, good_step, whole_is_written}

-- ---- what was counted

-- the first of the bytes that lead to a mark that isn't over
pub record FirstStep (max raw n : ℕ) (s : BodyStage) (b : ℕ) (bytes : List ℕ) : Type 0 where
  pub going : is_over s ≡ false
  pub good : is_bad (next_stage max s b) ≡ false
  pub step : scan_bytes max (mark_at raw n s) (b ∷ bytes) ≡ scan_bytes max (mark_at (raw + 1) (n + count (is_content s)) (next_stage max s b)) bytes

ends_over : (max raw n : ℕ) (s : BodyStage) (bytes : List ℕ) → is_over s ≡ true → is_over (scan_bytes max (mark_at raw n s) bytes).stage ≡ true
ends_over max raw n s bytes over = ap (λ (m : BodyMark). is_over m.stage) (over_scan max (mark_at raw n s) bytes over) ∙ over

pub first_step : (max raw n : ℕ) (s : BodyStage) (b : ℕ) (bytes : List ℕ) → is_over (scan_bytes max (mark_at raw n s) (b ∷ bytes)).stage ≡ false →
    FirstStep max raw n s b bytes
first_step max raw n s b bytes on =
    tested (is_over s) (FirstStep max raw n s b bytes)
    (λ over. absurd (never_both _ (ends_over max raw n s (b ∷ bytes) over) on))
    (λ going. tested (is_bad next) (FirstStep max raw n s b bytes)
    (λ wrong. absurd (never_both _ (ap (λ (m : BodyMark). is_over (scan_bytes max m bytes).stage) (bad_step max raw n s b going wrong)
    ∙ ends_over max raw n next bytes (bad_is_over next wrong)) on))
    (λ good. record { going = going; good = good; step = ap (λ (m : BodyMark). scan_bytes max m bytes) (good_step max raw n s b going good) }))
  where
    next : BodyStage
    next = next_stage max s b

-- a mark that isn't over has counted each byte
pub all_counted : (max raw n : ℕ) (s : BodyStage) (bytes : List ℕ) → is_over (scan_bytes max (mark_at raw n s) bytes).stage ≡ false →
    (scan_bytes max (mark_at raw n s) bytes).raw ≡ raw + length bytes
all_counted max raw n s [] on = omega arith
all_counted max raw n s (b ∷ bytes) on =
    let first = first_step max raw n s b bytes on in
    let later = all_counted max (raw + 1) (n + count (is_content s)) (next_stage max s b) bytes
    (sym (ap (λ (m : BodyMark). is_over m.stage) first.step) ∙ on) in
    omega (arith, ap (λ (m : BodyMark). m.raw) first.step, later)

-- ---- what isn't bad

-- bytes that make a written body of these, all of whose further content is this byte
record Filled (max fill : ℕ) (f : Framing) (bytes : List ℕ) : Type 0 where
  more : List ℕ
  count : ℕ
  written : IsBody max f (bytes ++ more) (content_in max (body_start f) bytes ++ replicate count fill)

going_goes_on : (max fill : ℕ) (f : Framing) (bytes : List ℕ) → 2 ≤ max → is_over (scan_bytes max (body_start f) bytes).stage ≡ false → Filled max fill f bytes
going_goes_on max fill f bytes least going =
    let m : BodyMark = scan_bytes max (body_start f) bytes in
    let e : Ends max fill m.stage = ends max fill m.stage least (going_is_good m.stage going) (scan_room max (body_start f) bytes least (first_room max f)) in
    let all : List ℕ = bytes ++ e.bytes in
    let mark : scan_bytes max (body_start f) all ≡ mark_at (m.raw + length e.bytes) (m.content + length (replicate e.count fill)) stage.Whole =
    scan_join max (body_start f) bytes e.bytes ∙ e.reaches.mark m.raw m.content in
    let held : content_in max (body_start f) all ≡ content_in max (body_start f) bytes ++ replicate e.count fill =
    content_join max (body_start f) bytes e.bytes ∙ ap (λ (c : List ℕ). content_in max (body_start f) bytes ++ c) (e.reaches.content m.raw m.content) in
    let n : ℕ = (scan_bytes max (body_start f) all).raw in
    let size : length all ≤ n =
    omega (arith, ap (λ (m : BodyMark). m.raw) mark, all_counted max 0 0 (first_stage f) bytes going, length-append bytes e.bytes) in
    let content : List ℕ = content_in max (body_start f) all in
    let written = whole_is_written max f all content n (whole_at (scan_bytes max (body_start f) all) content _ (ap (λ (m : BodyMark). m.stage) mark)) in
    record {
      more = e.bytes;
      count = e.count;
      written = subst (λ (c : List ℕ). IsBody max f all c) held (subst (λ (xs : List ℕ). IsBody max f xs content) (take_all n all size) written.1);
    }

pub partial_goes_on : (max : ℕ) (f : Framing) (bytes held : List ℕ) → 2 ≤ max → body_of max f bytes ≡ partial held →
    (more content : List ℕ) × IsBody max f (bytes ++ more) content
partial_goes_on max f bytes held least e =
    let m : BodyMark = scan_bytes max (body_start f) bytes in
    let on = going_goes_on max 120 f bytes least (partial_is_going m (content_in max (body_start f) bytes) m.stage held e) in
    (on.more, content_in max (body_start f) bytes ++ replicate on.count 120, on.written)

-- ---- what stands in every continuation

-- a letter other than this byte
other_than : ℕ → ℕ
other_than b = cond (eqb b 120) 121 120

other_differs : (b : ℕ) → other_than b ≡ b → ⊥
unfolding other_than
other_differs b e =
    tested (eqb b 120) ⊥
    (λ is. let wrong : 121 ≡ b = sym (where_yes (eqb b 120) 121 120 is) ∙ e in omega (arith, eqb-true b 120 is))
    (λ not. let same : 120 ≡ b = sym (where_not (eqb b 120) 121 120 not) ∙ e in
    never_both (eqb b 120) (ap (λ (n : ℕ). eqb n 120) (sym same)) not)

not_filled : (count fill next : ℕ) (beyond : List ℕ) → (fill ≡ next → ⊥) → replicate count fill ≡ next ∷ beyond → ⊥
not_filled zero fill next beyond other e = cc
not_filled (suc count) fill next beyond other e = other cc

pub no_more_stands : (max : ℕ) (f : Framing) (bytes held : List ℕ) (next : ℕ) → 2 ≤ max → body_of max f bytes ≡ partial held →
    (more content : List ℕ) × IsBody max f (bytes ++ more) content × ((beyond : List ℕ) → content ≡ held ++ (next ∷ beyond) → ⊥)
no_more_stands max f bytes held next least e =
    let m : BodyMark = scan_bytes max (body_start f) bytes in
    let c : List ℕ = content_in max (body_start f) bytes in
    let is_held : c ≡ held = partial_content m c m.stage held e in
    let on = going_goes_on max (other_than next) f bytes least (partial_is_going m c m.stage held e) in (
      on.more,
      c ++ replicate on.count (other_than next),
      on.written,
      λ beyond same.
          not_filled on.count (other_than next) next beyond (other_differs next)
          (sym (drop-append_seam c (replicate on.count (other_than next)))
          ∙ (ap (λ (xs : List ℕ). drop (length c) xs) (same ∙ ap (λ (xs : List ℕ). xs ++ (next ∷ beyond)) (sym is_held)) ∙ drop-append_seam c (next ∷ beyond))),
    )

pub good_goes_on : (max : ℕ) (f : Framing) (bytes : List ℕ) → 2 ≤ max → is_bad (scan_bytes max (body_start f) bytes).stage ≡ false → GoesOn max f bytes
good_goes_on max f bytes least good =
    tested (is_over m.stage) (GoesOn max f bytes)
    (λ over. let written = whole_is_written max f bytes content m.raw (whole_at m content m.stage (over_is_whole m.stage over good)) in
    record { more = []; body = take m.raw bytes; content = content; behind = drop m.raw bytes; written = written.1; same = take-append-drop m.raw bytes ∙ sym (append_nil bytes) })
    (λ going. let on = going_goes_on max 120 f bytes least going in
    record { more = on.more; body = bytes ++ on.more; content = content ++ replicate on.count 120; behind = []; written = on.written; same = append_nil (bytes ++ on.more) })
  where
    m : BodyMark
    m = scan_bytes max (body_start f) bytes

    content : List ℕ
    content = content_in max (body_start f) bytes

-- ---- what is bad

pub bad_ends : (max : ℕ) (f : Framing) (bytes : List ℕ) → is_bad (scan_bytes max (body_start f) bytes).stage ≡ true → GoesOn max f bytes → ⊥
bad_ends max f bytes wrong on =
    let m : BodyMark = scan_bytes max (body_start f) bytes in
    let why = bad_at m (content_in max (body_start f) bytes) m.stage wrong in
    bad_has_none max f bytes on.more on.body on.behind on.content why.0 why.1 on.written on.same

pub bad_exactly : (max : ℕ) (f : Framing) (bytes : List ℕ) → 2 ≤ max → IsBadExactly max f bytes
bad_exactly max f bytes least = record {
  ends = λ why e on. bad_has_none max f bytes on.more on.body on.behind on.content why e on.written on.same;
  only = λ none. tested (is_bad m.stage) ((why : BadBody) × (body_of max f bytes ≡ bad why))
      (λ wrong. bad_at m (content_in max (body_start f) bytes) m.stage wrong)
      (λ good. absurd (none (good_goes_on max f bytes least good)));
}
  where
    m : BodyMark
    m = scan_bytes max (body_start f) bytes
