-- What is read as a whole body is a written one.
use Rattle.std.proofs.Common.{◌≡◌, ℕ, suc, ◌+◌, ◌≤◌, true, false, List, [], ◌∷◌, length, take, refl, sym, ap, ◌∙◌, subst, arith, leb}
use Rattle.std.proofs.lemmas.Bool.{leb-true, leb-false}
use Rattle.cy_event.specs.Bodies.{body_of, body_start, byte_before, content_in, count, first_stage, is_bad, is_content, is_over, next_stage, scan_byte, scan_bytes, whole}
use Rattle.cy_event.specs.BodyGrammar.{IsBody}
use Rattle.cy_event.specs.declared.framing.Framing.{Framing}
use Rattle.cy_event.specs.declared.framing.Framing.TheVariants as framing
use Rattle.cy_event.specs.declared.body.BodyMark.{BodyMark}
use Rattle.cy_event.specs.declared.body.BodyStage.{BodyStage}
use Rattle.cy_event.specs.declared.body.BodyStage.TheVariants as stage
use Rattle.cy_in.proofs.BodiesAt.{bad_is_over, whole_content, whole_raw, whole_stage}
use Rattle.cy_in.proofs.Choices.{tested}
use Rattle.cy_in.proofs.Ending.{Rest, split}
use Rattle.cy_in.proofs.Joins.{over_scan, over_content}
use Rattle.cy_in.proofs.Leading.{Leads, contents, rest_of}
use Rattle.cy_in.proofs.Reaching.{mark_at}

-- so many of the bytes lead to the end
record Led (max : ℕ) (s : BodyStage) (bytes : List ℕ) (raw k : ℕ) : Type 0 where
  size : ℕ
  within : size ≤ length bytes
  leads : Leads max s (take size bytes)
  place : (scan_bytes max (mark_at raw k s) bytes).raw ≡ raw + size
  held : content_in max (mark_at raw k s) bytes ≡ contents max s (take size bytes)

pub bad_step : (max raw k : ℕ) (s : BodyStage) (b : ℕ) → is_over s ≡ false → is_bad (next_stage max s b) ≡ true →
    scan_byte max (mark_at raw k s) b ≡ mark_at raw k (next_stage max s b)
bad_step max raw k s b going bad = rw (going, bad)

pub good_step : (max raw k : ℕ) (s : BodyStage) (b : ℕ) → is_over s ≡ false → is_bad (next_stage max s b) ≡ false →
    scan_byte max (mark_at raw k s) b ≡ mark_at (raw + 1) (k + count (is_content s)) (next_stage max s b)
good_step max raw k s b going good = rw (going, good)

led_over : (max : ℕ) (s : BodyStage) (bytes : List ℕ) (raw k : ℕ) → is_over s ≡ true →
    (scan_bytes max (mark_at raw k s) bytes).stage ≡ stage.Whole → Led max s bytes raw k
led_over max s bytes raw k over e =
    let stays : scan_bytes max (mark_at raw k s) bytes ≡ mark_at raw k s = over_scan max (mark_at raw k s) bytes over in
    record {
      size = 0;
      within = omega arith;
      leads = sym (ap (λ (m : BodyMark). m.stage) stays) ∙ e;
      place = omega (arith, ap (λ (m : BodyMark). m.raw) stays);
      held = over_content max (mark_at raw k s) bytes over;
    }

never_bad : (s : BodyStage) → is_bad s ≡ true → s ≡ stage.Whole → ⊥
never_bad s bad e = let wrong : true ≡ false = sym bad ∙ ap is_bad e in cc

led_more : (max : ℕ) (s : BodyStage) (b : ℕ) (bytes : List ℕ) (raw k : ℕ) → is_over s ≡ false → is_bad (next_stage max s b) ≡ false →
    Led max (next_stage max s b) bytes (raw + 1) (k + count (is_content s)) → Led max s (b ∷ bytes) raw k
led_more max s b bytes raw k going good r =
    let step : scan_byte max (mark_at raw k s) b ≡ mark_at (raw + 1) (k + count (is_content s)) (next_stage max s b) =
    good_step max raw k s b going good in
    record {
      size = suc r.size;
      within = omega (arith, r.within);
      leads = (going, r.leads);
      place = omega (arith, ap (λ (m : BodyMark). (scan_bytes max m bytes).raw) step, r.place);
      held = ap (λ (m : BodyMark). byte_before (is_content s) b (content_in max m bytes)) step
          ∙ ap (byte_before (is_content s) b) r.held;
    }

led : (max : ℕ) (s : BodyStage) (bytes : List ℕ) (raw k : ℕ) →
    (scan_bytes max (mark_at raw k s) bytes).stage ≡ stage.Whole → Led max s bytes raw k
led max s [] raw k e = record { size = 0; within = omega arith; leads = e; place = omega arith; held = refl }
led max s (b ∷ bytes) raw k e =
    tested (is_over s) (Led max s (b ∷ bytes) raw k)
    (λ over. led_over max s (b ∷ bytes) raw k over e)
    (λ going. tested (is_bad (next_stage max s b)) (Led max s (b ∷ bytes) raw k)
    (λ bad. absurd (never_bad (next_stage max s b) bad
    (sym (ap (λ (m : BodyMark). m.stage) (ap (λ (m : BodyMark). scan_bytes max m bytes) (bad_step max raw k s b going bad)
    ∙ over_scan max (mark_at raw k (next_stage max s b)) bytes (bad_is_over (next_stage max s b) bad))) ∙ e)))
    (λ good. led_more max s b bytes raw k going good
    (led max (next_stage max s b) bytes (raw + 1) (k + count (is_content s))
    (sym (ap (λ (m : BodyMark). (scan_bytes max m bytes).stage) (good_step max raw k s b going good)) ∙ e))))

-- ---- bodies

written_rest : (max : ℕ) (f : Framing) (bytes content : List ℕ) → Rest max (first_stage f) bytes content → IsBody max f bytes content
written_rest max framing.None bytes content r = r
written_rest max (framing.Length n) bytes content r =
    split (leb n 0) stage.Whole (stage.Counted n) (λ s. Rest max s bytes content) ((length bytes ≡ n) × (content ≡ bytes)) r
    (λ e p. let none : length bytes ≡ 0 = ap length p.0 in (omega (arith, leb-true n 0 e, none), p.1 ∙ sym p.0))
    (λ e p. p (omega (arith, leb-false n 0 e)))
written_rest max framing.Chunked bytes content r = r

pub whole_is_written : (max : ℕ) (f : Framing) (bytes content : List ℕ) (n : ℕ) → body_of max f bytes ≡ whole content n →
    (n ≤ length bytes) × IsBody max f (take n bytes) content
whole_is_written max f bytes content n e =
    let m : BodyMark = scan_bytes max (body_start f) bytes in
    let c : List ℕ = content_in max (body_start f) bytes in
    let r : Led max (first_stage f) bytes 0 0 = led max (first_stage f) bytes 0 0 (whole_stage m c m.stage content n e) in
    let size : r.size ≡ n = omega (arith, r.place, whole_raw m c m.stage content n e) in
    let held : contents max (first_stage f) (take r.size bytes) ≡ content = sym r.held ∙ whole_content m c m.stage content n e in
    let body : IsBody max f (take r.size bytes) content =
    subst (λ (d : List ℕ). IsBody max f (take r.size bytes) d) held (written_rest max f (take r.size bytes) _ (rest_of max (first_stage f) (take r.size bytes) r.leads)) in
    (omega (arith, r.within, size), subst (λ (k : ℕ). IsBody max f (take k bytes) content) size body)
