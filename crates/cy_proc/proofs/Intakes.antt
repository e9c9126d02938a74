-- What a trace says of the body of its last request, as an intake: it goes on as bytes come.
use Rattle.std.proofs.Common.{◌≡◌, ◌≤◌, ℕ, ◌+◌, ◌-◌, Bool, true, false, not, ◌&&◌, List, ◌∷◌, ◌++◌, length, drop, take, Option, Some, None, refl, sym, ap, ◌∙◌, arith, length-drop, if◌then◌else◌}
use Rattle.std.specs.Prelude.{unwrap_or}
use Rattle.std.proofs.Math.Seq.{drop-append_seam}
use Rattle.std.proofs.lemmas.List.{drop-append-le, drop-drop, take-append-drop}
use Rattle.cy_event.specs.declared.body.BodyMark.{BodyMark}
use Rattle.cy_event.specs.declared.body.BodyStage.{BodyStage}
use Rattle.cy_event.specs.declared.body.BodyStage.TheVariants as stage
use Rattle.cy_event.specs.declared.framing.Framing.TheVariants as framing
use Rattle.cy_event.specs.Bodies.{body_start, Given, first_stage, give_bytes, is_over, scan_bytes}
use Rattle.cy_in.specs.Intakes.{after_scan, after_swallow, ahead}
use Rattle.cy_in.proofs.Choices.{tested}
use Rattle.cy_in.proofs.Counting.{counts_bytes}
use Rattle.cy_in.proofs.Gives.{given_is}
use Rattle.cy_in.proofs.GoingOn.{all_counted}
use Rattle.cy_in.proofs.Joins.{over_scan, scan_join}
use Rattle.cy_model.specs.Folds.{bytes_of, is_open, last_taken}
use Rattle.cy_model.specs.Inputs.{behind_head, is_whole, consumed_by, given_count, head_end, is_end_told, scan_by, scan_of, unread, used, used_at_end, used_by_given}
use Rattle.cy_model.specs.Marks.{TakenUp, Trace, came}
use Rattle.cy_proc.specs.LineBodies.{IsGivenWithin, IsSoundInput, given_mark, intake_of, max_trailer_by, passed_from, used_mark}
use Rattle.cy_proc.proofs.Given.{give_more}

-- ---- what was scanned

-- the bytes behind the head, as more come
behind_more : (r : TakenUp) (bytes more : List ℕ) → r.place + r.size ≤ length bytes → behind_head (bytes ++ more) r ≡ behind_head bytes r ++ more
behind_more r bytes more within = drop-append-le (r.place + r.size) bytes more within

scan_came : (o : Option TakenUp) (bytes more : List ℕ) → head_end o ≤ length bytes → scan_by o (bytes ++ more) ≡ scan_bytes (max_trailer_by o) (scan_by o bytes) more
scan_came None bytes more within = sym (over_scan 0 (body_start framing.None) more refl)
scan_came (Some r) bytes more within =
    ap (scan_bytes r.max_trailer (body_start r.framing)) (behind_more r bytes more within)
    ∙ scan_join r.max_trailer (body_start r.framing) (behind_head bytes r) more

-- while it isn't over it counts each byte behind the head
scan_counts : (r : TakenUp) (bytes : List ℕ) → is_over (scan_by (Some r) bytes).stage ≡ false → (scan_by (Some r) bytes).raw ≡ length (behind_head bytes r)
scan_counts r bytes on =
    let counted = all_counted r.max_trailer 0 0 (first_stage r.framing) (behind_head bytes r) on in
    omega (arith, counted)

-- what stands behind what is used up: behind what was scanned of it comes just what is new
new_alone : (r : TakenUp) (bytes more : List ℕ) (n : ℕ) → n ≤ length (behind_head bytes r)
    → drop (length (behind_head bytes r) - n) (drop (consumed_by (Some r) n) bytes ++ more) ≡ more
new_alone r bytes more n within =
    let behind = behind_head bytes r in
    let rest : drop (consumed_by (Some r) n) bytes ≡ drop n behind = sym (drop-drop n (r.place + r.size) bytes) in
    let size : length behind - n ≡ length (drop n behind) = omega (arith, length-drop n behind) in
    (λ i. drop (size i) (rest i ++ more)) ∙ drop-append_seam (drop n behind) more

pub rest_scanned : (max : ℕ) (o : Option TakenUp) (bytes more : List ℕ) (n : ℕ) → n ≤ (scan_by o bytes).raw
    → scan_bytes max (scan_by o bytes) (drop ((scan_by o bytes).raw - n) (drop (consumed_by o n) bytes ++ more)) ≡ scan_bytes max (scan_by o bytes) more
rest_scanned max None bytes more n within =
    over_scan max (body_start framing.None) (drop ((scan_by None bytes).raw - n) (drop (consumed_by None n) bytes ++ more)) refl ∙ sym (over_scan max (body_start framing.None) more refl)
rest_scanned max (Some r) bytes more n within =
    let m = scan_by (Some r) bytes in
    tested (is_over m.stage) (scan_bytes max m (drop (m.raw - n) (drop (consumed_by (Some r) n) bytes ++ more)) ≡ scan_bytes max m more)
    (λ over. over_scan max m (drop (m.raw - n) (drop (consumed_by (Some r) n) bytes ++ more)) over ∙ sym (over_scan max m more over))
    (λ on.
    let all = scan_counts r bytes on in
    ap (λ (k : ℕ). scan_bytes max m (drop (k - n) (drop (consumed_by (Some r) n) bytes ++ more))) all
    ∙ ap (scan_bytes max m) (new_alone r bytes more n (omega (arith, within, all))))

-- ---- what is used up

given_within : (o : Option TakenUp) (bytes : List ℕ) (n : ℕ) → (given_mark o bytes n).raw ≤ (scan_by o bytes).raw
given_within None bytes n = omega arith
given_within (Some r) bytes n =
    let behind = behind_head bytes r in
    let start = body_start r.framing in
    let g = given_is r.max_trailer n start behind in
    let k = g.passed.0 in
    let first = scan_bytes r.max_trailer start (take k behind) in
    let all : scan_by (Some r) bytes ≡ scan_bytes r.max_trailer first (drop k behind)
    = ap (scan_bytes r.max_trailer start) (sym (take-append-drop k behind)) ∙ scan_join r.max_trailer start (take k behind) (drop k behind) in
    omega (arith, (counts_bytes r.max_trailer first (drop k behind)).least, ap (λ (m : BodyMark). m.raw) all, ap (λ (m : BodyMark). m.raw) g.passed.1.1.0)

pub used_within : (T : Trace) → (used_mark T).raw ≤ (scan_of T).raw
used_within T =
    elim (is_open T && not (is_end_told T)) as (λ v. (if v then given_mark (last_taken T) (bytes_of T) (given_count T) else scan_of T).raw ≤ (scan_of T).raw) [
      | true ↦ given_within (last_taken T) (bytes_of T) (given_count T)
      | false ↦ omega arith
    ]

given_raw : (o : Option TakenUp) (bytes : List ℕ) (n : ℕ) → used_by_given o bytes n ≡ (given_mark o bytes n).raw
given_raw None bytes n = refl
given_raw (Some r) bytes n = refl

pub used_is : (T : Trace) → used T ≡ (used_mark T).raw
used_is T =
    elim (is_open T && not (is_end_told T)) as (λ v. (if v then used_by_given (last_taken T) (bytes_of T) (given_count T) else (scan_of T).raw)
    ≡ (if v then given_mark (last_taken T) (bytes_of T) (given_count T) else scan_of T).raw) [
      | true ↦ given_raw (last_taken T) (bytes_of T) (given_count T)
      | false ↦ refl
    ]

-- ---- bytes come

-- the mark behind what is scanned of the ring
pub scan_goes_on : (t : ℕ) (b : List ℕ) (T : Trace) → head_end (last_taken T) ≤ length (bytes_of T)
    → scan_bytes (max_trailer_by (last_taken T)) (scan_of T) (drop (ahead (intake_of T)) (unread T ++ b)) ≡ scan_of ((t, came b) ∷ T)
scan_goes_on t b T within =
    let o = last_taken T in
    let bytes = bytes_of T in
    let max = max_trailer_by o in
    let behind : ahead (intake_of T) ≡ (scan_by o bytes).raw - used T = ap (λ (n : ℕ). (scan_by o bytes).raw - n) (sym (used_is T)) in
    ap (λ (n : ℕ). scan_bytes max (scan_of T) (drop n (unread T ++ b))) behind
    ∙ rest_scanned max o bytes b (used T) (omega (arith, used_is T, used_within T))
    ∙ sym (scan_came o bytes b within)

given_stays : (o : Option TakenUp) (bytes more : List ℕ) (n : ℕ) → head_end o ≤ length bytes → IsGivenWithin o bytes n
    → given_mark o (bytes ++ more) n ≡ given_mark o bytes n
given_stays None bytes more n within enough = refl
given_stays (Some r) bytes more n within enough =
    ap (λ (l : List ℕ). (give_bytes r.max_trailer n (body_start r.framing) l).mark) (behind_more r bytes more within)
    ∙ ap (λ (g : Given). g.mark) (give_more r.max_trailer n (body_start r.framing) (behind_head bytes r) more enough)

-- a scan of an open request's body as bytes come
pub came_scanned : (t : ℕ) (b : List ℕ) (T : Trace) → head_end (last_taken T) ≤ length (bytes_of T) → used_mark ((t, came b) ∷ T) ≡ used_mark T
    → after_scan (max_trailer_by (last_taken T)) (intake_of T) (unread T ++ b) ≡ intake_of ((t, came b) ∷ T)
came_scanned t b T within same =
    let scanned = scan_goes_on t b T within in
    let taken = sym same in
    λ i. record {
      scanned = scanned i;
      taken = taken i;
      max_trailer = max_trailer_by (last_taken T);
      swallowed_from = passed_from (is_open T) (last_taken T) (used_at_end T);
    }

open_stays : (t : ℕ) (b : List ℕ) (T : Trace) → head_end (last_taken T) ≤ length (bytes_of T) → is_open T ≡ true → is_end_told T ≡ false
    → IsGivenWithin (last_taken T) (bytes_of T) (given_count T) → used_mark ((t, came b) ∷ T) ≡ used_mark T
open_stays t b T within o untold enough =
    let stays = given_stays (last_taken T) (bytes_of T) b (given_count T) within enough in
    (λ i. if o i && not (untold i) then given_mark (last_taken T) (bytes_of T ++ b) (given_count T) else scan_of ((t, came b) ∷ T))
    ∙ stays
    ∙ sym (λ i. if o i && not (untold i) then given_mark (last_taken T) (bytes_of T) (given_count T) else scan_of T)

-- what is passed over of one whose request has ended
pub came_passed : (t : ℕ) (b : List ℕ) (T : Trace) (r : TakenUp) → head_end (last_taken T) ≤ length (bytes_of T) → is_open T ≡ false → last_taken T ≡ Some r
    → after_swallow (max_trailer_by (last_taken T)) (intake_of T) (unread T ++ b) ≡ intake_of ((t, came b) ∷ T)
came_passed t b T r within o is =
    let scanned = scan_goes_on t b T within in
    let from : Some (unwrap_or (passed_from (is_open T) (last_taken T) (used_at_end T)) (used_mark T).raw) ≡ passed_from (is_open T) (last_taken T) (used_at_end T)
    = (λ i. Some (unwrap_or (passed_from (o i) (is i) (used_at_end T)) (used_mark T).raw)) ∙ sym (λ i. passed_from (o i) (is i) (used_at_end T)) in
    let used : scan_of ((t, came b) ∷ T) ≡ used_mark ((t, came b) ∷ T)
    = sym (λ i. if o i && not (is_end_told T) then given_mark (last_taken T) (bytes_of T ++ b) (given_count T) else scan_of ((t, came b) ∷ T)) in
    let taken = scanned ∙ used in
    λ i. record { scanned = scanned i; taken = taken i; max_trailer = max_trailer_by (last_taken T); swallowed_from = from i }

-- ---- what waits

-- no more is used up than came behind the head
scan_within : (r : TakenUp) (bytes : List ℕ) → (scan_by (Some r) bytes).raw ≤ length (behind_head bytes r)
scan_within r bytes = omega (arith, (counts_bytes r.max_trailer (body_start r.framing) (behind_head bytes r)).most)

consumed_within : (o : Option TakenUp) (bytes : List ℕ) (n : ℕ) → head_end o ≤ length bytes → n ≤ (scan_by o bytes).raw → consumed_by o n ≤ length bytes
consumed_within None bytes n within few = omega arith
consumed_within (Some r) bytes n within few = omega (arith, within, few, scan_within r bytes, length-drop (r.place + r.size) bytes)

-- what waits, with more behind it
waits_more : (b : List ℕ) (T : Trace) → head_end (last_taken T) ≤ length (bytes_of T) → unread T ++ b ≡ drop (consumed_by (last_taken T) (used T)) (bytes_of T ++ b)
waits_more b T within =
    sym (drop-append-le (consumed_by (last_taken T) (used T)) (bytes_of T) b
    (consumed_within (last_taken T) (bytes_of T) (used T) within (omega (arith, used_is T, used_within T))))

-- once more is used up fewer bytes wait
pub waits_fewer : (r : TakenUp) (bytes : List ℕ) (n later : ℕ) → n ≤ later
    → drop (later - n) (drop (consumed_by (Some r) n) bytes) ≡ drop (consumed_by (Some r) later) bytes
waits_fewer r bytes n later more =
    let sum : r.place + r.size + n + (later - n) ≡ r.place + r.size + later = omega (arith, more) in
    drop-drop (later - n) (r.place + r.size + n) bytes ∙ ap (λ (k : ℕ). drop k bytes) sum

-- a whole body stays, so nothing more is used up
pub told_stays : (t : ℕ) (b : List ℕ) (T : Trace) → head_end (last_taken T) ≤ length (bytes_of T) → is_over (scan_of T).stage ≡ true → scan_of ((t, came b) ∷ T) ≡ scan_of T
told_stays t b T within over = scan_came (last_taken T) (bytes_of T) b within ∙ over_scan (max_trailer_by (last_taken T)) (scan_of T) b over

pub whole_over : (s : BodyStage) → is_whole s ≡ true → is_over s ≡ true
whole_over stage.Whole e = refl
whole_over s e = cc

-- while a request is open, or before the first, no more is used up as bytes come
pub used_stays : (t : ℕ) (b : List ℕ) (T : Trace) → IsSoundInput T → is_open T ≡ true → used_mark ((t, came b) ∷ T) ≡ used_mark T
used_stays t b T s o =
    elim (is_end_told T) as (λ v. is_end_told T ≡ v → used_mark ((t, came b) ∷ T) ≡ used_mark T) [
      | true ↦ λ told.
          let over = whole_over (scan_of T).stage (s.told o told).0 in
          (λ i. if o i && not (told i) then given_mark (last_taken T) (bytes_of T ++ b) (given_count T) else scan_of ((t, came b) ∷ T))
          ∙ told_stays t b T s.heads_came over
          ∙ sym (λ i. if o i && not (told i) then given_mark (last_taken T) (bytes_of T) (given_count T) else scan_of T)
      | false ↦ λ untold. open_stays t b T s.heads_came o untold s.given
    ] refl

pub none_stays : (t : ℕ) (b : List ℕ) (T : Trace) → last_taken T ≡ None → used_mark ((t, came b) ∷ T) ≡ used_mark T
none_stays t b T none = by_none (is_open T && not (is_end_told T))
  where
    by_none : (v : Bool) → (if v then given_mark (last_taken T) (bytes_of T ++ b) (given_count T) else scan_by (last_taken T) (bytes_of T ++ b))
        ≡ (if v then given_mark (last_taken T) (bytes_of T) (given_count T) else scan_by (last_taken T) (bytes_of T))
    by_none true = (λ i. given_mark (none i) (bytes_of T ++ b) (given_count T)) ∙ sym (λ i. given_mark (none i) (bytes_of T) (given_count T))
    by_none false = (λ i. scan_by (none i) (bytes_of T ++ b)) ∙ sym (λ i. scan_by (none i) (bytes_of T))

-- so what comes waits
pub unread_stays : (t : ℕ) (b : List ℕ) (T : Trace) → head_end (last_taken T) ≤ length (bytes_of T) → used_mark ((t, came b) ∷ T) ≡ used_mark T
    → unread T ++ b ≡ unread ((t, came b) ∷ T)
unread_stays t b T within same =
    let count = used_is T ∙ ap (λ (m : BodyMark). m.raw) (sym same) ∙ sym (used_is ((t, came b) ∷ T)) in
    waits_more b T within ∙ ap (λ (n : ℕ). drop (consumed_by (last_taken T) n) (bytes_of T ++ b)) count

-- and what belongs to a body that is passed over doesn't
pub unread_passed : (t : ℕ) (b : List ℕ) (T : Trace) (r : TakenUp) → head_end (last_taken T) ≤ length (bytes_of T) → is_open T ≡ false → last_taken T ≡ Some r
    → drop ((intake_of ((t, came b) ∷ T)).taken.raw - (intake_of T).taken.raw) (unread T ++ b) ≡ unread ((t, came b) ∷ T)
unread_passed t b T r within o is =
    let R : Trace = (t, came b) ∷ T in
    let now : used T ≡ (scan_of T).raw = (λ i. if o i && not (is_end_told T) then used_by_given (last_taken T) (bytes_of T) (given_count T) else (scan_of T).raw) in
    let later : used R ≡ (scan_of R).raw = (λ i. if o i && not (is_end_told T) then used_by_given (last_taken T) (bytes_of T ++ b) (given_count T) else (scan_of R).raw) in
    let grows = (counts_bytes (max_trailer_by (last_taken T)) (scan_of T) b).least in
    let scan = ap (λ (m : BodyMark). m.raw) (scan_came (last_taken T) (bytes_of T) b within) in
    let more : used T ≤ used R = omega (arith, now, later, grows, scan) in
    let counts : (used_mark R).raw - (used_mark T).raw ≡ used R - used T = omega (arith, used_is T, used_is R) in
    ap (λ (n : ℕ). drop n (unread T ++ b)) counts
    ∙ ap (drop (used R - used T)) (waits_more b T within)
    ∙ (λ i. drop (used R - used T) (drop (consumed_by (is i) (used T)) (bytes_of T ++ b)))
    ∙ waits_fewer r (bytes_of T ++ b) (used T) (used R) more
    ∙ sym (λ i. drop (consumed_by (is i) (used R)) (bytes_of T ++ b))
