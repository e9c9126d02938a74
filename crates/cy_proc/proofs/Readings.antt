-- A read finds of an open request's body what the trace says, and what follows of it is the trace with its mark.
use Rattle.std.proofs.Common.{◌≡◌, ◌≤◌, ℕ, ◌+◌, ◌-◌, Bool, true, false, not, ◌&&◌, List, [], ◌∷◌, length, take, drop, Option, Some, None, is_some, refl, sym, ap, ◌∙◌, subst, arith, length-drop, length-take, if◌then◌else◌}
use Rattle.std.specs.Prelude.{min}
use Rattle.std.proofs.lemmas.List.{drop-drop, take_min}
use Rattle.cy_event.specs.declared.body.BodyMark.{BodyMark}
use Rattle.cy_event.specs.declared.body.BodyStage.{BodyStage}
use Rattle.cy_event.specs.declared.body.BodyStage.TheVariants as stage
use Rattle.cy_event.specs.Bodies.{Given, body_at, body_start, content_in, give_bytes, is_bad, scan_bytes}
use Rattle.cy_in.specs.Intakes.{Intake, after_read, has_content, is_whole, piece, taken_by, waiting as waits_in}
use Rattle.cy_in.proofs.Choices.{where_not, where_yes}
use Rattle.cy_in.proofs.Counting.{content_counted, counts_bytes}
use Rattle.cy_in.proofs.Gives.{given_is}
use Rattle.cy_in.specs.Laws.{IsGiven}
use Rattle.cy_model.specs.Folds.{bytes_of, is_open, last_taken}
use Rattle.cy_model.specs.Inputs.{behind_head, body_by, consumed_by, given_count, has_bad_body, has_whole_body, is_end_told, scan_by, scan_of, unread, used, used_at_end, used_by_given, waiting, waiting_of}
use Rattle.cy_model.specs.Marks.{TakenUp, Trace, given, end_given}
use Rattle.cy_proc.specs.LineBodies.{IsGivenWithin, IsSoundInput, given_mark, intake_of, max_trailer_by, passed_from, used_mark}
use Rattle.cy_proc.specs.LineChanges.{read_line}
use Rattle.cy_proc.specs.Lines.{line_parts}
use Rattle.cy_proc.proofs.Given.{Behind, behind, both, short_piece}
use Rattle.cy_proc.proofs.Intakes.{used_is, waits_fewer}
use Rattle.cy_proc.proofs.LineInputs.{open_taken, over_waits}

both_ways : (v : Bool) → v ≡ true → v ≡ false → ⊥
both_ways v is isnt = cc

-- ---- the body behind a head, of which so much content was given

module _ (r : TakenUp) (bytes : List ℕ) (j : ℕ) (within : IsGivenWithin (Some r) bytes j) where
  abbrev all_content : List ℕ
  all_content = content_in r.max_trailer (body_start r.framing) (behind_head bytes r)

  -- its content that wasn't given, if it isn't bad
  abbrev content_left : List ℕ
  content_left = drop j all_content

  abbrev taken_mark : BodyMark
  taken_mark = given_mark (Some r) bytes j

  abbrev intake_then : Intake
  intake_then = record { scanned = scan_by (Some r) bytes; taken = taken_mark; max_trailer = r.max_trailer; swallowed_from = None }

  abbrev input_then : List ℕ
  input_then = drop (consumed_by (Some r) (used_by_given (Some r) bytes j)) bytes

  here : Behind r.max_trailer j (body_start r.framing) (behind_head bytes r)
  here = behind r.max_trailer j (body_start r.framing) (behind_head bytes r) within

  input_is : input_then ≡ drop here.size (behind_head bytes r)
  input_is =
      let size : taken_mark.raw ≡ here.size = omega (arith, here.raw) in
      sym (drop-drop taken_mark.raw (r.place + r.size) bytes) ∙ ap (λ (i : ℕ). drop i (behind_head bytes r)) size

  pub waits_are : waits_in intake_then ≡ length content_left
  waits_are = omega (
    arith,
    ap (λ (m : BodyMark). m.content) here.scan,
    content_counted r.max_trailer taken_mark (drop here.size (behind_head bytes r)),
    ap length here.content,
  )

  -- of n bytes that are asked
  module _ (n : ℕ) where
    abbrev count : ℕ
    count = min n (waits_in intake_then)

    count_is : count ≡ length (take n content_left)
    count_is = ap (min n) waits_are ∙ sym (length-take n content_left)

    enough : count ≤ length (content_in r.max_trailer taken_mark (drop here.size (behind_head bytes r)))
    enough = omega (arith, waits_are, ap length here.content)

    piece_is : piece n intake_then input_then ≡ give_bytes r.max_trailer count taken_mark (drop here.size (behind_head bytes r))
    piece_is =
        let input = input_is in
        let scanned = sym here.scan in
        (λ i. give_bytes r.max_trailer count taken_mark (take ((scanned i).raw - taken_mark.raw) (input i)))
        ∙ short_piece r.max_trailer count taken_mark (drop here.size (behind_head bytes r)) enough

    pub content_is : (piece n intake_then input_then).content ≡ take n content_left
    content_is =
        let g : IsGiven r.max_trailer count taken_mark (drop here.size (behind_head bytes r)) = given_is r.max_trailer count taken_mark (drop here.size (behind_head bytes r)) in
        ap (λ (x : Given). x.content) piece_is
        ∙ g.content
        ∙ ap (take count) here.content
        ∙ ap (λ (k : ℕ). take (min n k) content_left) waits_are
        ∙ take_min n content_left

    pub given_later : j + length (take n content_left) ≤ length all_content
    given_later = omega (arith, within, length-take n content_left, length-drop j all_content)

    pub mark_is : (piece n intake_then input_then).mark ≡ given_mark (Some r) bytes (j + length (take n content_left))
    mark_is =
        let fits : j + count ≤ length all_content = omega (arith, count_is, given_later) in
        ap (λ (x : Given). x.mark) piece_is
        ∙ both r.max_trailer j count (body_start r.framing) (behind_head bytes r) fits here
        ∙ ap (λ (k : ℕ). given_mark (Some r) bytes (j + k)) count_is

    pub mark_later : taken_mark.raw ≤ (given_mark (Some r) bytes (j + length (take n content_left))).raw
    mark_later =
        let g : IsGiven r.max_trailer count taken_mark (drop here.size (behind_head bytes r)) = given_is r.max_trailer count taken_mark (drop here.size (behind_head bytes r)) in
        let passed : (piece n intake_then input_then).mark ≡ scan_bytes r.max_trailer taken_mark (take g.passed.0 (drop here.size (behind_head bytes r)))
        = ap (λ (x : Given). x.mark) piece_is ∙ g.passed.1.1.0 in
        omega (
          arith,
          ap (λ (m : BodyMark). m.raw) mark_is,
          ap (λ (m : BodyMark). m.raw) passed,
          (counts_bytes r.max_trailer taken_mark (take g.passed.0 (drop here.size (behind_head bytes r)))).least,
        )

-- ---- what a trace says of it

left_by : (m : BodyMark) (c : List ℕ) (s : BodyStage) (j : ℕ) → is_bad s ≡ false → waiting_of (body_at m c s) j ≡ drop j c
left_by m c stage.Malformed j good = cc
left_by m c stage.TooLong j good = cc
left_by m c stage.Whole j good = refl
left_by m c (stage.Counted n) j good = refl
left_by m c stage.SizeDue j good = refl
left_by m c (stage.InSize digits size) j good = refl
left_by m c (stage.InBlanks line size) j good = refl
left_by m c (stage.InExtension line size) j good = refl
left_by m c (stage.LineEnds size) j good = refl
left_by m c (stage.InChunk n) j good = refl
left_by m c stage.ChunkEnds j good = refl
left_by m c stage.ChunkEnded j good = refl
left_by m c (stage.FieldDue trailers) j good = refl
left_by m c (stage.InName trailers) j good = refl
left_by m c (stage.InValue trailers) j good = refl
left_by m c (stage.FieldEnds trailers) j good = refl
left_by m c stage.LastEnds j good = refl

-- the content of an open request whose end wasn't told
module _ (m : ℕ) (T : Trace) (r : TakenUp) (is : last_taken T ≡ Some r) (o : is_open T ≡ true) (untold : is_end_told T ≡ false) (good : has_bad_body T ≡ false) (s : IsSoundInput T) where
  within : IsGivenWithin (Some r) (bytes_of T) (given_count T)
  within = subst (λ (t : Option TakenUp). IsGivenWithin t (bytes_of T) (given_count T)) is s.given

  intake_is : intake_of T ≡ intake_then r (bytes_of T) (given_count T) within
  intake_is = λ i. record {
    scanned = scan_by (is i) (bytes_of T);
    taken = if o i && not (untold i) then given_mark (is i) (bytes_of T) (given_count T) else scan_by (is i) (bytes_of T);
    max_trailer = max_trailer_by (is i);
    swallowed_from = passed_from (o i) (is i) (used_at_end T);
  }

  unread_is : unread T ≡ input_then r (bytes_of T) (given_count T) within
  unread_is =
      λ i. drop (consumed_by (is i) (if o i && not (untold i) then used_by_given (is i) (bytes_of T) (given_count T) else (scan_by (is i) (bytes_of T)).raw)) (bytes_of T)

  left_is : waiting T ≡ content_left r (bytes_of T) (given_count T) within
  left_is =
      let scan = scan_by (Some r) (bytes_of T) in
      let still : is_bad scan.stage ≡ false = sym (λ i. is_bad (scan_by (is i) (bytes_of T)).stage) ∙ good in
      (λ i. waiting_of (body_by (is i) (bytes_of T)) (given_count T))
      ∙ left_by scan (all_content r (bytes_of T) (given_count T) within) scan.stage (given_count T) still

  pub untold_waits : waits_in (intake_of T) ≡ length (waiting T)
  untold_waits = ap waits_in intake_is ∙ waits_are r (bytes_of T) (given_count T) within ∙ ap length (sym left_is)

  -- ---- content is given

  module _ (n : ℕ) where
    -- the trace behind a read of n bytes
    abbrev After_given : Trace
    After_given = (m, given (length (take n (waiting T)))) ∷ T

    count_same : given_count T + length (take n (waiting T)) ≡ given_count T + length (take n (content_left r (bytes_of T) (given_count T) within))
    count_same = ap (λ (c : List ℕ). given_count T + length (take n c)) left_is

    mark_then : given_mark (Some r) (bytes_of T) (given_count T + length (take n (content_left r (bytes_of T) (given_count T) within))) ≡ used_mark After_given
    mark_then =
        ap (given_mark (Some r) (bytes_of T)) (sym count_same)
        ∙ sym (λ i. if o i && not (untold i) then given_mark (is i) (bytes_of T) (given_count T + length (take n (waiting T))) else scan_of T)

    pub piece_given : (piece n (intake_of T) (unread T)).content ≡ take n (waiting T)
    piece_given =
        (λ i. (piece n (intake_is i) (unread_is i)).content)
        ∙ content_is r (bytes_of T) (given_count T) within n
        ∙ ap (take n) (sym left_is)

    piece_mark : (piece n (intake_of T) (unread T)).mark ≡ used_mark After_given
    piece_mark =
        (λ i. (piece n (intake_is i) (unread_is i)).mark)
        ∙ mark_is r (bytes_of T) (given_count T) within n
        ∙ mark_then

    given_order : (used_mark T).raw ≤ (used_mark After_given).raw
    given_order =
        let now : used_mark T ≡ taken_mark r (bytes_of T) (given_count T) within = ap (λ (x : Intake). x.taken) intake_is in
        omega (
          arith,
          ap (λ (x : BodyMark). x.raw) now,
          mark_later r (bytes_of T) (given_count T) within n,
          ap (λ (x : BodyMark). x.raw) mark_then,
        )

    pub given_parts : has_content (intake_of T) ≡ true → read_line n (line_parts m T) ≡ line_parts m After_given
    given_parts some =
        let next : after_read n (intake_of T) (unread T) ≡ record (intake_of T) { taken = (piece n (intake_of T) (unread T)).mark } = where_yes (has_content (intake_of T)) _ _ some in
        let body : after_read n (intake_of T) (unread T) ≡ intake_of After_given =
        next ∙ ap (λ (x : BodyMark). record (intake_of T) { taken = x }) piece_mark in
        let order = given_order in
        let counts : (used_mark After_given).raw - (used_mark T).raw ≡ used After_given - used T = omega (arith, used_is T, used_is After_given) in
        let more : used T ≤ used After_given = omega (arith, order, used_is T, used_is After_given) in
        let waits : drop (taken_by (intake_of T) (after_read n (intake_of T) (unread T))) (unread T) ≡ unread After_given =
        ap (λ (x : Intake). drop (taken_by (intake_of T) x) (unread T)) body
        ∙ ap (λ (k : ℕ). drop k (unread T)) counts
        ∙ (λ i. drop (used After_given - used T) (drop (consumed_by (is i) (used T)) (bytes_of T)))
        ∙ waits_fewer r (bytes_of T) (used T) (used After_given) more
        ∙ sym (λ i. drop (consumed_by (is i) (used After_given)) (bytes_of T)) in
        λ i. record (line_parts m T) { body = body i; unread = waits i }

    pub given_input : IsSoundInput After_given
    given_input = record {
      heads_came = s.heads_came;
      given = subst (λ (t : Option TakenUp). IsGivenWithin t (bytes_of T) (given_count T + length (take n (waiting T)))) (sym is)
          (subst (λ (k : ℕ). IsGivenWithin (Some r) (bytes_of T) k) (sym count_same) (given_later r (bytes_of T) (given_count T) within n));
      told = λ still told. absurd (both_ways (is_end_told T) told untold);
    }

-- ---- whether some waits

-- of one whose end was told none does
told_waits : (T : Trace) → is_open T ≡ true → is_end_told T ≡ true → IsSoundInput T → waits_in (intake_of T) ≡ length (waiting T)
told_waits T o told s =
    let all = s.told o told in
    let same : used_mark T ≡ scan_of T = λ i. if o i && not (told i) then given_mark (last_taken T) (bytes_of T) (given_count T) else scan_of T in
    omega (arith, ap (λ (x : BodyMark). x.content) same, ap length all.1)

-- an open request has as much content that waits as the trace says
pub waits_same : (m : ℕ) (T : Trace) → is_open T ≡ true → has_bad_body T ≡ false → IsSoundInput T → waits_in (intake_of T) ≡ length (waiting T)
waits_same m T o good s = by_told (is_end_told T) refl (last_taken T) refl
  where
    by_told : (v : Bool) → is_end_told T ≡ v → (t : Option TakenUp) → last_taken T ≡ t → waits_in (intake_of T) ≡ length (waiting T)
    by_told true told t is = told_waits T o told s
    by_told false untold None is = absurd (both_ways (is_some (last_taken T)) (open_taken T o) (ap is_some is))
    by_told false untold (Some r) is = untold_waits m T r is o untold good s

-- ---- the end of it is told

module _ (m : ℕ) (T : Trace) (o : is_open T ≡ true) (whole : has_whole_body T ≡ true) (none : waiting T ≡ []) (s : IsSoundInput T) where
  abbrev After_end : Trace
  After_end = (m, end_given) ∷ T

  all_taken : scan_of T ≡ used_mark After_end
  all_taken = sym (λ i. if o i && false then given_mark (last_taken T) (bytes_of T) (given_count T) else scan_of T)

  pub end_parts : (n : ℕ) → has_content (intake_of T) ≡ false → is_whole (scan_of T).stage ≡ true → read_line n (line_parts m T) ≡ line_parts m After_end
  end_parts n empty ended =
      let body : after_read n (intake_of T) (unread T) ≡ intake_of After_end =
      where_not (has_content (intake_of T)) _ _ empty
      ∙ where_yes (is_whole (scan_of T).stage) _ _ ended
      ∙ ap (λ (x : BodyMark). record (intake_of T) { taken = x }) all_taken in
      let used_now : used After_end ≡ (scan_of T).raw = λ i. if o i && false then used_by_given (last_taken T) (bytes_of T) (given_count T) else (scan_of T).raw in
      let counts : (used_mark After_end).raw - (used_mark T).raw ≡ (scan_of T).raw - used T = omega (arith, used_is T, used_is After_end, used_now) in
      let waits : drop (taken_by (intake_of T) (after_read n (intake_of T) (unread T))) (unread T) ≡ unread After_end =
      ap (λ (x : Intake). drop (taken_by (intake_of T) x) (unread T)) body
      ∙ ap (λ (k : ℕ). drop k (unread T)) counts
      ∙ over_waits m T o (last_taken T) (open_taken T o)
      ∙ ap (λ (k : ℕ). drop (consumed_by (last_taken T) k) (bytes_of T)) (sym used_now) in
      λ i. record (line_parts m T) { body = body i; unread = waits i }

  pub end_input : IsSoundInput After_end
  end_input = record { heads_came = s.heads_came; given = s.given; told = λ still told. (whole, none) }
