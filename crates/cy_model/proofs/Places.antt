-- Each head that is taken up stands at its place in all the bytes that came, and its whole body before the next.
use Rattle.std.proofs.Common.{◌≡◌, ◌≤◌, ℕ, ◌+◌, Bool, true, false, not, ◌&&◌, List, [], ◌∷◌, ◌++◌, All, length, drop, Option, None, Some, refl, sym, ap, ◌∙◌, subst, arith, append_assoc, length-append, length-drop, if◌then◌else◌}
use Rattle.std.proofs.lemmas.List.{drop-append-le}
use Rattle.std.proofs.lemmas.List.Elements.{All-nil, All-push, All-weaker}
use Rattle.cy_event.specs.declared.limits.Limits.{Limits}
use Rattle.cy_event.specs.declared.body.BodyMark.{BodyMark}
use Rattle.cy_event.specs.declared.body.BodyStage.{BodyStage}
use Rattle.cy_event.specs.declared.body.BodyStage.TheVariants as stage
use Rattle.cy_event.specs.Bodies.{body_at, body_of, body_start, content_in, scan_byte, scan_bytes, whole}
use Rattle.cy_event.specs.Heads.{found, head_of}
use Rattle.cy_event.proofs.Fronts.{front_length-bounds, head_of-found}
use Rattle.cy_map.specs.declared.rule.Rule.{Rule}
use Rattle.cy_head.proofs.HeadGrowth.{heads_stay}
use Rattle.cy_model.specs.Entries.{trace_of}
use Rattle.cy_model.specs.Folds.{bytes_of, is_open, last_taken, requests_of}
use Rattle.cy_model.specs.Inputs.{behind_head, consumed, consumed_by, given_count, head_end, is_end_told, is_whole, scan_by, scan_of, unread, used, used_by_given}
use Rattle.cy_model.specs.Laws.{AreInRow, Follows, HasBody, HeadsAreAtTheirPlaces, IsAtPlace, last_of}
use Rattle.cy_model.specs.Marks.{Mark, came, began, TakenUp, Trace}
use Rattle.cy_model.specs.Settling.{may_begin}
use Rattle.cy_model.proofs.InputInduction.{KeptByInput, brings, kept_by_input}
use Rattle.cy_model.proofs.Moves.{may_begin-parts, may_begin-whole}
use Rattle.cy_model.proofs.TraceInduction.{IsTakenAt, trace_keeps}

-- ---- bodies that are whole

-- nothing more belongs to a whole body
pub whole_stays : (max : ℕ) (m : BodyMark) (bytes : List ℕ) → m.stage ≡ stage.Whole → scan_bytes max m bytes ≡ m
whole_stays max m [] e = refl
whole_stays max m (b ∷ bytes) e =
    let same : scan_byte max m b ≡ m = rw (e, scan_byte) refl in
    ap (λ (k : BodyMark). scan_bytes max k bytes) same ∙ whole_stays max m bytes e

scan_more : (max : ℕ) (m : BodyMark) (xs ys : List ℕ) → scan_bytes max m (xs ++ ys) ≡ scan_bytes max (scan_bytes max m xs) ys
scan_more max m [] ys = refl
scan_more max m (x ∷ xs) ys = scan_more max (scan_byte max m x) xs ys

is_whole_stage : (s : BodyStage) → is_whole s ≡ true → s ≡ stage.Whole
is_whole_stage stage.Whole e = refl
is_whole_stage s e = cc

-- what is a whole body stays one, whatever comes behind it
body_stays : (bytes : List ℕ) (r : TakenUp) → r.place + r.size ≤ length bytes
    → is_whole (scan_bytes r.max_trailer (body_start r.framing) (drop (r.place + r.size) bytes)).stage ≡ true
    → HasBody bytes r (scan_bytes r.max_trailer (body_start r.framing) (drop (r.place + r.size) bytes)).raw
body_stays bytes r within is more =
    let behind = drop (r.place + r.size) bytes in
    let start = body_start r.framing in
    let m = scan_bytes r.max_trailer start behind in
    let at_end : m.stage ≡ stage.Whole = is_whole_stage m.stage is in
    let split : drop (r.place + r.size) (bytes ++ more) ≡ behind ++ more = drop-append-le (r.place + r.size) bytes more within in
    let all : scan_bytes r.max_trailer start (behind ++ more) ≡ m = scan_more r.max_trailer start behind more ∙ whole_stays r.max_trailer m more at_end in
    let here = ap (body_of r.max_trailer r.framing) split in
    let content = content_in r.max_trailer start (behind ++ more) in
    (content, here ∙ ap (λ (k : BodyMark). body_at k content k.stage) all ∙ ap (body_at m content) at_end)

-- ---- what is known

-- the requests stand at their places in a row, and no more than all the bytes belong to their heads
record Placed (limits : Limits) (T : Trace) : Type 0 where
  heads : All (IsAtPlace limits (bytes_of T)) (requests_of T)
  row : AreInRow (bytes_of T) 0 (requests_of T)
  last : last_taken T ≡ last_of (requests_of T)
  came : head_end (last_taken T) ≤ length (bytes_of T)

-- nothing changes of the requests and of the bytes
unmoved : (limits : Limits) (T R : Trace) → bytes_of R ≡ bytes_of T → requests_of R ≡ requests_of T → last_taken R ≡ last_taken T → Placed limits T → Placed limits R
unmoved limits T R bytes requests taken p = record {
  heads = subst (λ (b : List ℕ). All (IsAtPlace limits b) (requests_of R)) (sym bytes) (subst (All (IsAtPlace limits (bytes_of T))) (sym requests) p.heads);
  row = subst (λ (b : List ℕ). AreInRow b 0 (requests_of R)) (sym bytes) (subst (AreInRow (bytes_of T) 0) (sym requests) p.row);
  last = taken ∙ p.last ∙ ap last_of (sym requests);
  came = omega (arith, p.came, ap head_end taken, ap length bytes);
}

-- ---- bytes come

-- a head that stands at its place stays there
stands : (limits : Limits) (bytes : List ℕ) (r : TakenUp) → r.place ≤ length bytes
    → head_of limits.max_head limits.max_fields (drop r.place bytes) ≡ found r.size r.head → IsAtPlace limits bytes r
stands limits bytes r within e more =
    ap (head_of limits.max_head limits.max_fields) (drop-append-le r.place bytes more within)
    ∙ heads_stay limits.max_head limits.max_fields (drop r.place bytes) more (λ w. cc) ∙ e

bytes_come : (limits : Limits) (bytes more : List ℕ) (rs : List TakenUp) → All (IsAtPlace limits bytes) rs → All (IsAtPlace limits (bytes ++ more)) rs
bytes_come limits bytes more rs at =
    All-weaker (IsAtPlace limits bytes) (IsAtPlace limits (bytes ++ more))
    (λ r here later. ap (λ (b : List ℕ). head_of limits.max_head limits.max_fields (drop r.place b)) (append_assoc bytes more later) ∙ here (more ++ later))
    rs at

body_comes : (bytes more : List ℕ) (r : TakenUp) (n : ℕ) → HasBody bytes r n → HasBody (bytes ++ more) r n
body_comes bytes more r n has later =
    subst (λ (b : List ℕ). (content : List ℕ) × (body_of r.max_trailer r.framing (drop (r.place + r.size) b) ≡ whole content n))
    (sym (append_assoc bytes more later)) (has (more ++ later))

row_comes : (bytes more : List ℕ) (from : ℕ) (rs : List TakenUp) → AreInRow bytes from rs → AreInRow (bytes ++ more) from rs
row_comes bytes more from [] row = tt
row_comes bytes more from (r ∷ []) row = row
row_comes bytes more from (r ∷ q ∷ rs) row =
    (row.0, row.1, body_comes bytes more r row.1 row.2, row_comes bytes more (r.place + r.size + row.1) (q ∷ rs) row.3)

-- ---- a head is taken up

row_more : (bytes : List ℕ) (from : ℕ) (rs : List TakenUp) (r : TakenUp) → AreInRow bytes from rs → (rs ≡ [] → r.place ≡ from) → Follows bytes (last_of rs) r
    → AreInRow bytes from (rs ++ r ∷ [])
row_more bytes from [] r row first follows = first refl
row_more bytes from (q ∷ []) r row first follows = (row, follows.0, follows.1, follows.2)
row_more bytes from (q ∷ p ∷ rs) r row first follows =
    (row.0, row.1, row.2, row_more bytes (q.place + q.size + row.1) (p ∷ rs) r row.3 (λ e. cc) follows)

last_more : (rs : List TakenUp) (r : TakenUp) → last_of (rs ++ r ∷ []) ≡ Some r
last_more [] r = refl
last_more (q ∷ []) r = refl
last_more (q ∷ p ∷ rs) r = last_more (p ∷ rs) r

-- where a head may be taken up, the next is looked for behind the last body
used_whole : (open_now told : Bool) (n m : ℕ) → open_now ≡ false → (if open_now && not told then n else m) ≡ m
used_whole true told n m e = cc
used_whole false told n m e = refl

pub looks_behind : (T : Trace) → head_end (last_taken T) ≤ length (bytes_of T) → may_begin T ≡ true → (r : TakenUp) → r.place ≡ consumed T
    → Follows (bytes_of T) (last_taken T) r
looks_behind T fits_now may r at =
    let closed = (may_begin-parts T may).0 in
    let is = may_begin-whole T may in
    let all : used T ≡ (scan_of T).raw = used_whole (is_open T) (is_end_told T) (used_by_given (last_taken T) (bytes_of T) (given_count T)) (scan_of T).raw closed in
    by_last (last_taken T) refl (at ∙ ap (consumed_by (last_taken T)) all)
  where
    by_last : (o : Option TakenUp) → last_taken T ≡ o → r.place ≡ consumed_by (last_taken T) (scan_of T).raw → Follows (bytes_of T) o r
    by_last None is here = here ∙ ap (λ (o : Option TakenUp). consumed_by o (scan_of T).raw) is
    by_last (Some q) is here =
        let m = scan_bytes q.max_trailer (body_start q.framing) (behind_head (bytes_of T) q) in
        let scanned : scan_of T ≡ m = ap (λ (o : Option TakenUp). scan_by o (bytes_of T)) is in
        let fits : q.place + q.size ≤ length (bytes_of T) = subst (λ (o : Option TakenUp). head_end o ≤ length (bytes_of T)) is fits_now in (
          m.raw,
          body_stays (bytes_of T) q fits (sym (ap (λ (k : BodyMark). is_whole k.stage) scanned) ∙ may_begin-whole T may),
          here ∙ ap (λ (o : Option TakenUp). consumed_by o (scan_of T).raw) is ∙ ap (λ (k : BodyMark). q.place + q.size + k.raw) scanned,
        )

head_fits : (o : Option TakenUp) (n : ℕ) → head_end o ≤ consumed_by o n
head_fits None n = omega arith
head_fits (Some r) n = omega arith

begun_placed : (limits : Limits) (t : ℕ) (r : TakenUp) (T : Trace) → may_begin T ≡ true → IsTakenAt limits r T → Placed limits T → Placed limits ((t, began r) ∷ T)
begun_placed limits t r T may at p =
    let bounds = front_length-bounds (unread T) r.size (head_of-found limits.max_head limits.max_fields (unread T) r.size r.head at.front) in
    let here = ap (λ (n : ℕ). head_of limits.max_head limits.max_fields (drop n (bytes_of T))) at.place ∙ at.front in
    let follows = looks_behind T p.came may r at.place in
    let fits = head_fits (last_taken T) (used T) in
    let room = length-drop (consumed T) (bytes_of T) in
    record {
      heads = All-push (IsAtPlace limits (bytes_of T)) (requests_of T) r p.heads (stands limits (bytes_of T) r (omega (arith, at.place, bounds, room)) here);
      row = row_more (bytes_of T) 0 (requests_of T) r p.row
          (λ none. first_place (last_taken T) (p.last ∙ ap last_of none) follows)
          (subst (λ (o : Option TakenUp). Follows (bytes_of T) o r) p.last follows);
      last = sym (last_more (requests_of T) r);
      came = omega (arith, at.place, bounds, room);
    }
  where
    first_place : (o : Option TakenUp) → o ≡ None → Follows (bytes_of T) o r → r.place ≡ 0
    first_place None e f = f
    first_place (Some q) e f = cc

placed_by_input : (limits : Limits) (rules : List Rule) → KeptByInput limits rules (Placed limits)
placed_by_input limits rules = record {
  others = λ t m T brought p. unmoved limits T ((t, m) ∷ T) (other_bytes t m T brought) (other_requests t m T brought) (other_last t m T brought) p;
  comes = λ t b T taken p. record {
    heads = bytes_come limits (bytes_of T) b (requests_of T) p.heads;
    row = row_comes (bytes_of T) b 0 (requests_of T) p.row;
    last = p.last;
    came = omega (arith, p.came, length-append (bytes_of T) b);
  };
  begins = λ t r T may at due p. begun_placed limits t r T may at p;
}
  where
    other_bytes : (t : ℕ) (m : Mark) (T : Trace) → brings m ≡ false → bytes_of ((t, m) ∷ T) ≡ bytes_of T
    other_bytes t (came b) T e = cc
    other_bytes t m T e = refl

    other_requests : (t : ℕ) (m : Mark) (T : Trace) → brings m ≡ false → requests_of ((t, m) ∷ T) ≡ requests_of T
    other_requests t (began r) T e = cc
    other_requests t m T e = refl

    other_last : (t : ℕ) (m : Mark) (T : Trace) → brings m ≡ false → last_taken ((t, m) ∷ T) ≡ last_taken T
    other_last t (began r) T e = cc
    other_last t m T e = refl

nothing_placed : (limits : Limits) → Placed limits []
nothing_placed limits = record { heads = All-nil (IsAtPlace limits []); row = tt; last = refl; came = omega arith }

pub heads_are_at_their_places : HeadsAreAtTheirPlaces
heads_are_at_their_places limits rules entries =
    let T = trace_of limits rules entries in
    let p = trace_keeps (Placed limits) limits rules (kept_by_input (Placed limits) limits rules (placed_by_input limits rules)) (nothing_placed limits) entries in
    record {
      heads = p.heads;
      row = p.row;
      next = λ may r at. subst (λ (o : Option TakenUp). Follows (bytes_of T) o r) p.last (looks_behind T p.came may r at);
    }
