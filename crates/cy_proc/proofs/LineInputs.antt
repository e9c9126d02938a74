-- What a line keeps of its input, as bytes come, a head is taken up, and a request ends: each is what the trace says.
use Rattle.std.proofs.Common.{◌≡◌, ◌≤◌, ℕ, ◌+◌, ◌-◌, true, false, ◌||◌, ◌==◌, List, [], ◌∷◌, ◌++◌, length, drop, Option, Some, None, is_some, refl, sym, ap, ◌∙◌, subst, arith, append-nil, length-append, length-drop, if◌then◌else◌}
use Rattle.std.specs.Prelude.{unwrap_or}
use Rattle.std.proofs.lemmas.Bool.{eqb-true}
use Rattle.std.proofs.lemmas.List.{drop-append-le, drop-drop}
use Rattle.cy_event.specs.declared.body.BodyMark.{BodyMark}
use Rattle.cy_event.specs.Bodies.{Body, body_of, body_start, content_in, is_over, scan_bytes}
use Rattle.cy_in.specs.Intakes.{Intake, after_swallow, ahead, taken_by}
use Rattle.cy_in.proofs.Joins.{content_join, settled_body}
use Rattle.cy_model.specs.Folds.{begun_count, bytes_of, is_open, last_taken}
use Rattle.cy_model.specs.Inputs.{behind_head, body_by, consumed, given_count, head_end, consumed_by, is_whole, scan_by, scan_of, unread, used, used_at_end, waiting_of}
use Rattle.cy_model.specs.Marks.{TakenUp, Trace, began, came, over}
use Rattle.cy_proc.specs.LineBodies.{IsGivenWithin, IsSoundInput, intake_of, max_trailer_by, passed_from, used_mark}
use Rattle.cy_proc.specs.LineChanges.{after_begin, gone_on, passed_line, scanned_line, with_more}
use Rattle.cy_proc.specs.Lines.{LineParts, line_parts}
use Rattle.cy_proc.proofs.Intakes.{came_passed, came_scanned, none_stays, rest_scanned, told_stays, unread_passed, unread_stays, used_is, used_stays, used_within, waits_fewer, whole_over}

-- ---- which requests were begun

IsCounted : Option TakenUp → ℕ → Type 0
IsCounted None n = n ≡ 0
IsCounted (Some r) n = 1 ≤ n

begun_counts : (T : Trace) → IsCounted (last_taken T) (begun_count T)
unfolding IsCounted
begun_counts [] = refl
begun_counts ((t, began r) ∷ T) = omega arith
begun_counts ((t, m) ∷ T) = begun_counts T

pub open_taken : (T : Trace) → is_open T ≡ true → is_some (last_taken T) ≡ true
open_taken [] e = cc
open_taken ((t, began r) ∷ T) e = refl
open_taken ((t, over) ∷ T) e = cc
open_taken ((t, m) ∷ T) e = open_taken T e

-- ---- bytes come

-- a body that is over stays what it is
body_stays : (o : Option TakenUp) (bytes more : List ℕ) → head_end o ≤ length bytes → is_over (scan_by o bytes).stage ≡ true → body_by o (bytes ++ more) ≡ body_by o bytes
body_stays None bytes more within ended = refl
body_stays (Some r) bytes more within ended =
    ap (body_of r.max_trailer r.framing) (drop-append-le (r.place + r.size) bytes more within)
    ∙ settled_body r.max_trailer r.framing (behind_head bytes r) more ended

module _ (t m : ℕ) (b : List ℕ) (T : Trace) (s : IsSoundInput T) where
  abbrev Came : Trace
  Came = (t, came b) ∷ T

  abbrev L : LineParts
  L = with_more b (line_parts m T)

  more_came : length (bytes_of T) + length b ≡ length (bytes_of T ++ b)
  more_came = sym (length-append (bytes_of T) b)

  scanned_parts : used_mark Came ≡ used_mark T → scanned_line L ≡ line_parts m Came
  scanned_parts same =
      let waits = unread_stays t b T s.heads_came same in
      let body = came_scanned t b T s.heads_came same in
      let count = more_came in
      λ i. record (line_parts m T) { unread = waits i; body = body i; came = count i }

  passed_parts : (r : TakenUp) → is_open T ≡ false → last_taken T ≡ Some r → passed_line L ≡ line_parts m Came
  passed_parts r o is =
      let body = came_passed t b T r s.heads_came o is in
      let waits = ap (λ (i : Intake). drop (taken_by (intake_of T) i) (unread T ++ b)) body ∙ unread_passed t b T r s.heads_came o is in
      let count = more_came in
      λ i. record (line_parts m T) { unread = waits i; body = body i; came = count i }

  none_is_zero : (n : ℕ) → n ≡ 0 → (n == 0) ≡ true
  none_is_zero n e = ap (λ (k : ℕ). k == 0) e

  some_isnt : (n : ℕ) → 1 ≤ n → (n == 0) ≡ false
  some_isnt n e = elim (n == 0) as (λ v. (n == 0) ≡ v → v ≡ false) [ true ↦ λ q. absurd (omega (arith, e, eqb-true n 0 q)) | false ↦ λ q. refl ] refl

  closed_parts : (o : Option TakenUp) → last_taken T ≡ o → is_open T ≡ false → IsCounted o (begun_count T) → gone_on L ≡ line_parts m Came
  unfolding IsCounted
  closed_parts None is closed counts =
      let none = none_is_zero (begun_count T) counts in
      (λ i. if closed i || none i then scanned_line L else passed_line L) ∙ scanned_parts (none_stays t b T is)
  closed_parts (Some r) is closed counts =
      let some = some_isnt (begun_count T) counts in
      (λ i. if closed i || some i then scanned_line L else passed_line L) ∙ passed_parts r closed is

  pub came_parts : gone_on L ≡ line_parts m Came
  came_parts =
      elim (is_open T) as (λ v. is_open T ≡ v → gone_on L ≡ line_parts m Came) [
        | true ↦ λ o. (λ i. if o i || (begun_count T == 0) then scanned_line L else passed_line L) ∙ scanned_parts (used_stays t b T s o)
        | false ↦ λ o. closed_parts (last_taken T) refl o (begun_counts T)
      ] refl

  given_more : (o : Option TakenUp) (n : ℕ) → IsGivenWithin o (bytes_of T) n → last_taken T ≡ o → IsGivenWithin o (bytes_of T ++ b) n
  given_more None n enough is = tt
  given_more (Some r) n enough is =
      let within : r.place + r.size ≤ length (bytes_of T) = subst (λ (o : Option TakenUp). elim o [ None ↦ 0 | Some q ↦ q.place + q.size ] ≤ length (bytes_of T)) is s.heads_came in
      let start = body_start r.framing in
      let behind = drop-append-le (r.place + r.size) (bytes_of T) b within in
      let split = ap (content_in r.max_trailer start) behind ∙ content_join r.max_trailer start (behind_head (bytes_of T) r) b in
      omega (
        arith,
        enough,
        ap length split,
        length-append (content_in r.max_trailer start (behind_head (bytes_of T) r)) (content_in r.max_trailer (scan_bytes r.max_trailer start (behind_head (bytes_of T) r)) b),
      )

  pub came_input : IsSoundInput Came
  came_input = record {
    heads_came = omega (arith, s.heads_came, more_came);
    given = given_more (last_taken T) _ s.given refl;
    told = λ o told.
        let all = s.told o told in
        let ended = whole_over (scan_of T).stage all.0 in (
          ap (λ (k : BodyMark). is_whole k.stage) (told_stays t b T s.heads_came ended) ∙ all.0,
          ap (λ (k : Body). waiting_of k (given_count T)) (body_stays (last_taken T) (bytes_of T) b s.heads_came ended) ∙ all.1,
        );
  }

-- ---- a head is taken up

module _ (m : ℕ) (r : TakenUp) (T : Trace) (at : r.place ≡ consumed T) where
  abbrev Begun : Trace
  Begun = (m, began r) ∷ T

  behind_it : drop r.size (unread T) ≡ behind_head (bytes_of T) r
  behind_it = drop-drop r.size (consumed T) (bytes_of T) ∙ ap (λ (n : ℕ). drop (n + r.size) (bytes_of T)) (sym at)

  pub began_parts : after_begin r.size r.framing r.max_trailer r.go_on (line_parts m T) ≡ line_parts m Begun
  began_parts =
      let none : r.place + r.size ≡ r.place + r.size + 0 = omega arith in
      let waits : drop r.size (unread T) ≡ unread Begun = behind_it ∙ ap (λ (n : ℕ). drop n (bytes_of T)) none in
      let scanned = ap (scan_bytes r.max_trailer (body_start r.framing)) behind_it in
      λ i. record (after_begin r.size r.framing r.max_trailer r.go_on (line_parts m T)) {
        unread = waits i;
        body = record { scanned = scanned i; taken = body_start r.framing; max_trailer = r.max_trailer; swallowed_from = None };
      }

  pub began_input : 1 ≤ r.size → r.size ≤ length (unread T) → IsSoundInput Begun
  began_input some fits = record {
    heads_came = omega (arith, at, fits, some, length-drop (consumed T) (bytes_of T));
    given = omega arith;
    told = λ o told. cc;
  }

-- ---- a request ends

module _ (m : ℕ) (T : Trace) (open_now : is_open T ≡ true) where
  abbrev Over : Trace
  Over = (m, over) ∷ T

  over_scanned : scan_bytes (max_trailer_by (last_taken T)) (scan_of T) (drop (ahead (intake_of T)) (unread T)) ≡ scan_of T
  over_scanned =
      let max = max_trailer_by (last_taken T) in
      let behind : ahead (intake_of T) ≡ (scan_of T).raw - used T = ap (λ (n : ℕ). (scan_of T).raw - n) (sym (used_is T)) in
      (λ i. scan_bytes max (scan_of T) (drop (behind i) (sym (append-nil (unread T)) i)))
      ∙ rest_scanned max (last_taken T) (bytes_of T) [] (used T) (omega (arith, used_is T, used_within T))

  over_from : (o : Option TakenUp) (n : ℕ) → is_some o ≡ true → Some (unwrap_or (passed_from (is_open T) o n) (used_mark T).raw) ≡ passed_from false o (used T)
  over_from None n some = cc
  over_from (Some r) n some =
      (λ i. Some (unwrap_or (passed_from (open_now i) (Some r) n) (used_mark T).raw)) ∙ ap Some (sym (used_is T))

  over_body : after_swallow (max_trailer_by (last_taken T)) (intake_of T) (unread T) ≡ intake_of Over
  over_body =
      let scanned = over_scanned in
      let from = over_from (last_taken T) (used_at_end T) (open_taken T open_now) in
      λ i. record { scanned = scanned i; taken = scanned i; max_trailer = max_trailer_by (last_taken T); swallowed_from = from i }

  pub over_waits : (o : Option TakenUp) → is_some o ≡ true → drop ((scan_of T).raw - used T) (drop (consumed_by o (used T)) (bytes_of T)) ≡ drop (consumed_by o (scan_of T).raw) (bytes_of T)
  over_waits None some = cc
  over_waits (Some r) some = waits_fewer r (bytes_of T) (used T) (scan_of T).raw (omega (arith, used_is T, used_within T))

  over_unread : drop (taken_by (intake_of T) (intake_of Over)) (unread T) ≡ unread Over
  over_unread =
      let count : taken_by (intake_of T) (intake_of Over) ≡ (scan_of T).raw - used T = ap (λ (n : ℕ). (scan_of T).raw - n) (sym (used_is T)) in
      ap (λ (n : ℕ). drop n (unread T)) count ∙ over_waits (last_taken T) (open_taken T open_now)

  -- what came of its body is passed over
  pub over_line : (l : LineParts) → l.body ≡ intake_of T → l.unread ≡ unread T → passed_line l ≡ record l { body = intake_of Over; unread = unread Over }
  over_line l body waits =
      (λ i. passed_line (record l { body = body i; unread = waits i }))
      ∙ (λ i. record l { body = over_body i; unread = drop (taken_by (intake_of T) (over_body i)) (unread T) })
      ∙ ap (λ (u : List ℕ). record l { body = intake_of Over; unread = u }) over_unread
