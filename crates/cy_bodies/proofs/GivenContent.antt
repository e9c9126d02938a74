-- What the replies handed over to each request is the content that its marks say, and that is a prefix of its body's.
use Rattle.std.proofs.Common.{◌≡◌, ◌<◌, ◌≤◌, ◌⊎◌, inl, inr, ⊎_elim, ℕ, zero, suc, ◌+◌, Bool, true, false, List, [], ◌∷◌, ◌++◌, append_assoc, drop, length, length-append, length-drop, take, take-append-drop, Option, Some, arith, refl, sym, ap, ◌∙◌, subst, if◌then◌else◌, ◌==◌}
use Rattle.std.proofs.lemmas.Bool.{eqb-false, eqb-true}
use Rattle.std.proofs.lemmas.List.{take-append-le}
use Rattle.std.proofs.Math.Seq.{take-add, take-nil}
use Rattle.cy_event.specs.declared.limits.Limits.{Limits}
use Rattle.cy_event.specs.declared.body.BodyMark.{BodyMark}
use Rattle.cy_event.specs.declared.body.BodyStage.{BodyStage}
use Rattle.cy_event.specs.declared.body.BodyStage.TheVariants as stage
use Rattle.cy_event.specs.Bodies.{body_at, body_of, body_start, content_in, scan_bytes}
use Rattle.cy_event.specs.BodyGrammar.{IsBody}
use Rattle.cy_in.proofs.BodiesAt.{whole_content}
use Rattle.cy_in.proofs.BodyWritten.{written_is_whole}
use Rattle.cy_in.proofs.Joins.{append_nil, content_join}
use Rattle.cy_map.specs.declared.rule.Rule.{Rule}
use Rattle.cy_model.specs.Entries.{Entry, reply_to, trace_of}
use Rattle.cy_model.specs.Folds.{begun_count, bytes_of, last_taken}
use Rattle.cy_model.specs.Inputs.{behind_head, body_by, given_count, waiting, waiting_of}
use Rattle.cy_model.specs.Marks.{Mark, TakenUp, Trace, began, came, given}
use Rattle.cy_model.proofs.InputInduction.{KeptByInput, brings, kept_by_input}
use Rattle.cy_model.proofs.TraceInduction.{trace_keeps}
use Rattle.cy_bodies.specs.ContentLaws.{RequestsGetTheirContent}
use Rattle.cy_bodies.specs.Handed.{content_came, handed_to, numbered}
use Rattle.cy_bodies.proofs.Prefixes.{drop_longer}
use Rattle.cy_bodies.proofs.Walks.{AllFit, Fits, KeptByWalk, entries_fit, entry_walks, moves_input}

-- ---- what the marks say was given to the request of a number

abbrev pub told : ℕ → Trace → List ℕ
told number [] = []
told number ((t, given n) ∷ T) =
    if begun_count T == number then told number T ++ take n (waiting T) else told number T
told number ((t, m) ∷ T) = told number T

-- and how much it was
abbrev pub given_to : ℕ → Trace → ℕ
given_to number [] = 0
given_to number ((t, given n) ∷ T) =
    if begun_count T == number then given_to number T + n else given_to number T
given_to number ((t, m) ∷ T) = given_to number T

-- ---- it is what the replies handed over

told_same : (number t : ℕ) (m : Mark) (T : Trace) → moves_input m ≡ false → told number ((t, m) ∷ T) ≡ told number T
told_same number t (came b) T e = cc
told_same number t (given n) T e = cc
told_same number t m T e = refl

take_counted : (n : ℕ) (xs : List ℕ) → take (length (take n xs)) xs ≡ take n xs
take_counted zero xs = refl
take_counted (suc n) [] = refl
take_counted (suc n) (x ∷ xs) = ap (λ (ys : List ℕ). x ∷ ys) (take_counted n xs)

nothing_more : (v : Bool) (xs : List ℕ) → xs ≡ xs ++ (if v then [] else [])
nothing_more true xs = sym (append_nil xs)
nothing_more false xs = sym (append_nil xs)

more_told : (v : Bool) (n : ℕ) (xs waits : List ℕ)
    → (if v then xs ++ take (length (take n waits)) waits else xs) ≡ xs ++ (if v then take n waits else [])
more_told true n xs waits = ap (λ (ys : List ℕ). xs ++ ys) (take_counted n waits)
more_told false n xs waits = sym (append_nil xs)

-- the trace behind an entry tells that, and what its reply hands over
abbrev Tells : ℕ → Trace → Trace → List ℕ → Type 0
Tells number T S got = told number S ≡ told number T ++ (if begun_count T == number then got else [])

tells_walk : (number t : ℕ) (T : Trace) → KeptByWalk t T (Tells number T)
tells_walk number t T = record {
  start = nothing_more (begun_count T == number) (told number T);
  others = λ u m S got e tells. told_same number u m S e ∙ tells;
  comes = λ b. nothing_more (begun_count T == number) (told number T);
  gives = λ n. more_told (begun_count T == number) n (told number T) (waiting T);
}

pub handed_told : (limits : Limits) (rules : List Rule) (number : ℕ) (entries : List (ℕ × Entry))
    → handed_to limits rules number entries ≡ told number (trace_of limits rules entries)
handed_told limits rules number [] = refl
handed_told limits rules number ((t, e) ∷ entries) =
    let T = trace_of limits rules entries in
    let got = (reply_to limits rules t T e).got in
    ap (λ (xs : List ℕ). xs ++ (if begun_count T == number then got else [])) (handed_told limits rules number entries)
    ∙ sym (entry_walks limits rules t T (Tells number T) (tells_walk number t T) e)

-- ---- and a prefix of the content

-- as many bytes of the content as were given, and no more than there are
abbrev pub IsFirst : List ℕ → ℕ → List ℕ → Type 0
IsFirst held n content = (n ≤ length content) × (held ≡ take n content)

first_longer : (held content more : List ℕ) (n : ℕ) → IsFirst held n content → IsFirst held n (content ++ more)
first_longer held content more n f =
    (omega (arith, f.0, length-append content more), f.1 ∙ sym (take-append-le n content more f.0))

first_further : (held content : List ℕ) (n k : ℕ) → IsFirst held n content → k ≤ length (drop n content)
    → IsFirst (held ++ take k (drop n content)) (n + k) content
first_further held content n k f within = (
  omega (arith, f.0, within, length-drop n content),
  ap (λ (xs : List ℕ). xs ++ take k (drop n content)) f.1 ∙ sym (take-add n k content),
)

first_stays : (held content : List ℕ) (n k : ℕ) → IsFirst held n content → k ≤ 0 → IsFirst (held ++ take k []) (n + k) content
first_stays held content n k f none =
    let same : n ≡ n + k = omega arith in
    subst (λ (j : ℕ). IsFirst (held ++ take k []) j content) same
    (f.0, ap (λ (xs : List ℕ). held ++ xs) (take-nil k) ∙ append_nil held ∙ f.1)

-- what waits of a body is what is left of its content, or nothing
waits_at : (m : BodyMark) (content : List ℕ) (s : BodyStage) (n : ℕ)
    → (waiting_of (body_at m content s) n ≡ drop n content) ⊎ (waiting_of (body_at m content s) n ≡ [])
waits_at m content stage.Malformed n = inr refl
waits_at m content stage.TooLong n = inr refl
waits_at m content s n = inl refl

pub content_longer : (bytes more : List ℕ) (r : TakenUp) → (later : List ℕ) × (content_came (bytes ++ more) r ≡ content_came bytes r ++ later)
content_longer bytes more r =
    let w = drop_longer (r.place + r.size) bytes more in
    let start = body_start r.framing in (
      content_in r.max_trailer (scan_bytes r.max_trailer start (behind_head bytes r)) w.0,
      ap (content_in r.max_trailer start) w.1 ∙ content_join r.max_trailer start (behind_head bytes r) w.0,
    )

-- ---- what is known of the request of a number, by its folds

-- nothing was given to a request that is still to begin; of the last one the folds say the same; what was given stands
-- first in the content
abbrev pub IsGivenBy : ℕ → ℕ → List ℕ → ℕ → Option TakenUp → Option TakenUp → ℕ → List ℕ → Type 0
IsGivenBy number begun held n request last count bytes =
    (begun < number → (held ≡ []) × (n ≡ 0))
    × (begun ≡ number → (request ≡ last) × (count ≡ n))
    × ((r : TakenUp) → request ≡ Some r → IsFirst held n (content_came bytes r))

abbrev pub IsGiven : ℕ → Trace → Type 0
IsGiven number T =
    IsGivenBy number (begun_count T) (told number T) (given_to number T) (numbered number T) (last_taken T) (given_count T) (bytes_of T)

-- content is given to the last request
given_last : (T : Trace) (r : TakenUp) (k : ℕ) (held : List ℕ) → last_taken T ≡ Some r → k ≤ length (waiting T)
    → IsFirst held (given_count T) (content_came (bytes_of T) r) → IsFirst (held ++ take k (waiting T)) (given_count T + k) (content_came (bytes_of T) r)
given_last T r k held is within f =
    let bytes = behind_head (bytes_of T) r in
    let m = scan_bytes r.max_trailer (body_start r.framing) bytes in
    let content = content_came (bytes_of T) r in
    let n = given_count T in
    let here = ap (λ (o : Option TakenUp). waiting_of (body_by o (bytes_of T)) n) is in
    ⊎_elim
    (λ left. subst (λ (xs : List ℕ). k ≤ length xs → IsFirst (held ++ take k xs) (n + k) content) (sym (here ∙ left))
    (λ fits. first_further held content n k f fits) within)
    (λ none. subst (λ (xs : List ℕ). k ≤ length xs → IsFirst (held ++ take k xs) (n + k) content) (sym (here ∙ none))
    (λ fits. first_stays held content n k f fits) within)
    (waits_at m content m.stage n)

content_given : (number : ℕ) (T : Trace) (k : ℕ) → k ≤ length (waiting T) → IsGiven number T
    → (v : Bool) → (begun_count T == number) ≡ v
    → IsGivenBy number (begun_count T) (if v then told number T ++ take k (waiting T) else told number T)
    (if v then given_to number T + k else given_to number T) (numbered number T) (last_taken T) (given_count T + k) (bytes_of T)
content_given number T k within p true e =
    let here : begun_count T ≡ number = eqb-true (begun_count T) number e in
    let same = p.1 here in (
      λ ahead. absurd (omega (arith, here, ahead)),
      λ q. (same.0, ap (λ (n : ℕ). n + k) same.1),
      λ r is.
          subst (λ (n : ℕ). IsFirst (told number T ++ take k (waiting T)) (n + k) (content_came (bytes_of T) r)) same.1
          (given_last T r k (told number T) (sym same.0 ∙ is) within
          (subst (λ (n : ℕ). IsFirst (told number T) n (content_came (bytes_of T) r)) (sym same.1) (p.2 r is))),
    )
content_given number T k within p false e = (p.0, λ q. absurd (eqb-false (begun_count T) number e q), p.2)

request_begins : (number : ℕ) (T : Trace) (r : TakenUp) → IsGiven number T → (v : Bool) → (begun_count T + 1 == number) ≡ v
    → IsGivenBy number (begun_count T + 1) (told number T) (given_to number T) (if v then Some r else numbered number T) (Some r) 0 (bytes_of T)
request_begins number T r p true e =
    let here : begun_count T + 1 ≡ number = eqb-true (begun_count T + 1) number e in
    let none = p.0 (omega (arith, here)) in (
      λ ahead. absurd (omega (arith, here, ahead)),
      λ q. (refl, sym none.1),
      λ s is.
          subst (λ (n : ℕ). IsFirst (told number T) n (content_came (bytes_of T) s)) (sym none.1) (omega arith, none.0),
    )
request_begins number T r p false e =
    (λ ahead. p.0 (omega (arith, ahead)), λ q. absurd (eqb-false (begun_count T + 1) number e q), p.2)

mark_given : (number t : ℕ) (m : Mark) (T : Trace) → brings m ≡ false → Fits m T → IsGiven number T → IsGiven number ((t, m) ∷ T)
mark_given number t (came b) T e fits p = cc
mark_given number t (began r) T e fits p = cc
mark_given number t (given n) T e fits p = content_given number T n fits p (begun_count T == number) refl
mark_given number t m T e fits p = p

abbrev GivenWhereFit : ℕ → Trace → Type 0
GivenWhereFit number T = AllFit T → IsGiven number T

given_kept : (limits : Limits) (rules : List Rule) (number : ℕ) → KeptByInput limits rules (GivenWhereFit number)
given_kept limits rules number = record {
  others = λ t m T e p all. mark_given number t m T e all.0 (p all.1);
  comes = λ t b T taken p all.
      let before = p all.1 in (
        before.0,
        before.1,
        λ r is.
            let w = content_longer (bytes_of T) b r in
            subst (IsFirst (told number T) (given_to number T)) (sym w.1)
            (first_longer (told number T) (content_came (bytes_of T) r) w.0 (given_to number T) (before.2 r is)),
      );
  begins = λ t r T may at due p all. request_begins number T r (p all.1) (begun_count T + 1 == number) refl;
}

pub requests_given : (limits : Limits) (rules : List Rule) (number : ℕ) (entries : List (ℕ × Entry)) → IsGiven number (trace_of limits rules entries)
requests_given limits rules number entries =
    trace_keeps (GivenWhereFit number) limits rules (kept_by_input (GivenWhereFit number) limits rules (given_kept limits rules number))
    (λ all. (λ ahead. (refl, refl), λ q. (refl, refl), λ r is. cc)) entries (entries_fit limits rules entries)

-- ---- the law

-- the content of a written body begins with what came of it
written_begins : (r : TakenUp) (bytes more body content behind : List ℕ) → IsBody r.max_trailer r.framing body content
    → body ++ behind ≡ behind_head bytes r ++ more → (later : List ℕ) × (content ≡ content_came bytes r ++ later)
written_begins r bytes more body content behind written same =
    let start = body_start r.framing in
    let here = behind_head bytes r in
    let all = scan_bytes r.max_trailer start (here ++ more) in
    let is_all : content_in r.max_trailer start (here ++ more) ≡ content =
    whole_content all (content_in r.max_trailer start (here ++ more)) all.stage content (length body)
    (ap (body_of r.max_trailer r.framing) (sym same) ∙ written_is_whole r.max_trailer r.framing body content behind written) in
    (content_in r.max_trailer (scan_bytes r.max_trailer start here) more, sym is_all ∙ content_join r.max_trailer start here more)

pub requests_get_their_content : RequestsGetTheirContent
requests_get_their_content limits rules entries number r is =
    let T = trace_of limits rules entries in
    let handed = handed_to limits rules number entries in
    let content = content_came (bytes_of T) r in
    let n = given_to number T in
    let f = (requests_given limits rules number entries).2 r is in
    let first : content ≡ handed ++ drop n content =
    sym (take-append-drop n content) ∙ ap (λ (xs : List ℕ). xs ++ drop n content) (sym (handed_told limits rules number entries ∙ f.1)) in
    record {
      came = (drop n content, first);
      written = λ more body whole behind w same.
          let b = written_begins r (bytes_of T) more body whole behind w same in
          (drop n content ++ b.0, b.1 ∙ ap (λ (xs : List ℕ). xs ++ b.0) first ∙ append_assoc handed (drop n content) b.0);
    }
