-- The bytes that came are cut into requests: heads, and the bodies that are written behind them.
use Rattle.std.proofs.Common.{◌≡◌, ℕ, ◌+◌, true, List, [], ◌∷◌, ◌++◌, All, drop, length, take, take-append-drop, Option, Some, None, arith, refl, sym, ap, ◌∙◌, subst}
use Rattle.std.proofs.lemmas.List.{drop-drop, length-take-le}
use Rattle.std.proofs.lemmas.List.Elements.{All-head, All-tail}
use Rattle.cy_event.specs.declared.limits.Limits.{Limits}
use Rattle.cy_event.specs.Bodies.{body_of, whole}
use Rattle.cy_event.proofs.Fronts.{front_length-bounds, head_of-found}
use Rattle.cy_in.proofs.Joins.{append_nil}
use Rattle.cy_in.proofs.WholeWritten.{whole_is_written}
use Rattle.cy_model.specs.Entries.{trace_of}
use Rattle.cy_model.specs.Folds.{bytes_of, last_taken, requests_of}
use Rattle.cy_model.specs.Inputs.{behind_head, consumed, consumed_by, used}
use Rattle.cy_model.specs.Laws.{AreAtTheirPlaces, AreInRow, Follows, IsAtPlace, last_of}
use Rattle.cy_model.specs.Marks.{TakenUp, Trace, began}
use Rattle.cy_model.specs.Settling.{may_begin}
use Rattle.cy_model.proofs.Places.{heads_are_at_their_places}
use Rattle.cy_bodies.specs.Laws.{AreCut, BeginsWithBody, BeginsWithHead, HeadsFollowWrittenBodies, IsNextPlace}

-- ---- one head, one body

-- a head, and what stands behind it
record HeadOf (r : TakenUp) (bytes : List ℕ) : Type 0 where
  begins : BeginsWithHead r bytes
  rest : begins.behind ≡ drop r.size bytes

-- a head that stands at its place has all its bytes there
head_here : (limits : Limits) (bytes more : List ℕ) (r : TakenUp) → IsAtPlace limits bytes r → HeadOf r (drop r.place (bytes ++ more))
head_here limits bytes more r at =
    let here = drop r.place (bytes ++ more) in
    let bounds = front_length-bounds here r.size (head_of-found limits.max_head limits.max_fields here r.size r.head (at more)) in
    record {
      begins = record {
        head = take r.size here;
        behind = drop r.size here;
        size = length-take-le r.size here bounds.1;
        front = sym (take-append-drop r.size here);
      };
      rest = refl;
    }

-- a whole body is written, and this is its size
record BodyOf (r : TakenUp) (bytes : List ℕ) (n : ℕ) : Type 0 where
  begins : BeginsWithBody r bytes
  size : length begins.body ≡ n
  rest : begins.behind ≡ drop n bytes

body_here : (r : TakenUp) (bytes content : List ℕ) (n : ℕ) → body_of r.max_trailer r.framing bytes ≡ whole content n → BodyOf r bytes n
body_here r bytes content n e =
    let w = whole_is_written r.max_trailer r.framing bytes content n e in
    record {
      begins = record {
        body = take n bytes;
        behind = drop n bytes;
        content = content;
        written = w.1;
        front = sym (take-append-drop n bytes);
      };
      size = length-take-le n bytes w.0;
      rest = refl;
    }

-- ---- all of them

cut : (limits : Limits) (bytes more : List ℕ) (from : ℕ) (rs : List TakenUp) → All (IsAtPlace limits bytes) rs → AreInRow bytes from rs
    → AreCut from (drop from (bytes ++ more)) rs
cut limits bytes more from [] at row = tt
cut limits bytes more from (r ∷ []) at row =
    let here = head_here limits bytes more r (All-head (IsAtPlace limits bytes) r [] at) in
    (row, subst (λ (n : ℕ). BeginsWithHead r (drop n (bytes ++ more))) row here.begins)
cut limits bytes more from (r ∷ q ∷ rs) at row =
    let all = bytes ++ more in
    let has = row.2 more in
    let h : HeadOf r (drop from all) =
    subst (λ (n : ℕ). HeadOf r (drop n all)) row.0 (head_here limits bytes more r (All-head (IsAtPlace limits bytes) r (q ∷ rs) at)) in
    let at_body : h.begins.behind ≡ drop (r.place + r.size) all =
    h.rest ∙ ap (λ (n : ℕ). drop r.size (drop n all)) (sym row.0) ∙ drop-drop r.size r.place all in
    let b = body_here r h.begins.behind has.0 row.1 (ap (body_of r.max_trailer r.framing) at_body ∙ has.1) in
    let later = cut limits bytes more (r.place + r.size + row.1) (q ∷ rs) (All-tail (IsAtPlace limits bytes) r (q ∷ rs) at) row.3 in
    let place : r.place + r.size + row.1 ≡ from + r.size + length b.begins.body = omega (arith, row.0, b.size) in
    let rest : drop (r.place + r.size + row.1) all ≡ b.begins.behind =
    sym (b.rest ∙ ap (drop row.1) at_body ∙ drop-drop row.1 (r.place + r.size) all) in (
      row.0,
      h.begins,
      b.begins,
      subst (λ (bs : List ℕ). AreCut (from + r.size + length b.begins.body) bs (q ∷ rs)) rest
          (subst (λ (n : ℕ). AreCut n (drop (r.place + r.size + row.1) all) (q ∷ rs)) place later),
    )

-- ---- the next

last_more : (rs : List TakenUp) (r : TakenUp) → last_of (rs ++ r ∷ []) ≡ Some r
last_more [] r = refl
last_more (q ∷ []) r = refl
last_more (q ∷ p ∷ rs) r = last_more (p ∷ rs) r

last_is : (T : Trace) → last_taken T ≡ last_of (requests_of T)
last_is [] = refl
last_is ((t, began r) ∷ T) = sym (last_more (requests_of T) r)
last_is ((t, m) ∷ T) = last_is T

next_here : (limits : Limits) (T : Trace) → AreAtTheirPlaces limits T → may_begin T ≡ true → IsNextPlace (bytes_of T) (last_taken T) (consumed T)
next_here limits T p may = by_last (last_taken T) refl
  where
    by_last : (o : Option TakenUp) → last_taken T ≡ o → IsNextPlace (bytes_of T) o (consumed T)
    by_last None is = ap (λ (o : Option TakenUp). consumed_by o (used T)) is
    by_last (Some last) is =
        let f : Follows (bytes_of T) (Some last) (record last { place = consumed T }) =
        subst (λ (o : Option TakenUp). Follows (bytes_of T) o (record last { place = consumed T })) (sym (last_is T) ∙ is)
        (p.next may (record last { place = consumed T }) refl) in
        let has = f.1 [] in
        let b = body_here last (behind_head (bytes_of T) last) has.0 f.0
        (ap (λ (bs : List ℕ). body_of last.max_trailer last.framing (drop (last.place + last.size) bs)) (sym (append_nil (bytes_of T))) ∙ has.1) in
        (b.begins, omega (arith, f.2, b.size))

pub heads_follow_written_bodies : HeadsFollowWrittenBodies
heads_follow_written_bodies limits rules entries =
    let T = trace_of limits rules entries in
    let p = heads_are_at_their_places limits rules entries in
    record {
      cut = λ more. cut limits (bytes_of T) more 0 (requests_of T) p.heads p.row;
      next = next_here limits T p;
    }
