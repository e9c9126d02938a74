-- Pieces end where the content is cut.
use Rattle.std.proofs.Common.{◌≡◌, ℕ, zero, suc, ◌+◌, ◌-◌, ◌*◌, ◌/◌, ◌%◌, ◌<◌, ◌≤◌, true, false, List, [], ◌∷◌, ◌++◌, length, min, take, drop, inl, inr, refl, sym, ap, subst, ◌∙◌, arith, append-nil, length-append}
use Rattle.std.specs.Prelude.{◌⊎◌, nat_le, nat_lt}
use Rattle.std.specs.List.{concat, flat_map}
use Rattle.std.proofs.lemmas.Bool.Decides.{nat_tests}
use Rattle.std.proofs.lemmas.List.{length-drop, length-take, take-append-le}
use Rattle.std.proofs.lemmas.List.Folds.{concat-append}
use Rattle.std.proofs.Math.Seq.{take-append-add}
use Rattle.cy_event.specs.Answers.{content_buffer}
use Rattle.cy_out.specs.Laws.{PiecesEndAtCuts}
use Rattle.cy_event.specs.Pieces.{EndsAt, IsCut, IsRunCut, PutOrFlush, first_pieces, flushed, piece_count, pieces_behind, put, run_pieces, runs_behind}
use Rattle.cy_out.proofs.PieceLemmas.{run_holds}

-- ---- the ends in a run

first_count : (n : ℕ) (run : List ℕ) → length (first_pieces n run) ≡ n
first_count zero run = refl
first_count (suc n) run = ap suc (first_count n (drop content_buffer run))

first_of_more : (n m : ℕ) (run : List ℕ) → n ≤ m → take n (first_pieces m run) ≡ first_pieces n run
first_of_more zero m run few = refl
first_of_more (suc n) zero run few = absurd (omega arith)
first_of_more (suc n) (suc m) run few =
    ap (λ (ps : List (List ℕ)). take content_buffer run ∷ ps) (first_of_more n m (drop content_buffer run) (omega arith))

first_size : (n : ℕ) (run : List ℕ) → length (concat (first_pieces n run)) ≡ min (n * content_buffer) (length run)
first_size zero run = omega arith
first_size (suc n) run =
    omega (
      arith,
      length-append (take content_buffer run) (concat (first_pieces n (drop content_buffer run))),
      first_size n (drop content_buffer run),
      length-take content_buffer run,
      length-drop content_buffer run,
    )

-- so many pieces of a run end here
run_size : (n : ℕ) (run : List ℕ) → n ≤ piece_count (length run) → length (concat (take n (run_pieces run))) ≡ min (n * content_buffer) (length run)
run_size n run few = ap (λ (ps : List (List ℕ)). length (concat ps)) (first_of_more n (piece_count (length run)) run few) ∙ first_size n run

run_cut : (run : List ℕ) (place : ℕ) → EndsAt (run_pieces run) place → IsRunCut (length run) place
run_cut run place e =
    let count : e.count ≤ piece_count (length run) = omega (arith, first_count (piece_count (length run)) run, e.few) in
    let size = run_size e.count run count in
    record {
      positive = omega (arith, size, e.some, e.place_is);
      where_it_is = elim (nat_lt (e.count * content_buffer) (length run)) as (λ v. nat_lt (e.count * content_buffer) (length run) ≡ v → (place ≡ length run) ⊎ ((place < length run) × (place % content_buffer ≡ 0))) [
        | true ↦ λ t. let less : e.count * content_buffer < length run = grind (arith, nat_tests) in
            inr (omega (arith, size, e.place_is), omega (arith, size, e.place_is))
        | false ↦ λ t. let most : length run ≤ e.count * content_buffer = grind (arith, nat_tests) in
            inl (omega (arith, size, e.place_is))
      ] refl;
    }

run_end : (run : List ℕ) (place : ℕ) → 1 ≤ place → (place ≡ length run) ⊎ ((place < length run) × (place % content_buffer ≡ 0)) → EndsAt (run_pieces run) place
run_end run place positive (inl last) =
    let most = piece_count (length run) in
    let count = first_count most run in
    record { count = most; some = omega arith; few = omega (arith, count); place_is = omega (arith, run_size most run (omega arith)) }
run_end run place positive (inr inside) =
    let n = place / content_buffer in
    let count = first_count (piece_count (length run)) run in
    let few : n ≤ piece_count (length run) = omega (arith, inside.0, inside.1) in
    record { count = n; some = omega (arith, inside.1); few = omega (arith, count); place_is = omega (arith, run_size n run few, inside.0, inside.1) }

-- ---- the ends in all runs

-- an end in the first of two lists is one in both, and one in the second stands behind the first
ends_first : (ps qs : List (List ℕ)) (place : ℕ) → EndsAt ps place → EndsAt (ps ++ qs) place
ends_first ps qs place e =
    record {
      count = e.count;
      some = e.some;
      few = omega (arith, e.few, length-append ps qs);
      place_is = e.place_is ∙ ap (λ (xs : List (List ℕ)). length (concat xs)) (sym (take-append-le e.count ps qs e.few));
    }

ends_second : (ps qs : List (List ℕ)) (place : ℕ) → EndsAt qs place → EndsAt (ps ++ qs) (length (concat ps) + place)
ends_second ps qs place e =
    let front = take e.count qs in
    record {
      count = length ps + e.count;
      some = omega (arith, e.some);
      few = omega (arith, e.few, length-append ps qs);
      place_is = omega (
        arith,
        e.place_is,
        length-append (concat ps) (concat front),
        ap length (concat-append ps front),
        ap (λ (xs : List (List ℕ)). length (concat xs)) (take-append-add ps qs e.count),
      );
    }

ends_in_both : (ps qs : List (List ℕ)) (place : ℕ) → EndsAt (ps ++ qs) place
    → EndsAt ps place ⊎ ((later : ℕ) × (place ≡ length (concat ps) + later) × EndsAt qs later)
ends_in_both ps qs place e =
    elim (nat_le e.count (length ps)) as (λ v. nat_le e.count (length ps) ≡ v
    → EndsAt ps place ⊎ ((later : ℕ) × (place ≡ length (concat ps) + later) × EndsAt qs later)) [
      | true ↦ λ t. let few : e.count ≤ length ps = grind (arith, nat_tests) in
          inl (record { count = e.count; some = e.some; few = few; place_is = e.place_is ∙ ap (λ (xs : List (List ℕ)). length (concat xs)) (take-append-le e.count ps qs few) })
      | false ↦ λ t. let more : length ps < e.count = grind (arith, nat_tests) in
          let n = e.count - length ps in
          let front = take n qs in
          let count : e.count ≡ length ps + n = omega arith in
          let first : take e.count (ps ++ qs) ≡ ps ++ front = ap (λ (m : ℕ). take m (ps ++ qs)) count ∙ take-append-add ps qs n in
          inr (
            length (concat front),
            e.place_is ∙ ap (λ (xs : List (List ℕ)). length (concat xs)) first ∙ ap length (concat-append ps front) ∙ length-append (concat ps) (concat front),
            record { count = n; some = omega arith; few = omega (arith, e.few, length-append ps qs); place_is = refl },
          )
    ] refl

ends_cut : (runs : List (List ℕ)) (place : ℕ) → EndsAt (flat_map run_pieces runs) place → IsCut runs place
ends_cut [] place e = absurd (omega (arith, e.some, e.few))
ends_cut (run ∷ runs) place e =
    elim (ends_in_both (run_pieces run) (flat_map run_pieces runs) place e) as (λ _. IsCut (run ∷ runs) place) [
      | inl f ↦ record { before = []; run = run; behind = runs; inside = place; runs_are = refl; place_is = omega arith; cut = run_cut run place f }
      | inr f ↦ let c = ends_cut runs f.0 f.2 in
          record {
            before = run ∷ c.before;
            run = c.run;
            behind = c.behind;
            inside = c.inside;
            runs_are = ap (λ (rs : List (List ℕ)). run ∷ rs) c.runs_are;
            place_is = omega (arith, f.1, c.place_is, ap length (run_holds run), length-append run (concat c.before));
            cut = c.cut;
          }
    ]

cut_ends : (before : List (List ℕ)) (run : List ℕ) (behind : List (List ℕ)) (inside : ℕ) → IsRunCut (length run) inside
    → EndsAt (flat_map run_pieces (before ++ (run ∷ behind))) (length (concat before) + inside)
cut_ends [] run behind inside cut =
    let place : inside ≡ 0 + inside = omega arith in
    subst (EndsAt (run_pieces run ++ flat_map run_pieces behind)) place
    (ends_first (run_pieces run) (flat_map run_pieces behind) inside (run_end run inside cut.positive cut.where_it_is))
cut_ends (first ∷ before) run behind inside cut =
    let rest = flat_map run_pieces (before ++ (run ∷ behind)) in
    let place : length (concat (run_pieces first)) + (length (concat before) + inside) ≡ length (first ++ concat before) + inside
    = omega (arith, ap length (run_holds first), length-append first (concat before)) in
    subst (EndsAt (run_pieces first ++ rest)) place
    (ends_second (run_pieces first) rest (length (concat before) + inside) (cut_ends before run behind inside cut))

-- ---- the law

by_runs : (run : List ℕ) (marks : List PutOrFlush) → pieces_behind run marks ≡ flat_map run_pieces (runs_behind run marks)
by_runs run [] = sym (append-nil (run_pieces run))
by_runs run (put bytes ∷ marks) = by_runs (run ++ bytes) marks
by_runs run (flushed ∷ marks) = ap (λ (ps : List (List ℕ)). run_pieces run ++ ps) (by_runs [] marks)

pub pieces_end_at_cuts : PiecesEndAtCuts
pieces_end_at_cuts run marks place =
    let runs = runs_behind run marks in
    let same : flat_map run_pieces runs ≡ pieces_behind run marks = sym (by_runs run marks) in (
      λ e. ends_cut runs place (subst (λ (ps : List (List ℕ)). EndsAt ps place) (by_runs run marks) e),
      λ c. subst (λ (ps : List (List ℕ)). EndsAt ps place) same
          (subst (λ (rs : List (List ℕ)). EndsAt (flat_map run_pieces rs) place) (sym c.runs_are)
          (subst (EndsAt (flat_map run_pieces (c.before ++ (c.run ∷ c.behind)))) (sym c.place_is) (cut_ends c.before c.run c.behind c.inside c.cut))),
    )
