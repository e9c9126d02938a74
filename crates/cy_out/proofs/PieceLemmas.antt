-- The pieces of a run, and of content that is put and flushed.
use Rattle.std.proofs.Common.{◌≡◌, ℕ, zero, suc, ◌+◌, ◌*◌, ◌<◌, ◌≤◌, List, [], ◌∷◌, ◌++◌, length, take, drop, refl, sym, ap, ◌∙◌, arith, append_assoc, append-nil, length-append}
use Rattle.std.specs.List.{All, concat, flat_map}
use Rattle.std.proofs.lemmas.List.{length-drop, length-take, take-append-drop, take_all}
use Rattle.std.proofs.lemmas.List.Elements.{All-append, All-cons, All-nil}
use Rattle.std.proofs.lemmas.List.Folds.{concat-append}
use Rattle.std.proofs.Math.Seq.{take-append_seam, drop-append_seam}
use Rattle.cy_event.specs.Answers.{content_buffer}
use Rattle.cy_event.specs.AnswerModes.{Mode, chunked, counted, piece_text, until_close, void}
use Rattle.cy_out.specs.Laws.{PiecesAreTheContent, PiecesHaveBytes}
use Rattle.cy_event.specs.Pieces.{IsPiece, PutOrFlush, content_put, first_pieces, flushed, piece_count, pieces_behind, put, run_pieces}

-- ---- a piece in front

-- 8,192 bytes in front of a run are its first piece
full_run : (front run : List ℕ) → length front ≡ content_buffer → run_pieces (front ++ run) ≡ front ∷ run_pieces run
full_run front run full =
    let count : piece_count (length (front ++ run)) ≡ suc (piece_count (length run)) = omega (arith, length-append front run) in
    let first : take content_buffer (front ++ run) ≡ front = ap (λ (n : ℕ). take n (front ++ run)) (sym full) ∙ take-append_seam front run in
    let behind : drop content_buffer (front ++ run) ≡ run = ap (λ (n : ℕ). drop n (front ++ run)) (sym full) ∙ drop-append_seam front run in
    ap (λ (n : ℕ). first_pieces n (front ++ run)) count
    ∙ (λ i. first i ∷ first_pieces (piece_count (length run)) (behind i))

pub full_behind : (front run : List ℕ) (marks : List PutOrFlush) → length front ≡ content_buffer → pieces_behind (front ++ run) marks ≡ front ∷ pieces_behind run marks
full_behind front run [] full = full_run front run full
full_behind front run (put bytes ∷ marks) full =
    ap (λ (r : List ℕ). pieces_behind r marks) (append_assoc front run bytes) ∙ full_behind front (run ++ bytes) marks full
full_behind front run (flushed ∷ marks) full = ap (λ (ps : List (List ℕ)). ps ++ pieces_behind [] marks) (full_run front run full)

-- ---- a run of at most 8,192 bytes

pub one_piece : (b : ℕ) (run : List ℕ) → length (b ∷ run) ≤ content_buffer → run_pieces (b ∷ run) ≡ (b ∷ run) ∷ []
one_piece b run few =
    let count : piece_count (length (b ∷ run)) ≡ 1 = omega arith in
    ap (λ (n : ℕ). first_pieces n (b ∷ run)) count ∙ ap (λ (p : List ℕ). p ∷ []) (take_all content_buffer (b ∷ run) few)

nothing_text : (mode : Mode) → piece_text mode [] ≡ []
nothing_text void = refl
nothing_text counted = refl
nothing_text chunked = refl
nothing_text until_close = refl

-- it is written as one piece
pub run_text : (mode : Mode) (run : List ℕ) → length run ≤ content_buffer → flat_map (piece_text mode) (run_pieces run) ≡ piece_text mode run
run_text mode [] few = sym (nothing_text mode)
run_text mode (b ∷ run) few = ap (flat_map (piece_text mode)) (one_piece b run few) ∙ append-nil (piece_text mode (b ∷ run))

-- ---- how large pieces are

first_sizes : (n : ℕ) (run : List ℕ) → n * content_buffer < length run + content_buffer → All IsPiece (first_pieces n run)
first_sizes zero run many = All-nil IsPiece
first_sizes (suc n) run many =
    let size = length-take content_buffer run in
    All-cons IsPiece (take content_buffer run) (first_pieces n (drop content_buffer run))
    (record { some = omega (arith, size); few = omega (arith, size) })
    (first_sizes n (drop content_buffer run) (omega (arith, length-drop content_buffer run)))

run_sizes : (run : List ℕ) → All IsPiece (run_pieces run)
run_sizes run = first_sizes (piece_count (length run)) run (omega arith)

pub pieces_have_bytes : PiecesHaveBytes
pieces_have_bytes run [] = run_sizes run
pieces_have_bytes run (put bytes ∷ marks) = pieces_have_bytes (run ++ bytes) marks
pieces_have_bytes run (flushed ∷ marks) = All-append IsPiece (run_pieces run) (pieces_behind [] marks) (run_sizes run) (pieces_have_bytes [] marks)

-- ---- what the pieces hold

first_hold : (n : ℕ) (run : List ℕ) → length run ≤ n * content_buffer → concat (first_pieces n run) ≡ run
first_hold zero [] few = refl
first_hold zero (b ∷ run) few = absurd (omega arith)
first_hold (suc n) run few =
    ap (λ (xs : List ℕ). take content_buffer run ++ xs) (first_hold n (drop content_buffer run) (omega (arith, length-drop content_buffer run)))
    ∙ take-append-drop content_buffer run

pub run_holds : (run : List ℕ) → concat (run_pieces run) ≡ run
run_holds run = first_hold (piece_count (length run)) run (omega arith)

pub pieces_are_the_content : PiecesAreTheContent
pieces_are_the_content run [] = run_holds run ∙ sym (append-nil run)
pieces_are_the_content run (put bytes ∷ marks) = pieces_are_the_content (run ++ bytes) marks ∙ append_assoc run bytes (content_put marks)
pieces_are_the_content run (flushed ∷ marks) =
    concat-append (run_pieces run) (pieces_behind [] marks)
    ∙ (λ i. run_holds run i ++ pieces_are_the_content [] marks i)
