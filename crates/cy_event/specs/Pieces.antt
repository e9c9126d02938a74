-- The pieces of an answer's content, by what was put and where it was flushed.
use Rattle.std.specs.Prelude.{◌≡◌, ◌⊎◌, ℕ, zero, suc, ◌+◌, ◌-◌, ◌/◌, ◌%◌, ◌<◌, ◌≤◌, Bool, true, false, ◌||◌, nat_lt, List, [], ◌∷◌, ◌++◌, length, take, drop}
use Rattle.std.specs.List.{concat, list_any}
use Rattle.cy_event.specs.Answers.{content_buffer}

-- what was done with the content of an answer
pub data PutOrFlush : Type 0 where
  put : List ℕ → PutOrFlush
  flushed : PutOrFlush

-- How many pieces a run of n bytes has: one begins at 0 and at each multiple of 8,192, where a byte stands there.
abbrev pub piece_count : ℕ → ℕ
piece_count n = (n + (content_buffer - 1)) / content_buffer

-- so many pieces of a run: 8,192 bytes each, or those that are left
abbrev pub first_pieces : ℕ → List ℕ → List (List ℕ)
first_pieces zero run = []
first_pieces (suc n) run = take content_buffer run ∷ first_pieces n (drop content_buffer run)

-- the pieces of a run of content that no flush divides
abbrev pub run_pieces : List ℕ → List (List ℕ)
run_pieces run = first_pieces (piece_count (length run)) run

-- The pieces, where this run stands behind the last flush. A flush ends a run, and so does the end of the content.
abbrev pub pieces_behind : List ℕ → List PutOrFlush → List (List ℕ)
pieces_behind run [] = run_pieces run
pieces_behind run (put bytes ∷ marks) = pieces_behind (run ++ bytes) marks
pieces_behind run (flushed ∷ marks) = run_pieces run ++ pieces_behind [] marks

-- Those that are cut before the end: all but the last of the run behind the last flush.
abbrev pub cut_pieces : List ℕ → List PutOrFlush → List (List ℕ)
cut_pieces run [] = first_pieces (piece_count (length run) - 1) run
cut_pieces run (put bytes ∷ marks) = cut_pieces (run ++ bytes) marks
cut_pieces run (flushed ∷ marks) = run_pieces run ++ cut_pieces [] marks

-- the runs of content, where this one stands behind the last flush
abbrev pub runs_behind : List ℕ → List PutOrFlush → List (List ℕ)
runs_behind run [] = run ∷ []
runs_behind run (put bytes ∷ marks) = runs_behind (run ++ bytes) marks
runs_behind run (flushed ∷ marks) = run ∷ runs_behind [] marks

-- the content that was put, one after another
abbrev pub content_put : List PutOrFlush → List ℕ
content_put [] = []
content_put (put bytes ∷ marks) = bytes ++ content_put marks
content_put (flushed ∷ marks) = content_put marks

-- a piece of 1 to 8,192 bytes
pub record IsPiece (piece : List ℕ) : Type 0 where
  pub some : 1 ≤ length piece
  pub few : length piece ≤ content_buffer

-- ---- cuts

abbrev pub is_flush : PutOrFlush → Bool
is_flush (put bytes) = false
is_flush flushed = true

-- Something is cut before the end: there is a flush, or more content than waits at most.
abbrev pub is_cut_early : List ℕ → List PutOrFlush → Bool
is_cut_early run marks = list_any is_flush marks || nat_lt content_buffer (length (run ++ content_put marks))

-- ---- places

-- a piece ends at this place of the content
pub record EndsAt (pieces : List (List ℕ)) (place : ℕ) : Type 0 where
  pub count : ℕ
  pub some : 1 ≤ count
  pub few : count ≤ length pieces
  pub place_is : place ≡ length (concat (take count pieces))

-- A run of so many bytes is cut at its end, where it isn't empty, and at each positive multiple of 8,192 behind which
-- it has a further byte.
pub record IsRunCut (size place : ℕ) : Type 0 where
  pub positive : 1 ≤ place
  pub where_it_is : (place ≡ size) ⊎ ((place < size) × (place % content_buffer ≡ 0))

-- the content is cut at this place of one of its runs
pub record IsCut (runs : List (List ℕ)) (place : ℕ) : Type 0 where
  pub before : List (List ℕ)
  pub run : List ℕ
  pub behind : List (List ℕ)
  pub inside : ℕ
  pub runs_are : runs ≡ before ++ (run ∷ behind)
  pub place_is : place ≡ length (concat before) + inside
  pub cut : IsRunCut (length run) inside
