-- What waits behind the last cut, whatever is put and flushed.
use Rattle.std.proofs.Common.{◌≡◌, ℕ, zero, suc, ◌+◌, ◌-◌, ◌*◌, ◌<◌, ◌≤◌, true, false, List, [], ◌∷◌, ◌++◌, length, take, drop, refl, sym, ap, ◌∙◌, arith, append_assoc, append-nil, length-append}
use Rattle.std.specs.Prelude.{not, ◌&&◌, if◌then◌else◌}
use Rattle.std.proofs.lemmas.List.{drop-drop, length-drop}
use Rattle.std.proofs.Math.Seq.{drop-append-add}
use Rattle.cy_event.specs.Answers.{Answer, content_buffer}
use Rattle.cy_event.specs.Answering.{Answering, Took, can_cut, can_take, cut, has_to_cut, is_committed, is_buffer_full, more_by, passes_length, push_byte, push_bytes, with_room}
use Rattle.cy_out.specs.Exchanges.{Act, Exchange, after_act, flushes, marks_by, receives, writes}
use Rattle.cy_event.specs.Pieces.{PutOrFlush, cut_pieces, first_pieces, flushed, piece_count, pieces_behind, put, run_pieces}
use Rattle.cy_out.proofs.ContentSent.{full_is, nothing_waits, room_is}

-- the last piece of a run, which no cut has sent
abbrev last_piece : List ℕ → List ℕ
last_piece run = drop ((piece_count (length run) - 1) * content_buffer) run

-- what waits, where this run stands behind the last flush
abbrev pub uncut : List ℕ → List PutOrFlush → List ℕ
uncut run [] = last_piece run
uncut run (put bytes ∷ marks) = uncut (run ++ bytes) marks
uncut run (flushed ∷ marks) = uncut [] marks

-- ---- runs

-- at most 8,192 bytes are the last piece
pub few_wait : (run : List ℕ) → length run ≤ content_buffer → uncut run [] ≡ run
few_wait run few =
    let none : (piece_count (length run) - 1) * content_buffer ≡ 0 = omega arith in
    ap (λ (n : ℕ). drop n run) none

-- 8,192 bytes in front of others don't wait
full_goes : (front : List ℕ) (b : ℕ) (run : List ℕ) (marks : List PutOrFlush) → length front ≡ content_buffer → uncut (front ++ (b ∷ run)) marks ≡ uncut (b ∷ run) marks
full_goes front b run [] full =
    let place : (piece_count (length (front ++ (b ∷ run))) - 1) * content_buffer ≡ length front + (piece_count (length (b ∷ run)) - 1) * content_buffer
    = omega (arith, length-append front (b ∷ run)) in
    ap (λ (n : ℕ). drop n (front ++ (b ∷ run))) place ∙ drop-append-add front (b ∷ run) ((piece_count (length (b ∷ run)) - 1) * content_buffer)
full_goes front b run (put bytes ∷ marks) full =
    ap (λ (r : List ℕ). uncut r marks) (append_assoc front (b ∷ run) bytes) ∙ full_goes front b (run ++ bytes) marks full
full_goes front b run (flushed ∷ marks) full = refl

-- the pieces before this one, and then those of the rest
first_split : (n : ℕ) (run : List ℕ) → n * content_buffer < length run
    → run_pieces run ≡ first_pieces n run ++ run_pieces (drop (n * content_buffer) run)
first_split zero run more = refl
first_split (suc n) run more =
    let behind = drop content_buffer run in
    let count : piece_count (length run) ≡ suc (piece_count (length behind)) = omega (arith, length-drop content_buffer run) in
    let place : content_buffer + n * content_buffer ≡ suc n * content_buffer = omega arith in
    ap (λ (k : ℕ). first_pieces k run) count
    ∙ ap (λ (ps : List (List ℕ)). take content_buffer run ∷ ps) (first_split n behind (omega (arith, length-drop content_buffer run)))
    ∙ ap (λ (rest : List ℕ). first_pieces (suc n) run ++ run_pieces rest) (drop-drop (n * content_buffer) content_buffer run ∙ ap (λ (k : ℕ). drop k run) place)

run_split : (run : List ℕ) → run_pieces run ≡ first_pieces (piece_count (length run) - 1) run ++ run_pieces (last_piece run)
run_split [] = refl
run_split (b ∷ run) = first_split (piece_count (length (b ∷ run)) - 1) (b ∷ run) (omega arith)

-- all pieces are those that are cut, and that of what waits
pub all_pieces : (run : List ℕ) (marks : List PutOrFlush) → pieces_behind run marks ≡ cut_pieces run marks ++ run_pieces (uncut run marks)
all_pieces run [] = run_split run
all_pieces run (put bytes ∷ marks) = all_pieces (run ++ bytes) marks
all_pieces run (flushed ∷ marks) =
    ap (λ (ps : List (List ℕ)). run_pieces run ++ ps) (all_pieces [] marks)
    ∙ sym (append_assoc (run_pieces run) (cut_pieces [] marks) (run_pieces (uncut [] marks)))

-- ---- cuts

-- With what happens then, this is what waits in the end.
pub record Leaves (marks : List PutOrFlush) (rest : List ℕ) (a : Answering) : Type 0 where
  pub few : length a.sending.waiting ≤ content_buffer
  pub waits : uncut a.sending.waiting marks ≡ rest

record LeavesWithRoom (marks : List PutOrFlush) (rest : List ℕ) (a : Answering) : Type 0 where
  leaves : Leaves marks rest a
  room : length a.sending.waiting < content_buffer

room_leaves : (head : Answer) (at b : ℕ) (marks : List PutOrFlush) (rest : List ℕ) (a : Answering)
    → Leaves (put (b ∷ []) ∷ marks) rest a → LeavesWithRoom (put (b ∷ []) ∷ marks) rest (with_room head at a)
room_leaves head at b marks rest a l =
    elim (is_buffer_full a.sending) as (λ v. is_buffer_full a.sending ≡ v → LeavesWithRoom (put (b ∷ []) ∷ marks) rest (elim v [ true ↦ cut head at a | false ↦ a ])) [
      | true ↦ λ full. record {
        leaves = record { few = omega arith; waits = sym (full_goes a.sending.waiting b [] marks (full_is a.sending full l.few)) ∙ l.waits };
        room = omega arith;
      }
      | false ↦ λ room. record { leaves = l; room = room_is a.sending room }
    ] refl

byte_leaves : (head : Answer) (at b : ℕ) (marks : List PutOrFlush) (rest : List ℕ) (a : Answering)
    → Leaves (put (b ∷ []) ∷ marks) rest a → Leaves marks rest (push_byte head at b a)
byte_leaves head at b marks rest a l =
    let roomy = room_leaves head at b marks rest a l in
    record {
      few = omega (arith, roomy.room, length-append (with_room head at a).sending.waiting (b ∷ []));
      waits = roomy.leaves.waits;
    }

-- ---- writes

-- other marks that leave the same
by_others : (marks others : List PutOrFlush) (rest : List ℕ) (a : Answering) → uncut a.sending.waiting marks ≡ uncut a.sending.waiting others
    → Leaves marks rest a → Leaves others rest a
by_others marks others rest a same l = record { few = l.few; waits = sym same ∙ l.waits }

none_put : (run : List ℕ) (marks : List PutOrFlush) → uncut run (put [] ∷ marks) ≡ uncut run marks
none_put run marks = ap (λ (r : List ℕ). uncut r marks) (append-nil run)

one_then_more : (run : List ℕ) (b n : ℕ) (more : List ℕ) (marks : List PutOrFlush)
    → uncut run (put (take (1 + n) (b ∷ more)) ∷ marks) ≡ uncut run (put (b ∷ []) ∷ (put (take n more) ∷ marks))
one_then_more run b n more marks =
    let up : 1 + n ≡ suc n = omega arith in
    ap (λ (m : ℕ). uncut (run ++ take m (b ∷ more)) marks) up
    ∙ ap (λ (r : List ℕ). uncut r marks) (sym (append_assoc run (b ∷ []) (take n more)))

push_leaves : (head : Answer) (at : ℕ) (more : List ℕ) (marks : List PutOrFlush) (rest : List ℕ) (a : Answering)
    → Leaves (put (take (push_bytes head at more a).count more) ∷ marks) rest a → Leaves marks rest (push_bytes head at more a).after
push_leaves head at [] marks rest a l = by_others (put [] ∷ marks) marks rest a (none_put a.sending.waiting marks) l
push_leaves head at (b ∷ more) marks rest a there =
    elim (can_take a) as (λ v. let t : Took = elim v [ true ↦ more_by 1 (push_bytes head at more (push_byte head at b a)) | false ↦ record { count = 0; after = a } ] in
    Leaves (put (take t.count (b ∷ more)) ∷ marks) rest a → Leaves marks rest t.after) [
      | true ↦ λ l. let t = push_bytes head at more (push_byte head at b a) in
          push_leaves head at more marks rest (push_byte head at b a)
          (byte_leaves head at b (put (take t.count more) ∷ marks) rest a
          (by_others (put (take (1 + t.count) (b ∷ more)) ∷ marks) (put (b ∷ []) ∷ (put (take t.count more) ∷ marks)) rest a
          (one_then_more a.sending.waiting b t.count more marks) l))
      | false ↦ λ l. by_others (put [] ∷ marks) marks rest a (none_put a.sending.waiting marks) l
    ] there

-- ---- acts

idle_flush : (run : List ℕ) (marks : List PutOrFlush) → run ≡ [] → uncut run (flushed ∷ marks) ≡ uncut run marks
idle_flush run marks none = sym (ap (λ (r : List ℕ). uncut r marks) none)

pub act_leaves_rest : (head : Answer) (act : Act) (marks : List PutOrFlush) (rest : List ℕ) (x : Exchange)
    → Leaves (marks_by head act x ++ marks) rest x.answering → Leaves marks rest (after_act head act x).answering
act_leaves_rest head (writes more at) marks rest x there =
    let a = x.answering in
    elim (passes_length a.sending (length more)) as (λ v.
    Leaves (put (if v then [] else take (push_bytes head at more a).count more) ∷ marks) rest a
    → Leaves marks rest (if v then a else (push_bytes head at more a).after)) [
      | true ↦ by_others (put [] ∷ marks) marks rest a (none_put a.sending.waiting marks)
      | false ↦ push_leaves head at more marks rest a
    ] there
act_leaves_rest head (flushes at) marks rest x there =
    let a = x.answering in
    elim (has_to_cut a.sending) as (λ h. has_to_cut a.sending ≡ h
    → Leaves ((if h && not (can_cut a.output) then [] else flushed ∷ []) ++ marks) rest a
    → Leaves marks rest (if h && can_cut a.output then cut head at a else a)) [
      | true ↦ λ some. elim (can_cut a.output) as (λ v.
          Leaves ((if not v then [] else flushed ∷ []) ++ marks) rest a → Leaves marks rest (if v then cut head at a else a)) [
            | true ↦ λ l. record { few = omega arith; waits = l.waits }
            | false ↦ λ l. l
          ]
      | false ↦ λ idle. by_others (flushed ∷ marks) marks rest a
          (idle_flush a.sending.waiting marks (nothing_waits (is_committed a.sending) a.sending.waiting idle))
    ] refl there
act_leaves_rest head (receives n) marks rest x l = record { few = l.few; waits = l.waits }
