-- Content behind a head that is out: what went out, and the pieces that are to come, are what was promised.
use Rattle.std.proofs.Common.{◌≡◌, ℕ, suc, ◌+◌, ◌<◌, ◌≤◌, Bool, true, false, List, [], ◌∷◌, ◌++◌, length, take, drop, Some, refl, sym, ap, subst, ◌∙◌, arith, append_assoc, append-nil, length-append}
use Rattle.std.specs.Prelude.{not, ◌&&◌, ◌||◌, if◌then◌else◌}
use Rattle.std.specs.List.{flat_map}
use Rattle.std.proofs.lemmas.Bool.Decides.{nat_tests}
use Rattle.std.proofs.lemmas.List.{take-append-drop}
use Rattle.std.proofs.lemmas.List.Concat.{flat_map-append}
use Rattle.cy_event.specs.Answers.{Answer, content_buffer}
use Rattle.cy_event.specs.AnswerModes.{Mode, last_text, piece_text}
use Rattle.cy_event.specs.Answering.{Answering, Sending, Took, after_finish, can_cut, can_take, cut, has_to_cut, is_committed, is_empty, is_buffer_full, more_by, passes_length, push_byte, push_bytes, with_bytes, with_room}
use Rattle.cy_out.specs.Exchanges.{Act, Exchange, after_act, after_acts, flushes, marks_by, marks_of, receives, writes, written}
use Rattle.cy_out.specs.Laws.{PiecesFollowTheHead}
use Rattle.cy_event.specs.Pieces.{PutOrFlush, flushed, pieces_behind, put, run_pieces}
use Rattle.cy_out.proofs.PieceLemmas.{full_behind, run_text}

-- what is still to be written of the content, where this happens
abbrev pub to_come : Mode → List PutOrFlush → Answering → List ℕ
to_come mode marks a = flat_map (piece_text mode) (pieces_behind a.sending.waiting marks)

-- The mode is settled, and with what is to come the bytes that were written become these.
pub record Sends (mode : Mode) (closes : Bool) (got : List ℕ) (marks : List PutOrFlush) (bytes : List ℕ) (a : Answering) : Type 0 where
  pub commit : a.sending.commit ≡ Some (record { mode = mode; closes = closes })
  pub few : length a.sending.waiting ≤ content_buffer
  pub all : (got ++ a.output) ++ to_come mode marks a ≡ bytes

-- the same answer, written with its commit
abbrev settled : Mode → Bool → Answering → Answering
settled mode closes a = record a { sending = record a.sending { commit = Some (record { mode = mode; closes = closes }) } }

is_settled : (mode : Mode) (closes : Bool) (a : Answering) → a.sending.commit ≡ Some (record { mode = mode; closes = closes }) → a ≡ settled mode closes a
is_settled mode closes a given =
    λ i. record { sending = record { asked = a.sending.asked; left = a.sending.left; waiting = a.sending.waiting; commit = given i }; output = a.output }

pub regroup : (got output piece more : List ℕ) → (got ++ (output ++ piece)) ++ more ≡ (got ++ output) ++ (piece ++ more)
regroup got output piece more =
    append_assoc got (output ++ piece) more
    ∙ ap (λ (xs : List ℕ). got ++ xs) (append_assoc output piece more)
    ∙ sym (append_assoc got output (piece ++ more))

-- ---- cuts

pub full_is : (s : Sending) → is_buffer_full s ≡ true → length s.waiting ≤ content_buffer → length s.waiting ≡ content_buffer
full_is s full few = grind (arith, nat_tests)

pub room_is : (s : Sending) → is_buffer_full s ≡ false → length s.waiting < content_buffer
room_is s room = grind (arith, nat_tests)

-- a full buffer is cut behind its last byte, where one more comes
pub full_cut_sends : (head : Answer) (at b : ℕ) (mode : Mode) (closes : Bool) (got : List ℕ) (marks : List PutOrFlush) (bytes : List ℕ) (a : Answering)
    → length a.sending.waiting ≡ content_buffer
    → Sends mode closes got (put (b ∷ []) ∷ marks) bytes a → Sends mode closes got (put (b ∷ []) ∷ marks) bytes (cut head at a)
full_cut_sends head at b mode closes got marks bytes a full sends =
    let waiting = a.sending.waiting in
    let more = flat_map (piece_text mode) (pieces_behind (b ∷ []) marks) in
    let pieces = ap (λ (ps : List (List ℕ)). (got ++ a.output) ++ flat_map (piece_text mode) ps) (sym (full_behind waiting (b ∷ []) marks full)) in
    subst (λ (x : Answering). Sends mode closes got (put (b ∷ []) ∷ marks) bytes (cut head at x)) (sym (is_settled mode closes a sends.commit))
    (record { commit = refl; few = omega arith; all = regroup got a.output (piece_text mode waiting) more ∙ pieces ∙ sends.all })

-- a flush cuts what waits
pub flush_sends : (head : Answer) (at : ℕ) (mode : Mode) (closes : Bool) (got : List ℕ) (marks : List PutOrFlush) (bytes : List ℕ) (a : Answering)
    → Sends mode closes got (flushed ∷ marks) bytes a → Sends mode closes got marks bytes (cut head at a)
flush_sends head at mode closes got marks bytes a sends =
    let waiting = a.sending.waiting in
    let more = flat_map (piece_text mode) (pieces_behind [] marks) in
    let pieces = ap (λ (xs : List ℕ). (got ++ a.output) ++ (xs ++ more)) (sym (run_text mode waiting sends.few))
    ∙ ap (λ (xs : List ℕ). (got ++ a.output) ++ xs) (sym (flat_map-append (piece_text mode) (run_pieces waiting) (pieces_behind [] marks))) in
    subst (λ (x : Answering). Sends mode closes got marks bytes (cut head at x)) (sym (is_settled mode closes a sends.commit))
    (record { commit = refl; few = omega arith; all = regroup got a.output (piece_text mode waiting) more ∙ pieces ∙ sends.all })

-- ---- writes

-- and the buffer has room
record SendsWithRoom (mode : Mode) (closes : Bool) (got : List ℕ) (marks : List PutOrFlush) (bytes : List ℕ) (a : Answering) : Type 0 where
  sends : Sends mode closes got marks bytes a
  room : length a.sending.waiting < content_buffer

room_sends : (head : Answer) (at b : ℕ) (mode : Mode) (closes : Bool) (got : List ℕ) (marks : List PutOrFlush) (bytes : List ℕ) (a : Answering)
    → Sends mode closes got (put (b ∷ []) ∷ marks) bytes a → SendsWithRoom mode closes got (put (b ∷ []) ∷ marks) bytes (with_room head at a)
room_sends head at b mode closes got marks bytes a sends =
    elim (is_buffer_full a.sending) as (λ v. is_buffer_full a.sending ≡ v → SendsWithRoom mode closes got (put (b ∷ []) ∷ marks) bytes (elim v [ true ↦ cut head at a | false ↦ a ])) [
      | true ↦ λ full. record { sends = full_cut_sends head at b mode closes got marks bytes a (full_is a.sending full sends.few) sends; room = omega arith }
      | false ↦ λ room. record { sends = sends; room = room_is a.sending room }
    ] refl

-- the byte joins what waits
pub joins : (b : ℕ) (mode : Mode) (closes : Bool) (got : List ℕ) (marks : List PutOrFlush) (bytes : List ℕ) (a : Answering)
    → length a.sending.waiting < content_buffer
    → Sends mode closes got (put (b ∷ []) ∷ marks) bytes a → Sends mode closes got marks bytes (record a { sending = with_bytes (b ∷ []) a.sending })
joins b mode closes got marks bytes a room sends =
    record { commit = sends.commit; few = omega (arith, length-append a.sending.waiting (b ∷ [])); all = sends.all }

byte_sends : (head : Answer) (at b : ℕ) (mode : Mode) (closes : Bool) (got : List ℕ) (marks : List PutOrFlush) (bytes : List ℕ) (a : Answering)
    → Sends mode closes got (put (b ∷ []) ∷ marks) bytes a → Sends mode closes got marks bytes (push_byte head at b a)
byte_sends head at b mode closes got marks bytes a sends =
    let roomy = room_sends head at b mode closes got marks bytes a sends in
    joins b mode closes got marks bytes (with_room head at a) roomy.room roomy.sends

-- nothing put changes nothing
pub none_put : (run : List ℕ) (marks : List PutOrFlush) → pieces_behind run (put [] ∷ marks) ≡ pieces_behind run marks
none_put run marks = ap (λ (r : List ℕ). pieces_behind r marks) (append-nil run)

-- bytes are put one after another
pub one_then_more : (run : List ℕ) (b n : ℕ) (more : List ℕ) (marks : List PutOrFlush)
    → pieces_behind run (put (take (1 + n) (b ∷ more)) ∷ marks) ≡ pieces_behind run (put (b ∷ []) ∷ (put (take n more) ∷ marks))
one_then_more run b n more marks =
    let up : 1 + n ≡ suc n = omega arith in
    ap (λ (m : ℕ). pieces_behind (run ++ take m (b ∷ more)) marks) up
    ∙ ap (λ (r : List ℕ). pieces_behind r marks) (sym (append_assoc run (b ∷ []) (take n more)))

-- other marks with which the same pieces come
pub by_marks : (mode : Mode) (closes : Bool) (got : List ℕ) (marks others : List PutOrFlush) (bytes : List ℕ) (a : Answering)
    → pieces_behind a.sending.waiting marks ≡ pieces_behind a.sending.waiting others
    → Sends mode closes got marks bytes a → Sends mode closes got others bytes a
by_marks mode closes got marks others bytes a same sends =
    record { commit = sends.commit; few = sends.few; all = ap (λ (ps : List (List ℕ)). (got ++ a.output) ++ flat_map (piece_text mode) ps) (sym same) ∙ sends.all }

pub push_sends : (head : Answer) (at : ℕ) (more : List ℕ) (mode : Mode) (closes : Bool) (got : List ℕ) (marks : List PutOrFlush) (bytes : List ℕ) (a : Answering)
    → Sends mode closes got (put (take (push_bytes head at more a).count more) ∷ marks) bytes a
    → Sends mode closes got marks bytes (push_bytes head at more a).after
push_sends head at [] mode closes got marks bytes a sends = by_marks mode closes got (put [] ∷ marks) marks bytes a (none_put a.sending.waiting marks) sends
push_sends head at (b ∷ more) mode closes got marks bytes a there =
    elim (can_take a) as (λ v. let t : Took = elim v [ true ↦ more_by 1 (push_bytes head at more (push_byte head at b a)) | false ↦ record { count = 0; after = a } ] in
    Sends mode closes got (put (take t.count (b ∷ more)) ∷ marks) bytes a → Sends mode closes got marks bytes t.after) [
      | true ↦ λ sends. let t = push_bytes head at more (push_byte head at b a) in
          let rest = put (take t.count more) ∷ marks in
          push_sends head at more mode closes got marks bytes (push_byte head at b a)
          (byte_sends head at b mode closes got rest bytes a
          (by_marks mode closes got (put (take (1 + t.count) (b ∷ more)) ∷ marks) (put (b ∷ []) ∷ rest) bytes a (one_then_more a.sending.waiting b t.count more marks) sends))
      | false ↦ λ sends. by_marks mode closes got (put [] ∷ marks) marks bytes a (none_put a.sending.waiting marks) sends
    ] there

-- ---- acts

pub nothing_waits : (committed : Bool) (waiting : List ℕ) → not committed || not (is_empty waiting) ≡ false → waiting ≡ []
nothing_waits committed [] idle = refl
nothing_waits true (b ∷ waiting) idle = cc
nothing_waits false (b ∷ waiting) idle = cc

-- a flush of nothing adds no piece
idle_flush : (run : List ℕ) (marks : List PutOrFlush) → run ≡ [] → pieces_behind run (flushed ∷ marks) ≡ pieces_behind run marks
idle_flush run marks none = ap (λ (r : List ℕ). pieces_behind r (flushed ∷ marks)) none ∙ sym (ap (λ (r : List ℕ). pieces_behind r marks) none)

-- the client takes some of what waits
pub received_more : (got output : List ℕ) (n : ℕ) → (got ++ take n output) ++ drop n output ≡ got ++ output
received_more got output n = append_assoc got (take n output) (drop n output) ∙ ap (λ (xs : List ℕ). got ++ xs) (take-append-drop n output)

pub act_sends : (head : Answer) (act : Act) (mode : Mode) (closes : Bool) (marks : List PutOrFlush) (bytes : List ℕ) (x : Exchange)
    → Sends mode closes x.received (marks_by head act x ++ marks) bytes x.answering
    → Sends mode closes (after_act head act x).received marks bytes (after_act head act x).answering
act_sends head (writes more at) mode closes marks bytes x there =
    let a = x.answering in
    elim (passes_length a.sending (length more)) as (λ v.
    Sends mode closes x.received (put (if v then [] else take (push_bytes head at more a).count more) ∷ marks) bytes a
    → Sends mode closes x.received marks bytes (if v then a else (push_bytes head at more a).after)) [
      | true ↦ by_marks mode closes x.received (put [] ∷ marks) marks bytes a (none_put a.sending.waiting marks)
      | false ↦ push_sends head at more mode closes x.received marks bytes a
    ] there
act_sends head (flushes at) mode closes marks bytes x there =
    let a = x.answering in
    elim (has_to_cut a.sending) as (λ h. has_to_cut a.sending ≡ h
    → Sends mode closes x.received ((if h && not (can_cut a.output) then [] else flushed ∷ []) ++ marks) bytes a
    → Sends mode closes x.received marks bytes (if h && can_cut a.output then cut head at a else a)) [
      | true ↦ λ some. elim (can_cut a.output) as (λ v.
          Sends mode closes x.received ((if not v then [] else flushed ∷ []) ++ marks) bytes a
          → Sends mode closes x.received marks bytes (if v then cut head at a else a)) [
            | true ↦ flush_sends head at mode closes x.received marks bytes a
            | false ↦ λ sends. sends
          ]
      | false ↦ λ idle. by_marks mode closes x.received (flushed ∷ marks) marks bytes a
          (idle_flush a.sending.waiting marks (nothing_waits (is_committed a.sending) a.sending.waiting idle))
    ] refl there
act_sends head (receives n) mode closes marks bytes x sends =
    let a = x.answering in
    record { commit = sends.commit; few = sends.few; all = ap (λ (xs : List ℕ). xs ++ to_come mode marks a) (received_more x.received a.output n) ∙ sends.all }

pub acts_send : (head : Answer) (acts : List Act) (mode : Mode) (closes : Bool) (bytes : List ℕ) (x : Exchange)
    → Sends mode closes x.received (marks_of head acts x) bytes x.answering
    → Sends mode closes (after_acts head acts x).received [] bytes (after_acts head acts x).answering
acts_send head [] mode closes bytes x sends = sends
acts_send head (act ∷ acts) mode closes bytes x sends =
    acts_send head acts mode closes bytes (after_act head act x) (act_sends head act mode closes (marks_of head acts (after_act head act x)) bytes x sends)

-- ---- the end

pub finish_sends : (head : Answer) (at : ℕ) (mode : Mode) (closes : Bool) (got bytes : List ℕ) (a : Answering)
    → Sends mode closes got [] bytes a → got ++ (after_finish head at a).output ≡ bytes ++ last_text mode
finish_sends head at mode closes got bytes a sends =
    let waiting = a.sending.waiting in
    let piece = piece_text mode waiting in
    subst (λ (x : Answering). got ++ (after_finish head at x).output ≡ bytes ++ last_text mode) (sym (is_settled mode closes a sends.commit))
    (sym (append_assoc got (a.output ++ piece) (last_text mode))
    ∙ ap (λ (xs : List ℕ). xs ++ last_text mode) (
    sym (append_assoc got a.output piece)
    ∙ ap (λ (xs : List ℕ). (got ++ a.output) ++ xs) (sym (run_text mode waiting sends.few))
    ∙ sends.all
    ))

pub pieces_follow_the_head : PiecesFollowTheHead
pieces_follow_the_head head acts at mode closes x given few =
    let marks = marks_of head acts x in
    let start = written x ++ to_come mode marks x.answering in
    let last = after_acts head acts x in
    let sends = acts_send head acts mode closes start x (record { commit = given; few = few; all = refl }) in
    finish_sends head at mode closes last.received start last.answering sends
    ∙ append_assoc (written x) (to_come mode marks x.answering) (last_text mode)
