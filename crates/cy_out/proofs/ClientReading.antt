-- What a client reads behind a head is the content that was put.
use Rattle.std.proofs.Common.{◌≡◌, ℕ, ◌+◌, ◌-◌, ◌≤◌, Bool, true, false, List, [], ◌∷◌, ◌++◌, length, take, Option, Some, None, inl, inr, refl, sym, ap, subst, ◌∙◌, arith, append-nil, length-append, length-take-le}
use Rattle.std.specs.Prelude.{◌⊎◌, ◌&&◌, ◌||◌, ◌==◌, nat_lt, if◌then◌else◌, option_map, unwrap_or, not}
use Rattle.std.specs.List.{All, concat, flat_map}
use Rattle.std.proofs.lemmas.Bool.Decides.{nat_tests}
use Rattle.cy_event.specs.Answers.{Answer}
use Rattle.cy_event.specs.AnswerModes.{Asked, Mode, chunked, content_mode, counted, has_no_content, mode_of, piece_text, until_close, void}
use Rattle.cy_event.specs.Answering.{Answering, Took, can_cut, can_take, cut, has_to_cut, more_by, passes_length, push_byte, push_bytes, set_length_of}
use Rattle.cy_out.specs.Exchanges.{Act, Exchange, after_act, after_acts, flushes, head_moment, marks_by, marks_of, receives, writes}
use Rattle.cy_event.specs.AnswerBytes.{answer_bytes, content_text, known_length}
use Rattle.cy_out.specs.Laws.{ClientsReadTheContent, IsFramed, IsRead, head_length}
use Rattle.cy_event.specs.Pieces.{IsPiece, content_put, flushed, is_cut_early, pieces_behind}
use Rattle.cy_out.proofs.ChunksWritten.{chunks_are_a_body}
use Rattle.cy_out.proofs.LawLemmas.{writes_take_the_most}
use Rattle.cy_out.proofs.MarkLemmas.{content_of_both}
use Rattle.cy_out.proofs.PieceLemmas.{pieces_are_the_content, pieces_have_bytes}
use Rattle.cy_out.proofs.Pushes.{fewer_by_both, fewer_by_none}
use Rattle.cy_out.proofs.WholeAnswers.{answers_are_whole, byte_takes_one, head_keeps_left}

-- ---- how much of a set length is left

push_leaves : (head : Answer) (at : ℕ) (more : List ℕ) (a : Answering)
    → (push_bytes head at more a).after.sending.left ≡ option_map (λ n. n - (push_bytes head at more a).count) a.sending.left
push_leaves head at [] a = sym (fewer_by_none a.sending.left)
push_leaves head at (b ∷ more) a =
    elim (can_take a) as (λ v. let t : Took = elim v [ true ↦ more_by 1 (push_bytes head at more (push_byte head at b a)) | false ↦ record { count = 0; after = a } ] in
    t.after.sending.left ≡ option_map (λ n. n - t.count) a.sending.left) [
      | true ↦ let t = push_bytes head at more (push_byte head at b a) in
          push_leaves head at more (push_byte head at b a)
          ∙ ap (option_map (λ n. n - t.count)) (byte_takes_one head at b a)
          ∙ fewer_by_both a.sending.left 1 t.count
      | false ↦ sym (fewer_by_none a.sending.left)
    ]

-- what is left and what was taken are what was left before
back : (left : Option ℕ) (count size : ℕ) → count ≤ size → elim left [ None ↦ false | Some l ↦ nat_lt l size ] ≡ false
    → option_map (λ n. n + count) (option_map (λ n. n - count) left) ≡ left
back None count size few fits = refl
back (Some l) count size few fits =
    let enough : size ≤ l = grind (arith, nat_tests) in
    let same : l - count + count ≡ l = omega arith in
    ap Some same

more_by_none : (left : Option ℕ) → option_map (λ n. n + 0) left ≡ left
more_by_none None = refl
more_by_none (Some l) = let same : l + 0 ≡ l = omega arith in ap Some same

pub more_by_both : (left : Option ℕ) (i j : ℕ) → option_map (λ n. n + i) (option_map (λ n. n + j) left) ≡ option_map (λ n. n + (i + j)) left
more_by_both None i j = refl
more_by_both (Some l) i j = let same : l + j + i ≡ l + (i + j) = omega arith in ap Some same

write_leaves : (head : Answer) (at : ℕ) (more : List ℕ) (a : Answering) → passes_length a.sending (length more) ≡ false
    → option_map (λ n. n + length (take (push_bytes head at more a).count more ++ [])) (push_bytes head at more a).after.sending.left ≡ a.sending.left
write_leaves head at more a fits =
    let count = (push_bytes head at more a).count in
    let within = (writes_take_the_most head at more a).within in
    let size : length (take count more ++ []) ≡ count = ap length (append-nil (take count more)) ∙ length-take-le count more within in
    (λ i. option_map (λ n. n + size i) (push_leaves head at more a i)) ∙ back a.sending.left count (length more) within fits

pub act_leaves : (head : Answer) (act : Act) (x : Exchange)
    → option_map (λ n. n + length (content_put (marks_by head act x))) (after_act head act x).answering.sending.left ≡ x.answering.sending.left
act_leaves head (writes more at) x =
    let a = x.answering in
    elim (passes_length a.sending (length more)) as (λ v. passes_length a.sending (length more) ≡ v
    → (let b : Answering = if v then a else (push_bytes head at more a).after in
    option_map (λ n. n + length ((if v then [] else take (push_bytes head at more a).count more) ++ [])) b.sending.left ≡ a.sending.left)) [
      | true ↦ λ passes. more_by_none a.sending.left
      | false ↦ λ fits. write_leaves head at more a fits
    ] refl
act_leaves head (flushes at) x =
    let a = x.answering in
    elim (has_to_cut a.sending) as (λ h. (let b : Answering = if h && can_cut a.output then cut head at a else a in
    option_map (λ n. n + length (content_put (if h && not (can_cut a.output) then [] else flushed ∷ []))) b.sending.left ≡ a.sending.left)) [
      | true ↦ elim (can_cut a.output) as (λ v. (let b : Answering = if v then cut head at a else a in
          option_map (λ n. n + length (content_put (if not v then [] else flushed ∷ []))) b.sending.left ≡ a.sending.left)) [
            | true ↦ more_by_none (cut head at a).sending.left ∙ head_keeps_left head at (set_length_of a.sending) a
            | false ↦ more_by_none a.sending.left
          ]
      | false ↦ more_by_none a.sending.left
    ]
act_leaves head (receives n) x = more_by_none x.answering.sending.left

acts_leave : (head : Answer) (acts : List Act) (x : Exchange)
    → option_map (λ n. n + length (content_put (marks_of head acts x))) (after_acts head acts x).answering.sending.left ≡ x.answering.sending.left
acts_leave head [] x = more_by_none x.answering.sending.left
acts_leave head (act ∷ acts) x =
    let next = after_act head act x in
    let now = marks_by head act x in
    let later = marks_of head acts next in
    let left = (after_acts head acts next).answering.sending.left in
    let size : length (content_put (now ++ later)) ≡ length (content_put now) + length (content_put later)
    = ap length (content_of_both now later) ∙ length-append (content_put now) (content_put later) in
    ap (λ (m : ℕ). option_map (λ n. n + m) left) size
    ∙ sym (more_by_both left (length (content_put now)) (length (content_put later)))
    ∙ ap (option_map (λ n. n + length (content_put now))) (acts_leave head acts next)
    ∙ act_leaves head act x

-- ---- the length that the head says

some_is : (m n : ℕ) → Some m ≡ Some n → m ≡ n
some_is m n same = cc

pub known_is : (early : Bool) (set_length : Option ℕ) (size : ℕ)
    → (known_length early set_length size ≡ set_length) ⊎ (known_length early set_length size ≡ Some (unwrap_or set_length size))
known_is true set_length size = inl refl
known_is false set_length size = inr refl

pub known_alike : (known set_length other : Option ℕ) (m n : ℕ) → set_length ≡ other → m ≡ n
    → (known ≡ set_length) ⊎ (known ≡ Some (unwrap_or set_length m)) → (known ≡ other) ⊎ (known ≡ Some (unwrap_or other n))
known_alike known set_length other m n same size (inl set) = inl (set ∙ same)
known_alike known set_length other m n same size (inr all) = inr (all ∙ (λ i. Some (unwrap_or (same i) (size i))))

-- the head says how long the content is, where nothing of a set length is left
pub says_size : (left : Option ℕ) (size n : ℕ) (known : Option ℕ) → unwrap_or left 0 ≡ 0
    → (let set_length : Option ℕ = option_map (λ m. m + size) left in (known ≡ set_length) ⊎ (known ≡ Some (unwrap_or set_length size)))
    → known ≡ Some n → size ≡ n
says_size None size n known none (inl set) is = let never : None ≡ Some n = sym set ∙ is in cc
says_size None size n known none (inr all) is = some_is size n (sym all ∙ is)
says_size (Some l) size n known none (inl set) is = let same = some_is (l + size) n (sym set ∙ is) in omega arith
says_size (Some l) size n known none (inr all) is = let same = some_is (l + size) n (sym all ∙ is) in omega arith

-- ---- what follows the head

pub void_text : (pieces : List (List ℕ)) → flat_map (piece_text void) pieces ≡ []
void_text [] = refl
void_text (p ∷ pieces) = void_text pieces

pub counted_text : (pieces : List (List ℕ)) → flat_map (piece_text counted) pieces ≡ concat pieces
counted_text [] = refl
counted_text (p ∷ pieces) = ap (λ (xs : List ℕ). p ++ xs) (counted_text pieces)

closing_text : (pieces : List (List ℕ)) → flat_map (piece_text until_close) pieces ≡ concat pieces
closing_text [] = refl
closing_text (p ∷ pieces) = ap (λ (xs : List ℕ). p ++ xs) (closing_text pieces)

framed_by : (minor : ℕ) (known : Option ℕ) (pieces : List (List ℕ)) → All IsPiece pieces
    → ((n : ℕ) → known ≡ Some n → length (concat pieces) ≡ n)
    → IsFramed (content_mode minor known) known (content_text (content_mode minor known) pieces) (concat pieces)
framed_by minor (Some n) pieces right says =
    let body = append-nil (flat_map (piece_text counted) pieces) ∙ counted_text pieces in
    (n, refl, (ap length body ∙ says n refl, sym body))
framed_by minor None pieces right says =
    elim (minor == 1) as (λ v. let mode : Mode = if v then chunked else until_close in IsFramed mode None (content_text mode pieces) (concat pieces)) [
      | true ↦ chunks_are_a_body pieces right
      | false ↦ append-nil (flat_map (piece_text until_close) pieces) ∙ closing_text pieces
    ]

framed : (asked : Asked) (status : ℕ) (known : Option ℕ) (pieces : List (List ℕ)) → All IsPiece pieces
    → ((n : ℕ) → known ≡ Some n → length (concat pieces) ≡ n)
    → IsFramed (mode_of asked status known) known (content_text (mode_of asked status known) pieces) (concat pieces)
framed asked status known pieces right says =
    elim (asked.is_head || has_no_content status) as (λ v. let mode : Mode = if v then void else content_mode asked.minor known in
    IsFramed mode known (content_text mode pieces) (concat pieces)) [
      | true ↦ append-nil (flat_map (piece_text void) pieces) ∙ void_text pieces
      | false ↦ framed_by asked.minor known pieces right says
    ]

-- these pieces are read as the content that they are, where a length that is known is its length
pub pieces_are_read : (head : Answer) (asked : Asked) (known : Option ℕ) (moment : ℕ) (pieces : List (List ℕ)) (content : List ℕ)
    → All IsPiece pieces → concat pieces ≡ content → ((n : ℕ) → known ≡ Some n → length content ≡ n)
    → IsRead head asked known moment content (answer_bytes head asked known moment pieces)
pieces_are_read head asked known moment pieces content right held says =
    let mode = mode_of asked head.status known in
    record {
      body = content_text mode pieces;
      bytes_are = refl;
      framed = subst (IsFramed mode known (content_text mode pieces)) held (framed asked head.status known pieces right (λ n is. ap length held ∙ says n is));
    }

pub clients_read_the_content : ClientsReadTheContent
clients_read_the_content head acts at x given few none =
    let sending = x.answering.sending in
    let marks = marks_of head acts x in
    let pieces = pieces_behind sending.waiting marks in
    let content = sending.waiting ++ content_put marks in
    let known = head_length head acts x in
    let moment = head_moment head acts at x in
    let left = (after_acts head acts x).answering.sending.left in
    let set : set_length_of sending ≡ option_map (λ m. m + length content) left
    = ap (option_map (λ m. m + length sending.waiting)) (sym (acts_leave head acts x))
    ∙ more_by_both left (length sending.waiting) (length (content_put marks))
    ∙ ap (λ (k : ℕ). option_map (λ m. m + k) left) (sym (length-append sending.waiting (content_put marks))) in
    let knows = known_alike known (set_length_of sending) (option_map (λ m. m + length content) left) (length content) (length content) set refl
    (known_is (is_cut_early sending.waiting marks) (set_length_of sending) (length content)) in (
      answer_bytes head sending.asked known moment pieces,
      answers_are_whole head acts at x given few,
      pieces_are_read head sending.asked known moment pieces content (pieces_have_bytes sending.waiting marks) (pieces_are_the_content sending.waiting marks)
          (λ n is. says_size left (length content) n known none knows is),
    )
