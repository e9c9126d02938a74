-- The laws of answers.
use Rattle.std.proofs.Common.{◌≡◌, ℕ, zero, suc, ◌+◌, ◌≤◌, Bool, true, false, List, [], ◌∷◌, ◌++◌, length, take, Option, None, Some, refl, sym, ap, subst, ◌∙◌, arith}
use Rattle.std.specs.Prelude.{is_none, not, ◌||◌, ◌&&◌, ◌==◌, if◌then◌else◌}
use Rattle.std.proofs.lemmas.Bool.Decides.{nat_tests}
use Rattle.std.proofs.lemmas.List.{append-nil}
use Rattle.cy_event.specs.Answers.{Answer, close, keep_alive, silent}
use Rattle.cy_event.specs.AnswerModes.{chunked, closes, connection_of, content_mode, counted, has_no_content, mode_of, until_close, void}
use Rattle.cy_event.specs.Answering.{Answering, Sending, Took, aborted, after_finish, can_cut, can_take, cut, cut_room, has_to_cut, is_committed, is_buffer_full, more_by, output_limit, passes_length, push_byte, push_bytes, with_room}
use Rattle.cy_out.specs.Exchanges.{Act, Exchange, after_act, flushes, receives, writes}
use Rattle.cy_out.specs.Laws.{ClosesAreSaid, CutsFindRoom, HeadsSayTheMode, IsGreatest, NoContentIsUnframed, WritesTakeTheMost, says_close}
use Rattle.cy_out.proofs.ContentSent.{received_more}
use Rattle.cy_out.proofs.Pushes.{push_none, push_one}

-- ---- what is taken

room_where_full : (full : Bool) (output : List ℕ) → not full || can_cut output ≡ true → full ≡ true → cut_room + length output ≤ output_limit
room_where_full full output takes is = grind (arith, nat_tests)

none_where_full : (full : Bool) (output : List ℕ) → not full || can_cut output ≡ false → (full ≡ true → cut_room + length output ≤ output_limit) → ⊥
none_where_full true output stuck room = let h : cut_room + length output ≤ output_limit = room refl in grind (arith, nat_tests)
none_where_full false output stuck room = cc

greatest_more : (head : Answer) (at b : ℕ) (bytes : List ℕ) (a : Answering) (count : ℕ) → can_take a ≡ true
    → IsGreatest head at bytes (push_byte head at b a) count → IsGreatest head at (b ∷ bytes) a (1 + count)
greatest_more head at b bytes a count takes later =
    let up : 1 + count ≡ suc count = omega arith in
    subst (IsGreatest head at (b ∷ bytes) a) (sym up) (record {
      within = omega (arith, later.within);
      taken = (room_where_full (is_buffer_full a.sending) a.output takes, later.taken);
      greatest = fewer;
    })
  where
    fewer : (n : ℕ) → n ≤ length (b ∷ bytes) → CutsFindRoom head at (take n (b ∷ bytes)) a → n ≤ suc count
    fewer zero inside found = omega arith
    fewer (suc n) inside found = omega (arith, later.greatest n (omega arith) found.1)

greatest_none : (head : Answer) (at b : ℕ) (bytes : List ℕ) (a : Answering) → can_take a ≡ false → IsGreatest head at (b ∷ bytes) a 0
greatest_none head at b bytes a stuck = record { within = omega arith; taken = tt; greatest = fewer }
  where
    fewer : (n : ℕ) → n ≤ length (b ∷ bytes) → CutsFindRoom head at (take n (b ∷ bytes)) a → n ≤ 0
    fewer zero inside found = omega arith
    fewer (suc n) inside found = absurd (none_where_full (is_buffer_full a.sending) a.output stuck found.0)

pub writes_take_the_most : WritesTakeTheMost
writes_take_the_most head at [] a = record { within = omega arith; taken = tt; greatest = λ n inside found. inside }
writes_take_the_most head at (b ∷ bytes) a =
    elim (can_take a) as (λ v. can_take a ≡ v → IsGreatest head at (b ∷ bytes) a (push_bytes head at (b ∷ bytes) a).count) [
      | true ↦ λ takes. subst (λ t. IsGreatest head at (b ∷ bytes) a t.count) (sym (push_one head at b bytes a takes))
          (greatest_more head at b bytes a (push_bytes head at bytes (push_byte head at b a)).count takes (writes_take_the_most head at bytes (push_byte head at b a)))
      | false ↦ λ stuck. subst (λ t. IsGreatest head at (b ∷ bytes) a t.count) (sym (push_none head at (b ∷ bytes) a stuck)) (greatest_none head at b bytes a stuck)
    ] refl

-- ---- what the head says

pub no_content_is_unframed : NoContentIsUnframed
no_content_is_unframed asked status n none =
    record { told_length = rw none refl; in_chunks = rw none refl }

-- ---- answers that are given up

-- nothing more is written
pub record StaysVoid (closes : Bool) (got bytes : List ℕ) (a : Answering) : Type 0 where
  pub commit : a.sending.commit ≡ Some (record { mode = void; closes = closes })
  pub all : got ++ a.output ≡ bytes

-- the same answer, written with its commit
abbrev voided : Bool → Answering → Answering
voided closes a = record a { sending = record a.sending { commit = Some (record { mode = void; closes = closes }) } }

is_voided : (closes : Bool) (a : Answering) → a.sending.commit ≡ Some (record { mode = void; closes = closes }) → a ≡ voided closes a
is_voided closes a given =
    λ i. record { sending = record { asked = a.sending.asked; left = a.sending.left; waiting = a.sending.waiting; commit = given i }; output = a.output }

cut_stays : (head : Answer) (at : ℕ) (closes : Bool) (got bytes : List ℕ) (a : Answering) → StaysVoid closes got bytes a → StaysVoid closes got bytes (cut head at a)
cut_stays head at closes got bytes a stays =
    subst (λ (x : Answering). StaysVoid closes got bytes (cut head at x)) (sym (is_voided closes a stays.commit))
    (record { commit = refl; all = ap (λ (xs : List ℕ). got ++ xs) (append-nil a.output) ∙ stays.all })

room_stays : (head : Answer) (at : ℕ) (closes : Bool) (got bytes : List ℕ) (a : Answering) → StaysVoid closes got bytes a → StaysVoid closes got bytes (with_room head at a)
room_stays head at closes got bytes a stays =
    elim (is_buffer_full a.sending) as (λ v. StaysVoid closes got bytes (elim v [ true ↦ cut head at a | false ↦ a ])) [
      | true ↦ cut_stays head at closes got bytes a stays
      | false ↦ stays
    ]

byte_stays : (head : Answer) (at b : ℕ) (closes : Bool) (got bytes : List ℕ) (a : Answering) → StaysVoid closes got bytes a → StaysVoid closes got bytes (push_byte head at b a)
byte_stays head at b closes got bytes a stays =
    let roomy = room_stays head at closes got bytes a stays in record { commit = roomy.commit; all = roomy.all }

push_stays : (head : Answer) (at : ℕ) (more : List ℕ) (closes : Bool) (got bytes : List ℕ) (a : Answering) → StaysVoid closes got bytes a
    → StaysVoid closes got bytes (push_bytes head at more a).after
push_stays head at [] closes got bytes a stays = stays
push_stays head at (b ∷ more) closes got bytes a stays =
    elim (can_take a) as (λ v. let t : Took = elim v [ true ↦ more_by 1 (push_bytes head at more (push_byte head at b a)) | false ↦ record { count = 0; after = a } ] in StaysVoid closes got bytes t.after) [
      | true ↦ push_stays head at more closes got bytes (push_byte head at b a) (byte_stays head at b closes got bytes a stays)
      | false ↦ stays
    ]

pub act_stays : (head : Answer) (act : Act) (closes : Bool) (bytes : List ℕ) (x : Exchange) → StaysVoid closes x.received bytes x.answering
    → StaysVoid closes (after_act head act x).received bytes (after_act head act x).answering
act_stays head (writes more at) closes bytes x stays =
    let a = x.answering in
    elim (passes_length a.sending (length more)) as (λ v. StaysVoid closes x.received bytes (if v then a else (push_bytes head at more a).after)) [
      | true ↦ stays
      | false ↦ push_stays head at more closes x.received bytes a stays
    ]
act_stays head (flushes at) closes bytes x stays =
    let a = x.answering in
    elim (has_to_cut a.sending && can_cut a.output) as (λ v. StaysVoid closes x.received bytes (if v then cut head at a else a)) [
      | true ↦ cut_stays head at closes x.received bytes a stays
      | false ↦ stays
    ]
act_stays head (receives n) closes bytes x stays =
    record { commit = stays.commit; all = received_more x.received x.answering.output n ∙ stays.all }

pub finish_adds_none : (head : Answer) (at : ℕ) (closes : Bool) (got bytes : List ℕ) (a : Answering) → StaysVoid closes got bytes a
    → got ++ (after_finish head at a).output ≡ bytes
finish_adds_none head at closes got bytes a stays =
    subst (λ (x : Answering). got ++ (after_finish head at x).output ≡ bytes) (sym (is_voided closes a stays.commit))
    (ap (λ (xs : List ℕ). got ++ xs) (append-nil (a.output ++ []) ∙ append-nil a.output) ∙ stays.all)

-- an answer that is given up is void
pub aborted_is_void : (s : Sending) → is_committed s ≡ true → (closes : Bool) × ((aborted s).commit ≡ Some (record { mode = void; closes = closes }))
aborted_is_void s committed =
    elim s.commit as (λ c. (elim c as (λ _. Bool) [ None ↦ false | Some k ↦ true ]) ≡ true
    → (closes : Bool) × ((elim c as (λ _. Sending) [ None ↦ s | Some k ↦ record s { commit = Some (record { mode = void; closes = k.closes }) } ]).commit ≡ Some (record { mode = void; closes = closes }))) [
      | None ↦ λ none. cc
      | Some k ↦ λ some. (k.closes, refl)
    ] committed

-- ---- what a head says of the mode

mode_said : (is_head none : Bool) (minor : ℕ) (n : Option ℕ)
    → (if is_head || none then void
    else (if not none && is_none n && (minor == 1) then chunked else (if is_none (if none then None else n) then until_close else counted)))
    ≡ (if is_head || none then void else content_mode minor n)
mode_said true none minor n = refl
mode_said false true minor n = refl
mode_said false false minor (Some n) = refl
mode_said false false minor None = refl

length_said : (is_head none : Bool) (minor : ℕ) (n : Option ℕ) → (if is_head || none then void else content_mode minor n) ≡ counted
    → (if none then None else n) ≡ n
length_said true none minor n is = cc
length_said false true minor n is = cc
length_said false false minor n is = refl

close_said : (keep : Bool) (minor : ℕ) → (if not keep || true then close else (if minor == 1 then silent else keep_alive)) ≡ close
close_said true minor = refl
close_said false minor = refl

pub heads_say_the_mode : HeadsSayTheMode
heads_say_the_mode asked status n = record {
  mode = mode_said asked.is_head (has_no_content status) asked.minor n;
  told_length = length_said asked.is_head (has_no_content status) asked.minor n;
  connection = λ until. ap (connection_of asked) until ∙ close_said asked.keep asked.minor;
}

close_is_said : (closing new : Bool) → closing ≡ says_close (if closing then close else (if new then silent else keep_alive))
close_is_said true new = refl
close_is_said false true = refl
close_is_said false false = refl

pub closes_are_said : ClosesAreSaid
closes_are_said head n asked = close_is_said (closes asked (mode_of asked head.status n)) (asked.minor == 1)
