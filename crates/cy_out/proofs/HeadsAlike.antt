-- A HEAD and another request that are answered by the same calls: up to the head both take the same.
use Rattle.std.proofs.Common.{◌≡◌, ℕ, ◌+◌, ◌≤◌, Bool, true, false, List, [], ◌∷◌, ◌++◌, length, take, Option, None, Some, refl, sym, ap, subst, ◌∙◌}
use Rattle.std.specs.Prelude.{not, ◌&&◌, ◌||◌, ◌==◌, if◌then◌else◌, is_none}
use Rattle.cy_event.specs.Answers.{Answer, content_buffer}
use Rattle.cy_event.specs.AnswerModes.{framing_lines, has_no_content, head_of_shape, shape_of}
use Rattle.cy_event.specs.Answering.{Answering, Commit, Took, can_cut, can_take, commit_by, cut, has_to_cut, is_committed, is_empty, is_buffer_full, more_by, passes_length, push_byte, push_bytes, set_length_of}
use Rattle.cy_out.specs.Exchanges.{Act, Exchange, after_act, flushes, head_moment, is_out, marks_by, marks_of, receives, writes}
use Rattle.cy_event.specs.AnswerBytes.{known_length}
use Rattle.cy_out.specs.Laws.{HeadIsFramedAsGet, asked_by, head_length}
use Rattle.cy_event.specs.Pieces.{PutOrFlush, content_put, put}
use Rattle.cy_out.proofs.ContentSent.{room_is}
use Rattle.cy_out.proofs.Pushes.{filled, push_into_room, push_none, push_one}
use Rattle.cy_out.proofs.WholeAnswers.{began, has_gone, is_in, moment_is, start_of, starts, waiting_act, waits}

-- ---- a head that is out stays out

pub cut_commits : (head : Answer) (at : ℕ) (a : Answering) → is_committed (cut head at a).sending ≡ true
cut_commits head at a =
    let known = set_length_of a.sending in
    let committed : Answering = record {
      sending = record a.sending { commit = Some (commit_by head known a.sending.asked) };
      output = a.output ++ head_of_shape head (shape_of a.sending.asked head.status known) at;
    } in
    elim a.sending.commit as (λ c. a.sending.commit ≡ c → is_committed (elim c as (λ _. Answering) [ None ↦ committed | Some k ↦ a ]).sending ≡ true) [
      | None ↦ λ given. refl
      | Some k ↦ λ given. ap (λ (c : Option Commit). elim c as (λ _. Bool) [ None ↦ false | Some m ↦ true ]) given
    ] refl

byte_keeps : (head : Answer) (at b : ℕ) (a : Answering) → is_committed a.sending ≡ true → is_committed (push_byte head at b a).sending ≡ true
byte_keeps head at b a out =
    elim (is_buffer_full a.sending) as (λ v. is_committed (elim v as (λ _. Answering) [ true ↦ cut head at a | false ↦ a ]).sending ≡ true) [
      | true ↦ cut_commits head at a
      | false ↦ out
    ]

pub push_keeps : (head : Answer) (at : ℕ) (bytes : List ℕ) (a : Answering)
    → is_committed a.sending ≡ true → is_committed (push_bytes head at bytes a).after.sending ≡ true
push_keeps head at [] a out = out
push_keeps head at (b ∷ bytes) a out =
    elim (can_take a) as (λ v. let t : Took = elim v [ true ↦ more_by 1 (push_bytes head at bytes (push_byte head at b a)) | false ↦ record { count = 0; after = a } ] in
    is_committed t.after.sending ≡ true) [
      | true ↦ push_keeps head at bytes (push_byte head at b a) (byte_keeps head at b a out)
      | false ↦ out
    ]

-- a full buffer is cut before a byte that is taken
full_commits : (head : Answer) (at b : ℕ) (bytes : List ℕ) (a : Answering) → is_buffer_full a.sending ≡ true → can_cut a.output ≡ true
    → is_committed (push_bytes head at (b ∷ bytes) a).after.sending ≡ true
full_commits head at b bytes a full room =
    let takes : can_take a ≡ true = (λ i. not (full i) || room i) in
    let here : is_committed (push_byte head at b a).sending ≡ true
    = ap (λ (v : Bool). is_committed (elim v as (λ _. Answering) [ true ↦ cut head at a | false ↦ a ]).sending) full ∙ cut_commits head at a in
    ap (λ (t : Took). is_committed t.after.sending) (push_one head at b bytes a takes) ∙ push_keeps head at bytes (push_byte head at b a) here

-- ---- one act

-- the same answer, to a HEAD or not
abbrev by : Bool → Answering → Answering
by is_head a = record a { sending = record a.sending { asked = record a.sending.asked { is_head = is_head } } }

-- with HEAD and without, the head goes out, or the same is taken
data PushedAlike (head : Answer) (at : ℕ) (bytes : List ℕ) (a : Answering) : Type 0 where
  both_cut : ((m : Bool) → is_committed (push_bytes head at bytes (by m a)).after.sending ≡ true) → PushedAlike head at bytes a
  both_kept : (count : ℕ) (next : Answering) → next.sending.commit ≡ None
      → ((m : Bool) → push_bytes head at bytes (by m a) ≡ record { count = count; after = by m next }) → PushedAlike head at bytes a

pushed_alike : (head : Answer) (at : ℕ) (bytes : List ℕ) (a : Answering) → a.sending.commit ≡ None → PushedAlike head at bytes a
pushed_alike head at [] a given = both_kept 0 a given (λ m. refl)
pushed_alike head at (b ∷ bytes) a given =
    elim (is_buffer_full a.sending) as (λ v. is_buffer_full a.sending ≡ v → PushedAlike head at (b ∷ bytes) a) [
      | true ↦ λ full. elim (can_cut a.output) as (λ v. can_cut a.output ≡ v → PushedAlike head at (b ∷ bytes) a) [
        | true ↦ λ room. both_cut (λ m. full_commits head at b bytes (by m a) full room)
        | false ↦ λ stuck. let none : can_take a ≡ false = (λ i. not (full i) || stuck i) in
            both_kept 0 a given (λ m. push_none head at (b ∷ bytes) (by m a) none)
      ] refl
      | false ↦ λ room. let few = room_is a.sending room in
          let one = filled (b ∷ []) a in
          elim (pushed_alike head at bytes one given) as (λ _. PushedAlike head at (b ∷ bytes) a) [
            | both_cut cuts ↦ both_cut (λ m. ap (λ (t : Took). is_committed t.after.sending) (push_into_room head at b bytes (by m a) few) ∙ cuts m)
            | both_kept count next still same ↦ both_kept (1 + count) next still (λ m. push_into_room head at b bytes (by m a) few ∙ ap (more_by 1) (same m))
          ]
    ] refl

-- with HEAD and without, the head goes out, or the same comes of the act, which does the same with the content
pub data ActsAlike (head : Answer) (act : Act) (x : Exchange) : Type 0 where
  both_out : ((m : Bool) → is_out (after_act head act (asked_by m x)) ≡ true) → ActsAlike head act x
  both_in : (next : Exchange) (now : List PutOrFlush) → next.answering.sending.commit ≡ None
      → ((m : Bool) → after_act head act (asked_by m x) ≡ asked_by m next)
      → ((m : Bool) → marks_by head act (asked_by m x) ≡ now) → ActsAlike head act x

pub acts_alike : (head : Answer) (act : Act) (x : Exchange) → x.answering.sending.commit ≡ None → ActsAlike head act x
acts_alike head (writes bytes at) x given =
    let a = x.answering in
    let written_by : Bool → Bool → Exchange = λ v m. record { received = x.received; answering = if v then by m a else (push_bytes head at bytes (by m a)).after } in
    let marked_by : Bool → Bool → List PutOrFlush = λ v m. put (if v then [] else take (push_bytes head at bytes (by m a)).count bytes) ∷ [] in
    elim (passes_length a.sending (length bytes)) as (λ v. passes_length a.sending (length bytes) ≡ v → ActsAlike head (writes bytes at) x) [
      | true ↦ λ passes. both_in x (put [] ∷ []) given (λ m. ap (λ (v : Bool). written_by v m) passes) (λ m. ap (λ (v : Bool). marked_by v m) passes)
      | false ↦ λ fits. elim (pushed_alike head at bytes a given) as (λ _. ActsAlike head (writes bytes at) x) [
        | both_cut cuts ↦ both_out (λ m. ap (λ (v : Bool). is_out (written_by v m)) fits ∙ cuts m)
        | both_kept count next still same ↦ both_in (record { received = x.received; answering = next }) (put (take count bytes) ∷ []) still
            (λ m. ap (λ (v : Bool). written_by v m) fits ∙ (λ i. record { received = x.received; answering = (same m i).after }))
            (λ m. ap (λ (v : Bool). marked_by v m) fits ∙ (λ i. put (take (same m i).count bytes) ∷ []))
      ]
    ] refl
acts_alike head (flushes at) x given =
    let a = x.answering in
    let some : has_to_cut a.sending ≡ true = ap (λ (c : Option Commit). not (elim c as (λ _. Bool) [ None ↦ false | Some k ↦ true ]) || not (is_empty a.sending.waiting)) given in
    let flushed_by : Bool → Bool → Exchange = λ v m. record { received = x.received; answering = if v then cut head at (by m a) else by m a } in
    elim (can_cut a.output) as (λ v. can_cut a.output ≡ v → ActsAlike head (flushes at) x) [
      | true ↦ λ room. both_out (λ m. (λ i. is_out (flushed_by (some i && room i) m)) ∙ cut_commits head at (by m a))
      | false ↦ λ stuck. both_in x (marks_by head (flushes at) x) given (λ m. (λ i. flushed_by (some i && stuck i) m)) (λ m. refl)
    ] refl
acts_alike head (receives n) x given = both_in (after_act head (receives n) x) [] given (λ m. refl) (λ m. refl)

-- ---- the length that the head knows, act by act

length_step : (head : Answer) (act : Act) (acts : List Act) (x : Exchange) → x.answering.sending.commit ≡ None → length x.answering.sending.waiting ≤ content_buffer
    → (out : Bool) → is_out (after_act head act x) ≡ out
    → head_length head (act ∷ acts) x ≡ (if out then set_length_of x.answering.sending else head_length head acts (after_act head act x))
length_step head act acts x given few =
    let next = after_act head act x in
    let later = marks_of head acts next in
    let marks = marks_by head act x ++ later in
    let set_length = set_length_of x.answering.sending in
    elim (waiting_act head act (start_of x marks) 0 later x (starts x marks given few)) as (λ _. (out : Bool) → is_out next ≡ out
    → head_length head (act ∷ acts) x ≡ (if out then set_length else head_length head acts next)) [
      | waits u ↦ λ out is. subst (λ (v : Bool). head_length head (act ∷ acts) x ≡ (if v then set_length else head_length head acts next)) (sym (is_in next u.commit) ∙ is)
          (sym (λ i. known_length (u.coming i).early (u.set_length i) (length (u.coming i).content)))
      | began early g ↦ λ out is. subst (λ (v : Bool). head_length head (act ∷ acts) x ≡ (if v then set_length else head_length head acts next))
          (sym (has_gone next (record { mode = _; closes = g.closing }) g.sends.commit) ∙ is)
          (ap (λ (t : Bool). known_length t set_length (length (x.answering.sending.waiting ++ content_put marks))) early)
    ]

few_stay : (head : Answer) (act : Act) (x : Exchange) → x.answering.sending.commit ≡ None → length x.answering.sending.waiting ≤ content_buffer
    → is_out (after_act head act x) ≡ false → length (after_act head act x).answering.sending.waiting ≤ content_buffer
few_stay head act x given few inside =
    let marks = marks_by head act x ++ [] in
    elim (waiting_act head act (start_of x marks) 0 [] x (starts x marks given few)) as (λ _. length (after_act head act x).answering.sending.waiting ≤ content_buffer) [
      | waits u ↦ u.few
      | began early g ↦ g.sends.few
    ]

-- ---- the law

-- the heads know the same length, and are of the same moment
record SameHead (head : Answer) (acts : List Act) (at : ℕ) (x : Exchange) : Type 0 where
  known : head_length head acts (asked_by true x) ≡ head_length head acts (asked_by false x)
  moment : head_moment head acts at (asked_by true x) ≡ head_moment head acts at (asked_by false x)

same_head : (head : Answer) (acts : List Act) (at : ℕ) (x : Exchange) → x.answering.sending.commit ≡ None → length x.answering.sending.waiting ≤ content_buffer
    → SameHead head acts at x
same_head head [] at x given few = record { known = refl; moment = refl }
same_head head (act ∷ acts) at x given few =
    elim (acts_alike head act x given) as (λ _. SameHead head (act ∷ acts) at x) [
      | both_out out ↦ record {
        known = length_step head act acts (asked_by true x) given few true (out true) ∙ sym (length_step head act acts (asked_by false x) given few true (out false));
        moment = sym (moment_is head act acts at (asked_by true x) true (out true)) ∙ moment_is head act acts at (asked_by false x) true (out false);
      }
      | both_in next now still same marked ↦ let inside : (m : Bool) → is_out (after_act head act (asked_by m x)) ≡ false = λ m. ap is_out (same m) ∙ is_in next still in
          let few_next = subst (λ (y : Exchange). length y.answering.sending.waiting ≤ content_buffer) (same true)
          (few_stay head act (asked_by true x) given few (inside true)) in
          let later = same_head head acts at next still few_next in
          record {
            known = length_step head act acts (asked_by true x) given few false (inside true)
                ∙ ap (head_length head acts) (same true)
                ∙ later.known
                ∙ sym (ap (head_length head acts) (same false))
                ∙ sym (length_step head act acts (asked_by false x) given few false (inside false));
            moment = sym (moment_is head act acts at (asked_by true x) false (inside true))
                ∙ ap (head_moment head acts at) (same true)
                ∙ later.moment
                ∙ sym (ap (head_moment head acts at) (same false))
                ∙ moment_is head act acts at (asked_by false x) false (inside false);
          }
    ]

pub head_is_framed_as_get : HeadIsFramedAsGet
head_is_framed_as_get head acts at x given few =
    let same = same_head head acts at x given few in
    let none = has_no_content head.status in
    record {
      framing = ap (λ (n : Option ℕ). framing_lines (if none then None else n) (not none && is_none n && (x.answering.sending.asked.minor == 1))) same.known;
      moment = same.moment;
    }
