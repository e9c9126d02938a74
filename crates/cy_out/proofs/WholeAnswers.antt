-- Answers of which nothing is out: the first cut, or the end, puts the head, and the pieces follow it.
use Rattle.std.proofs.Common.{◌≡◌, ℕ, suc, ◌+◌, ◌-◌, ◌<◌, ◌≤◌, Bool, true, false, List, [], ◌∷◌, ◌++◌, length, take, Option, Some, None, refl, sym, ap, subst, ◌∙◌, arith, append_assoc, append-nil, length-append}
use Rattle.std.specs.Prelude.{not, ◌&&◌, ◌||◌, nat_lt, if◌then◌else◌, option_map, unwrap_or}
use Rattle.std.specs.List.{flat_map, list_any}
use Rattle.std.proofs.lemmas.Bool.{lt-ltb}
use Rattle.std.proofs.lemmas.Bool.Decides.{nat_tests}
use Rattle.cy_event.specs.Answers.{Answer, content_buffer}
use Rattle.cy_event.specs.AnswerModes.{Asked, closes, head_of_shape, last_text, mode_of, piece_text, shape_of}
use Rattle.cy_event.specs.Answering.{Answering, Commit, Took, after_finish, can_cut, can_take, commit_by, cut, has_to_cut, is_empty, is_buffer_full, more_by, passes_length, push_byte, push_bytes, set_length_of, whole_length_of, with_bytes, with_head, with_room}
use Rattle.cy_out.specs.Exchanges.{Act, Exchange, after_act, after_acts, finished, flushes, head_moment, is_out, marks_by, marks_of, moment_of, receives, writes, written}
use Rattle.cy_event.specs.AnswerBytes.{answer_bytes, known_length}
use Rattle.cy_out.specs.Laws.{AnswersAreWhole}
use Rattle.cy_event.specs.Pieces.{PutOrFlush, content_put, flushed, is_cut_early, is_flush, pieces_behind, put}
use Rattle.cy_out.proofs.ContentSent.{Sends, acts_send, finish_sends, flush_sends, full_cut_sends, full_is, joins, push_sends, received_more, room_is}
use Rattle.cy_out.proofs.Pushes.{fits_less}

-- what comes where this run waits and this happens: the content, its pieces, and whether it is cut before its end
pub record Coming : Type 0 where
  pub content : List ℕ
  pub pieces : List (List ℕ)
  pub early : Bool

abbrev pub coming_of : List ℕ → List PutOrFlush → Coming
coming_of run marks = record { content = run ++ content_put marks; pieces = pieces_behind run marks; early = is_cut_early run marks }

-- what is known of the answer from its start on: the request, the length that was set, what was written before, and
-- what comes
pub record Start : Type 0 where
  pub asked : Asked
  pub set_length : Option ℕ
  pub before : List ℕ
  pub coming : Coming

-- nothing is out yet
pub record Waits (s : Start) (got : List ℕ) (marks : List PutOrFlush) (a : Answering) : Type 0 where
  pub commit : a.sending.commit ≡ None
  pub few : length a.sending.waiting ≤ content_buffer
  pub asked : a.sending.asked ≡ s.asked
  pub set_length : set_length_of a.sending ≡ s.set_length
  pub before : got ++ a.output ≡ s.before
  pub coming : coming_of a.sending.waiting marks ≡ s.coming

-- the head that knows this length, and the pieces behind it
abbrev pub head_and_pieces : Answer → Start → Option ℕ → ℕ → List ℕ
head_and_pieces head s known moment =
    (s.before ++ head_of_shape head (shape_of s.asked head.status known) moment)
    ++ flat_map (piece_text (mode_of s.asked head.status known)) s.coming.pieces

-- the head is out, knows this length, and is of this moment
pub record Began (head : Answer) (s : Start) (known : Option ℕ) (moment : ℕ) (got : List ℕ) (marks : List PutOrFlush) (a : Answering) : Type 0 where
  pub closing : Bool
  pub sends : Sends (mode_of s.asked head.status known) closing got marks (head_and_pieces head s known moment) a

-- ---- the head

-- the same answer, written without a commit
abbrev unsettled : Answering → Answering
unsettled a = record a { sending = record a.sending { commit = None } }

is_unsettled : (a : Answering) → a.sending.commit ≡ None → a ≡ unsettled a
is_unsettled a given =
    λ i. record { sending = record { asked = a.sending.asked; left = a.sending.left; waiting = a.sending.waiting; commit = given i }; output = a.output }

-- with the head the answer has begun, and the pieces are the same
begins : (head : Answer) (at : ℕ) (s : Start) (known : Option ℕ) (got : List ℕ) (marks : List PutOrFlush) (a : Answering)
    → Waits s got marks a → Began head s known at got marks (with_head head at known a)
begins head at s known got marks a w =
    let text = head_of_shape head (shape_of s.asked head.status known) at in
    let mode = mode_of s.asked head.status known in
    let more = flat_map (piece_text mode) (pieces_behind a.sending.waiting marks) in
    subst (λ (x : Answering). Began head s known at got marks (with_head head at known x)) (sym (is_unsettled a w.commit))
    (record {
      closing = closes s.asked mode;
      sends = record {
        commit = ap (λ (k : Asked). Some (commit_by head known k)) w.asked;
        few = w.few;
        all = ap (λ (k : Asked). (got ++ (a.output ++ head_of_shape head (shape_of k head.status known) at)) ++ more) w.asked
            ∙ ap (λ (xs : List ℕ). xs ++ more) (sym (append_assoc got a.output text) ∙ ap (λ (xs : List ℕ). xs ++ text) w.before)
            ∙ ap (λ (c : Coming). (s.before ++ text) ++ flat_map (piece_text mode) c.pieces) w.coming;
      };
    })

-- A cut puts the head first. What is cut then is cut behind it.
cut_is_behind : (head : Answer) (at : ℕ) (a : Answering) → a.sending.commit ≡ None
    → cut head at a ≡ cut head at (with_head head at (set_length_of a.sending) a)
cut_is_behind head at a given =
    subst (λ (x : Answering). cut head at x ≡ cut head at (with_head head at (set_length_of x.sending) x)) (sym (is_unsettled a given)) refl

head_leaves : (head : Answer) (at : ℕ) (known : Option ℕ) (a : Answering) → a.sending.commit ≡ None
    → (with_head head at known a).sending.waiting ≡ a.sending.waiting
head_leaves head at known a given =
    subst (λ (x : Answering). (with_head head at known x).sending.waiting ≡ x.sending.waiting) (sym (is_unsettled a given)) refl

begins_full : (head : Answer) (at b : ℕ) (s : Start) (got : List ℕ) (marks : List PutOrFlush) (a : Answering) → length a.sending.waiting ≡ content_buffer
    → Waits s got (put (b ∷ []) ∷ marks) a → Began head s s.set_length at got (put (b ∷ []) ∷ marks) (cut head at a)
begins_full head at b s got marks a full w =
    let known = set_length_of a.sending in
    let headed = with_head head at known a in
    let mode = mode_of s.asked head.status known in
    let g = begins head at s known got (put (b ∷ []) ∷ marks) a w in
    let bytes = head_and_pieces head s known at in
    let full_there : length headed.sending.waiting ≡ content_buffer = ap length (head_leaves head at known a w.commit) ∙ full in
    let sends = full_cut_sends head at b mode g.closing got marks bytes headed full_there g.sends in
    subst (λ (n : Option ℕ). Began head s n at got (put (b ∷ []) ∷ marks) (cut head at a)) w.set_length
    (record {
      closing = g.closing;
      sends = subst (Sends mode g.closing got (put (b ∷ []) ∷ marks) bytes) (sym (cut_is_behind head at a w.commit)) sends;
    })

begins_flushed : (head : Answer) (at : ℕ) (s : Start) (got : List ℕ) (marks : List PutOrFlush) (a : Answering)
    → Waits s got (flushed ∷ marks) a → Began head s s.set_length at got marks (cut head at a)
begins_flushed head at s got marks a w =
    let known = set_length_of a.sending in
    let headed = with_head head at known a in
    let mode = mode_of s.asked head.status known in
    let g = begins head at s known got (flushed ∷ marks) a w in
    let bytes = head_and_pieces head s known at in
    let sends = flush_sends head at mode g.closing got marks bytes headed g.sends in
    subst (λ (n : Option ℕ). Began head s n at got marks (cut head at a)) w.set_length
    (record {
      closing = g.closing;
      sends = subst (Sends mode g.closing got marks bytes) (sym (cut_is_behind head at a w.commit)) sends;
    })

-- ---- writes

-- nothing is out yet, or the head is out since this moment
pub data Stage (head : Answer) (s : Start) (moment : ℕ) (got : List ℕ) (marks : List PutOrFlush) (a : Answering) : Type 0 where
  waits : Waits s got marks a → Stage head s moment got marks a
  began : s.coming.early ≡ true → Began head s s.set_length moment got marks a → Stage head s moment got marks a

-- what is put joins the run
joined : (run bytes : List ℕ) (marks : List PutOrFlush) → coming_of (run ++ bytes) marks ≡ coming_of run (put bytes ∷ marks)
joined run bytes marks =
    let same = append_assoc run bytes (content_put marks) in
    λ i. record { content = same i; pieces = pieces_behind (run ++ bytes) marks; early = list_any is_flush marks || nat_lt content_buffer (length (same i)) }

nothing_joins : (run : List ℕ) (marks : List PutOrFlush) → coming_of run (put [] ∷ marks) ≡ coming_of run marks
nothing_joins run marks = sym (joined run [] marks) ∙ ap (λ (r : List ℕ). coming_of r marks) (append-nil run)

one_by_one : (run : List ℕ) (b n : ℕ) (more : List ℕ) (marks : List PutOrFlush)
    → coming_of run (put (take (1 + n) (b ∷ more)) ∷ marks) ≡ coming_of run (put (b ∷ []) ∷ (put (take n more) ∷ marks))
one_by_one run b n more marks =
    let up : 1 + n ≡ suc n = omega arith in
    sym (joined run (take (1 + n) (b ∷ more)) marks)
    ∙ ap (λ (m : ℕ). coming_of (run ++ take m (b ∷ more)) marks) up
    ∙ ap (λ (r : List ℕ). coming_of r marks) (sym (append_assoc run (b ∷ []) (take n more)))
    ∙ joined (run ++ b ∷ []) (take n more) marks
    ∙ joined run (b ∷ []) (put (take n more) ∷ marks)

or_true : (a b : Bool) → b ≡ true → a || b ≡ true
or_true true b is = refl
or_true false b is = is

-- a byte behind a full buffer makes a cut
cut_by_more : (run : List ℕ) (b : ℕ) (marks : List PutOrFlush) → length run ≡ content_buffer → is_cut_early run (put (b ∷ []) ∷ marks) ≡ true
cut_by_more run b marks full =
    let more = b ∷ [] ++ content_put marks in
    let long : content_buffer < length (run ++ more) = omega (arith, length-append run more) in
    or_true (list_any is_flush marks) (nat_lt content_buffer (length (run ++ more))) (lt-ltb content_buffer (length (run ++ more)) long)

kept_by_one : (left : Option ℕ) (b : ℕ) (waiting : List ℕ) → elim left [ None ↦ false | Some l ↦ nat_lt l 1 ] ≡ false
    → option_map (λ n. n + length (waiting ++ b ∷ [])) (option_map (λ n. n - 1) left) ≡ option_map (λ n. n + length waiting) left
kept_by_one None b waiting fits = refl
kept_by_one (Some l) b waiting fits =
    let some : 1 ≤ l = grind (arith, nat_tests) in
    let same : l - 1 + length (waiting ++ b ∷ []) ≡ l + length waiting = omega (arith, length-append waiting (b ∷ [])) in
    ap Some same

one_fits : (left : Option ℕ) (k : ℕ) → 1 ≤ k → elim left [ None ↦ false | Some l ↦ nat_lt l k ] ≡ false → elim left [ None ↦ false | Some l ↦ nat_lt l 1 ] ≡ false
one_fits None k some fits = refl
one_fits (Some l) k some fits = grind (arith, nat_tests)

byte_stage : (head : Answer) (at b : ℕ) (s : Start) (got : List ℕ) (marks : List PutOrFlush) (a : Answering) → passes_length a.sending 1 ≡ false
    → Waits s got (put (b ∷ []) ∷ marks) a → Stage head s at got marks (push_byte head at b a)
byte_stage head at b s got marks a fits w =
    elim (is_buffer_full a.sending) as (λ v. is_buffer_full a.sending ≡ v
    → (let r : Answering = elim v [ true ↦ cut head at a | false ↦ a ] in Stage head s at got marks (record r { sending = with_bytes (b ∷ []) r.sending }))) [
      | true ↦ λ full. let g = begins_full head at b s got marks a (full_is a.sending full w.few) w in
          began (sym (ap (λ (c : Coming). c.early) w.coming) ∙ cut_by_more a.sending.waiting b marks (full_is a.sending full w.few)) (record {
            closing = g.closing;
            sends = joins b (mode_of s.asked head.status s.set_length) g.closing got marks (head_and_pieces head s s.set_length at) (cut head at a) (omega arith) g.sends;
          })
      | false ↦ λ room. waits (record {
        commit = w.commit;
        few = omega (arith, length-append a.sending.waiting (b ∷ []), room_is a.sending room);
        asked = w.asked;
        set_length = kept_by_one a.sending.left b a.sending.waiting fits ∙ w.set_length;
        before = w.before;
        coming = joined a.sending.waiting (b ∷ []) marks ∙ w.coming;
      })
    ] refl

waits_by : (s : Start) (got : List ℕ) (marks others : List PutOrFlush) (a : Answering) → coming_of a.sending.waiting marks ≡ coming_of a.sending.waiting others
    → Waits s got marks a → Waits s got others a
waits_by s got marks others a same w =
    record { commit = w.commit; few = w.few; asked = w.asked; set_length = w.set_length; before = w.before; coming = sym same ∙ w.coming }

pub head_keeps_left : (head : Answer) (at : ℕ) (known : Option ℕ) (a : Answering) → (with_head head at known a).sending.left ≡ a.sending.left
head_keeps_left head at known a =
    elim a.sending.commit as (λ c. let x : Answering = elim c [
      | None ↦ record {
        sending = record a.sending { commit = Some (commit_by head known a.sending.asked) };
        output = a.output ++ head_of_shape head (shape_of a.sending.asked head.status known) at;
      }
      | Some k ↦ a
    ] in x.sending.left ≡ a.sending.left) [
      | None ↦ refl
      | Some k ↦ refl
    ]

room_keeps_left : (head : Answer) (at : ℕ) (a : Answering) → (with_room head at a).sending.left ≡ a.sending.left
room_keeps_left head at a =
    elim (is_buffer_full a.sending) as (λ v. let x : Answering = elim v [ true ↦ cut head at a | false ↦ a ] in x.sending.left ≡ a.sending.left) [
      | true ↦ head_keeps_left head at (set_length_of a.sending) a
      | false ↦ refl
    ]

-- how much may still come, where one byte was taken
pub byte_takes_one : (head : Answer) (at b : ℕ) (a : Answering) → (push_byte head at b a).sending.left ≡ option_map (λ n. n - 1) a.sending.left
byte_takes_one head at b a = ap (option_map (λ n. n - 1)) (room_keeps_left head at a)

rest_fits : (head : Answer) (at b : ℕ) (more : List ℕ) (a : Answering) → passes_length a.sending (length (b ∷ more)) ≡ false
    → passes_length (push_byte head at b a).sending (length more) ≡ false
rest_fits head at b more a fits =
    let sum : 1 + length more ≡ length (b ∷ more) = omega arith in
    ap (λ (o : Option ℕ). elim o as (λ _. Bool) [ None ↦ false | Some l ↦ nat_lt l (length more) ]) (byte_takes_one head at b a)
    ∙ fits_less a.sending.left 1 (length more) (length (b ∷ more)) sum fits

push_stage : (head : Answer) (at : ℕ) (more : List ℕ) (s : Start) (got : List ℕ) (marks : List PutOrFlush) (a : Answering)
    → passes_length a.sending (length more) ≡ false
    → Waits s got (put (take (push_bytes head at more a).count more) ∷ marks) a
    → Stage head s at got marks (push_bytes head at more a).after
push_stage head at [] s got marks a fits w = waits (waits_by s got (put [] ∷ marks) marks a (nothing_joins a.sending.waiting marks) w)
push_stage head at (b ∷ more) s got marks a fits there =
    elim (can_take a) as (λ v. let t : Took = elim v [ true ↦ more_by 1 (push_bytes head at more (push_byte head at b a)) | false ↦ record { count = 0; after = a } ] in
    Waits s got (put (take t.count (b ∷ more)) ∷ marks) a → Stage head s at got marks t.after) [
      | true ↦ λ w. let pushed = push_byte head at b a in
          let t = push_bytes head at more pushed in
          let rest = put (take t.count more) ∷ marks in
          let one = waits_by s got (put (take (1 + t.count) (b ∷ more)) ∷ marks) (put (b ∷ []) ∷ rest) a (one_by_one a.sending.waiting b t.count more marks) w in
          elim (byte_stage head at b s got rest a (one_fits a.sending.left (length (b ∷ more)) (omega arith) fits) one) as (λ _. Stage head s at got marks t.after) [
            | waits u ↦ push_stage head at more s got marks pushed (rest_fits head at b more a fits) u
            | began early g ↦ began early (record {
              closing = g.closing;
              sends = push_sends head at more (mode_of s.asked head.status s.set_length) g.closing got marks (head_and_pieces head s s.set_length at) pushed g.sends;
            })
          ]
      | false ↦ λ w. waits (waits_by s got (put [] ∷ marks) marks a (nothing_joins a.sending.waiting marks) w)
    ] there

-- ---- acts

pub waiting_act : (head : Answer) (act : Act) (s : Start) (later : ℕ) (marks : List PutOrFlush) (x : Exchange)
    → Waits s x.received (marks_by head act x ++ marks) x.answering
    → Stage head s (unwrap_or (moment_of act) later) (after_act head act x).received marks (after_act head act x).answering
waiting_act head (writes more at) s later marks x there =
    let a = x.answering in
    elim (passes_length a.sending (length more)) as (λ v. passes_length a.sending (length more) ≡ v
    → Waits s x.received (put (if v then [] else take (push_bytes head at more a).count more) ∷ marks) a
    → Stage head s at x.received marks (if v then a else (push_bytes head at more a).after)) [
      | true ↦ λ passes w. waits (waits_by s x.received (put [] ∷ marks) marks a (nothing_joins a.sending.waiting marks) w)
      | false ↦ λ fits w. push_stage head at more s x.received marks a fits w
    ] refl there
waiting_act head (flushes at) s later marks x w =
    let a = x.answering in
    let some : has_to_cut a.sending ≡ true = ap (λ (c : Option Commit). not (elim c as (λ _. Bool) [ None ↦ false | Some k ↦ true ]) || not (is_empty a.sending.waiting)) w.commit in
    subst (λ (h : Bool). Waits s x.received ((if h && not (can_cut a.output) then [] else flushed ∷ []) ++ marks) a
    → Stage head s at x.received marks (if h && can_cut a.output then cut head at a else a)) (sym some)
    (elim (can_cut a.output) as (λ v. Waits s x.received ((if not v then [] else flushed ∷ []) ++ marks) a
    → Stage head s at x.received marks (if v then cut head at a else a)) [
      | true ↦ λ u. began (sym (ap (λ (c : Coming). c.early) u.coming)) (begins_flushed head at s x.received marks a u)
      | false ↦ λ u. waits u
    ])
    w
waiting_act head (receives n) s later marks x w =
    waits (record { commit = w.commit; few = w.few; asked = w.asked; set_length = w.set_length; before = received_more x.received x.answering.output n ∙ w.before; coming = w.coming })

pub is_in : (x : Exchange) → x.answering.sending.commit ≡ None → is_out x ≡ false
is_in x given = ap (λ (c : Option Commit). elim c as (λ _. Bool) [ None ↦ false | Some k ↦ true ]) given

pub has_gone : (x : Exchange) (k : Commit) → x.answering.sending.commit ≡ Some k → is_out x ≡ true
has_gone x k given = ap (λ (c : Option Commit). elim c as (λ _. Bool) [ None ↦ false | Some m ↦ true ]) given

-- the moment of the head, by whether this act puts it
pub moment_is : (head : Answer) (act : Act) (acts : List Act) (at : ℕ) (x : Exchange) (out : Bool) → is_out (after_act head act x) ≡ out
    → (if out then unwrap_or (moment_of act) at else head_moment head acts at (after_act head act x)) ≡ head_moment head (act ∷ acts) at x
moment_is head act acts at x out is =
    sym (ap (λ (t : Bool). if t then unwrap_or (moment_of act) at else head_moment head acts at (after_act head act x)) is)

-- ---- the end

end_is_behind : (head : Answer) (at : ℕ) (a : Answering) → a.sending.commit ≡ None
    → after_finish head at a ≡ after_finish head at (with_head head at (Some (whole_length_of a.sending)) a)
end_is_behind head at a given =
    subst (λ (x : Answering). after_finish head at x ≡ after_finish head at (with_head head at (Some (whole_length_of x.sending)) x)) (sym (is_unsettled a given)) refl

-- the length that the head knows
abbrev start_length : Start → Option ℕ
start_length s = known_length s.coming.early s.set_length (length s.coming.content)

-- the bytes behind those that were written before are a whole answer
abbrev Whole : Answer → Start → ℕ → List ℕ → Type 0
Whole head s moment all = all ≡ s.before ++ answer_bytes head s.asked (start_length s) moment s.coming.pieces

whole : (head : Answer) (at moment : ℕ) (s : Start) (got : List ℕ) (a : Answering) → Began head s (start_length s) moment got [] a
    → Whole head s moment (got ++ (after_finish head at a).output)
whole head at moment s got a g =
    let known = start_length s in
    let text = head_of_shape head (shape_of s.asked head.status known) moment in
    let mode = mode_of s.asked head.status known in
    let pieces = flat_map (piece_text mode) s.coming.pieces in
    finish_sends head at mode g.closing got (head_and_pieces head s known moment) a g.sends
    ∙ append_assoc (s.before ++ text) pieces (last_text mode)
    ∙ append_assoc s.before text (pieces ++ last_text mode)

-- nothing was cut, so the whole content is known
all_is_known : (head : Answer) (s : Start) (got : List ℕ) (a : Answering) → Waits s got [] a → Some (whole_length_of a.sending) ≡ start_length s
all_is_known head s got a w =
    let waiting = a.sending.waiting in
    let none = append-nil waiting in
    let short : nat_lt content_buffer (length (waiting ++ [])) ≡ false = ap (λ (xs : List ℕ). nat_lt content_buffer (length xs)) none ∙ not_long waiting w.few in
    let early : s.coming.early ≡ false = sym (ap (λ (c : Coming). c.early) w.coming) ∙ short in
    let size : length waiting ≡ length s.coming.content = ap length (sym none) ∙ ap (λ (c : Coming). length c.content) w.coming in
    (λ i. Some (unwrap_or (w.set_length i) (size i))) ∙ sym (ap (λ (t : Bool). known_length t s.set_length (length s.coming.content)) early)
  where
    not_long : (xs : List ℕ) → length xs ≤ content_buffer → nat_lt content_buffer (length xs) ≡ false
    not_long xs few = grind (arith, nat_tests)

whole_from_waits : (head : Answer) (at : ℕ) (s : Start) (got : List ℕ) (a : Answering) → Waits s got [] a → Whole head s at (got ++ (after_finish head at a).output)
whole_from_waits head at s got a w =
    let known = Some (whole_length_of a.sending) in
    let headed = with_head head at known a in
    subst (λ (b : Answering). Whole head s at (got ++ b.output)) (sym (end_is_behind head at a w.commit))
    (whole head at at s got headed (subst (λ (n : Option ℕ). Began head s n at got [] headed) (all_is_known head s got a w) (begins head at s known got [] a w)))

-- once the head is out the rest follows
whole_from_began : (head : Answer) (acts : List Act) (at moment : ℕ) (s : Start) (x : Exchange) → s.coming.early ≡ true
    → Began head s s.set_length moment x.received (marks_of head acts x) x.answering
    → Whole head s moment (written (finished head at (after_acts head acts x)))
whole_from_began head acts at moment s x early g =
    let last = after_acts head acts x in
    let known : s.set_length ≡ start_length s = sym (ap (λ (t : Bool). known_length t s.set_length (length s.coming.content)) early) in
    let then_on = acts_send head acts (mode_of s.asked head.status s.set_length) g.closing (head_and_pieces head s s.set_length moment) x g.sends in
    whole head at moment s last.received last.answering
    (subst (λ (n : Option ℕ). Began head s n moment last.received [] last.answering) known (record { closing = g.closing; sends = then_on }))

acts_whole : (head : Answer) (acts : List Act) (at : ℕ) (s : Start) (x : Exchange) → Waits s x.received (marks_of head acts x) x.answering
    → Whole head s (head_moment head acts at x) (written (finished head at (after_acts head acts x)))
acts_whole head [] at s x w = whole_from_waits head at s x.received x.answering w
acts_whole head (act ∷ acts) at s x w =
    let next = after_act head act x in
    let all = written (finished head at (after_acts head acts next)) in
    let moment_here = unwrap_or (moment_of act) at in
    elim (waiting_act head act s at (marks_of head acts next) x w) as (λ _. Whole head s (head_moment head (act ∷ acts) at x) all) [
      | waits u ↦ subst (λ (m : ℕ). Whole head s m all) (moment_is head act acts at x false (is_in next u.commit)) (acts_whole head acts at s next u)
      | began early g ↦ subst (λ (m : ℕ). Whole head s m all)
          (moment_is head act acts at x true (has_gone next (record { mode = mode_of s.asked head.status s.set_length; closes = g.closing }) g.sends.commit))
          (whole_from_began head acts at moment_here s next early g)
    ]

-- where nothing is cut before the end, the head is of the end's moment
pub uncut_moment : (head : Answer) (acts : List Act) (at : ℕ) (s : Start) (x : Exchange) → Waits s x.received (marks_of head acts x) x.answering
    → s.coming.early ≡ false → head_moment head acts at x ≡ at
uncut_moment head [] at s x w uncut = refl
uncut_moment head (act ∷ acts) at s x w uncut =
    let next = after_act head act x in
    elim (waiting_act head act s at (marks_of head acts next) x w) as (λ _. head_moment head (act ∷ acts) at x ≡ at) [
      | waits u ↦ sym (moment_is head act acts at x false (is_in next u.commit)) ∙ uncut_moment head acts at s next u uncut
      | began early g ↦ let never : true ≡ false = sym early ∙ uncut in cc
    ]

-- what is known where nothing is out
abbrev pub start_of : Exchange → List PutOrFlush → Start
start_of x marks = record {
  asked = x.answering.sending.asked;
  set_length = set_length_of x.answering.sending;
  before = written x;
  coming = coming_of x.answering.sending.waiting marks;
}

pub starts : (x : Exchange) (marks : List PutOrFlush) → x.answering.sending.commit ≡ None → length x.answering.sending.waiting ≤ content_buffer
    → Waits (start_of x marks) x.received marks x.answering
starts x marks given few = record { commit = given; few = few; asked = refl; set_length = refl; before = refl; coming = refl }

pub answers_are_whole : AnswersAreWhole
answers_are_whole head acts at x given few =
    let marks = marks_of head acts x in
    acts_whole head acts at (start_of x marks) x (starts x marks given few)
