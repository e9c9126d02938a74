-- After every write and flush the end of an answer finds room.
use Rattle.std.proofs.Common.{◌≡◌, ℕ, ◌+◌, ◌-◌, ◌^◌, ◌<◌, ◌≤◌, Bool, true, false, List, [], ◌∷◌, ◌++◌, length, codes, Option, Some, None, refl, ap, arith, length-append, length-drop}
use Rattle.std.specs.Prelude.{not, ◌&&◌, ◌||◌, decimal, if◌then◌else◌, option_map, unwrap_or}
use Rattle.std.proofs.lemmas.Bool.Decides.{nat_tests}
use Rattle.std.proofs.lemmas.Fmt.{length-decimal-le}
use Rattle.cy_event.specs.Answers.{Answer, Connection, close, connection_line, content_buffer, crlf, keep_alive, silent}
use Rattle.cy_event.specs.AnswerModes.{Mode, Shape, chunked, chunked_line, counted, has_no_content, head_of_shape, hex_text, last_text, length_line, piece_text, shape_of, until_close, void}
use Rattle.cy_event.specs.Answering.{Answering, Commit, Took, after_finish, can_cut, can_take, commit_by, cut, has_to_cut, is_committed, is_buffer_full, mode_in, more_by, output_limit, passes_length, push_byte, push_bytes, set_length_of, whole_length_of, with_bytes, with_head}
use Rattle.cy_respond.specs.Fields.{is_status}
use Rattle.cy_respond.proofs.HeadSizes.{head_size}
use Rattle.cy_respond.proofs.LineLemmas.{length_of_lines}
use Rattle.cy_out.specs.Exchanges.{Act, Exchange, after_act, after_acts, flushes, receives, writes}
use Rattle.cy_out.specs.Laws.{BeginningsFindRoom, FinishesFindRoom, IsKept, IsWithinLimits}
use Rattle.cy_out.specs.Kept.{CanFinish, head_room}
use Rattle.cy_out.proofs.ChunksWritten.{size_is_hex}
use Rattle.cy_out.proofs.ContentSent.{room_is}

-- ---- how long a head is

connection_size : (c : Connection) → length (connection_line c) ≤ 24
connection_size silent = omega arith
connection_size close = omega arith
connection_size keep_alive = omega arith

chunked_size : (in_chunks : Bool) → length (chunked_line in_chunks) ≤ 28
chunked_size true = omega arith
chunked_size false = omega arith

length_size : (n : Option ℕ) → unwrap_or n 0 < 2 ^ 64 → length (length_line n) ≤ 38
length_size None small = omega arith
length_size (Some n) small =
    let digits : length (decimal n) ≤ 20 = length-decimal-le 20 n (omega arith) (omega arith) small in
    let name = codes "Content-Length: " in
    omega (arith, length-append (name ++ decimal n) crlf, length-append name (decimal n))

pub status_size : (status : ℕ) → is_status status ≡ true → length (decimal status) ≤ 3
status_size status known =
    let small : status ≤ 599 = grind (arith, nat_tests) in
    length-decimal-le 3 status (omega arith) (omega arith) (omega arith)

head_fits : (head : Answer) (shape : Shape) (at : ℕ) → IsWithinLimits head → unwrap_or shape.told_length 0 < 2 ^ 64
    → length (head_of_shape head shape at) ≤ 7544
head_fits head shape at within small =
    omega (
      arith,
      head_size head shape at,
      status_size head.status within.status,
      length_of_lines head.fields,
      within.count,
      within.size,
      length-append (length_line shape.told_length) (chunked_line shape.in_chunks),
      length_size shape.told_length small,
      chunked_size shape.in_chunks,
      connection_size shape.connection,
    )

-- ---- how long a piece is

chunk_size : (b : ℕ) (bytes : List ℕ) → length (b ∷ bytes) ≤ content_buffer → length (piece_text chunked (b ∷ bytes)) ≤ 8200
chunk_size b bytes few =
    let piece = b ∷ bytes in
    let hex = hex_text (length piece) in
    let size = (size_is_hex (length piece) (omega arith)).few in
    omega (arith, length-append ((hex ++ crlf) ++ piece) crlf, length-append (hex ++ crlf) piece, length-append hex crlf)

piece_size : (mode : Mode) (bytes : List ℕ) → length bytes ≤ content_buffer → length (piece_text mode bytes) ≤ 8200
piece_size void bytes few = omega arith
piece_size counted bytes few = omega arith
piece_size chunked [] few = omega arith
piece_size chunked (b ∷ bytes) few = chunk_size b bytes few
piece_size until_close bytes few = omega arith

-- ---- cuts

-- with the head, unless it was out
record IsHeaded (a headed : Answering) : Type 0 where
  waiting : headed.sending.waiting ≡ a.sending.waiting
  left : headed.sending.left ≡ a.sending.left
  committed : is_committed headed.sending ≡ true
  within : length headed.output ≤ length a.output + 7544

told_fits : (none : Bool) (known : Option ℕ) → unwrap_or known 0 < 2 ^ 64 → unwrap_or (if none then None else known) 0 < 2 ^ 64
told_fits true known small = omega arith
told_fits false known small = small

is_headed : (head : Answer) (at : ℕ) (known : Option ℕ) (a : Answering) → IsWithinLimits head → unwrap_or known 0 < 2 ^ 64 → IsHeaded a (with_head head at known a)
is_headed head at known a within small =
    let text = head_of_shape head (shape_of a.sending.asked head.status known) at in
    let fits : length text ≤ 7544 = head_fits head (shape_of a.sending.asked head.status known) at within (told_fits (has_no_content head.status) known small) in
    let committed : Answering = record { sending = record a.sending { commit = Some (commit_by head known a.sending.asked) }; output = a.output ++ text } in
    elim a.sending.commit as (λ c. a.sending.commit ≡ c → IsHeaded a (elim c [ None ↦ committed | Some k ↦ a ])) [
      | None ↦ λ given. record { waiting = refl; left = refl; committed = refl; within = omega (arith, length-append a.output text) }
      | Some k ↦ λ given. record {
        waiting = refl;
        left = refl;
        within = omega arith;
        committed = ap (λ (c : Option Commit). elim c as (λ _. Bool) [ None ↦ false | Some m ↦ true ]) given;
      }
    ] refl

-- what is kept
pub record Fits (a : Answering) : Type 0 where
  pub kept : IsKept a.sending
  pub finish : CanFinish a

whole_is_small : (left : Option ℕ) (waiting : ℕ) → unwrap_or left 0 + waiting < 2 ^ 64 → unwrap_or (option_map (λ n. n + waiting) left) 0 < 2 ^ 64
whole_is_small None waiting small = omega arith
whole_is_small (Some l) waiting small = small

cut_fits : (head : Answer) (at : ℕ) (a : Answering) → IsWithinLimits head → IsKept a.sending → can_cut a.output ≡ true → Fits (cut head at a)
cut_fits head at a within kept room =
    let free : 24576 + length a.output ≤ 32768 = grind (arith, nat_tests) in
    let known = set_length_of a.sending in
    let headed = with_head head at known a in
    let h = is_headed head at known a within (whole_is_small a.sending.left (length a.sending.waiting) kept.set_length) in
    let waiting : length headed.sending.waiting ≡ length a.sending.waiting = ap length h.waiting in
    let piece = piece_text (mode_in headed.sending) headed.sending.waiting in
    let size = piece_size (mode_in headed.sending) headed.sending.waiting (omega (arith, waiting, kept.few)) in
    let no_head : head_room (cut head at a).sending ≡ 0 = ap (λ (t : Bool). if t then 0 else 7544) h.committed in
    let left : unwrap_or headed.sending.left 0 ≡ unwrap_or a.sending.left 0 = ap (λ (o : Option ℕ). unwrap_or o 0) h.left in
    record {
      kept = record { few = omega arith; set_length = omega (arith, left, kept.set_length) };
      finish = record { room = omega (arith, length-append headed.output piece, size, h.within, no_head) };
    }

-- ---- writes

room_to_cut : (full room : Bool) → not full || room ≡ true → full ≡ true → room ≡ true
room_to_cut full true takes is = refl
room_to_cut true false takes is = cc
room_to_cut false false takes is = cc

byte_is_small : (left : Option ℕ) (b : ℕ) (waiting : List ℕ) → length waiting < content_buffer → unwrap_or left 0 + length waiting < 2 ^ 64
    → unwrap_or (option_map (λ n. n - 1) left) 0 + length (waiting ++ b ∷ []) < 2 ^ 64
byte_is_small None b waiting room small = omega (arith, length-append waiting (b ∷ []))
byte_is_small (Some l) b waiting room small = omega (arith, length-append waiting (b ∷ []))

joined_fits : (b : ℕ) (a : Answering) → length a.sending.waiting < content_buffer → Fits a → Fits (record a { sending = with_bytes (b ∷ []) a.sending })
joined_fits b a room f =
    record {
      kept = record {
        few = omega (arith, length-append a.sending.waiting (b ∷ []));
        set_length = byte_is_small a.sending.left b a.sending.waiting room f.kept.set_length;
      };
      finish = record { room = f.finish.room };
    }

byte_fits : (head : Answer) (at b : ℕ) (a : Answering) → IsWithinLimits head → can_take a ≡ true → Fits a → Fits (push_byte head at b a)
byte_fits head at b a within takes f =
    elim (is_buffer_full a.sending) as (λ v. is_buffer_full a.sending ≡ v
    → (let r : Answering = elim v [ true ↦ cut head at a | false ↦ a ] in Fits (record r { sending = with_bytes (b ∷ []) r.sending }))) [
      | true ↦ λ full. joined_fits b (cut head at a) (omega arith) (cut_fits head at a within f.kept (room_to_cut (is_buffer_full a.sending) (can_cut a.output) takes full))
      | false ↦ λ room. joined_fits b a (room_is a.sending room) f
    ] refl

push_fits : (head : Answer) (at : ℕ) (more : List ℕ) (a : Answering) → IsWithinLimits head → Fits a → Fits (push_bytes head at more a).after
push_fits head at [] a within f = f
push_fits head at (b ∷ more) a within f =
    elim (can_take a) as (λ v. can_take a ≡ v → (let t : Took = elim v [ true ↦ more_by 1 (push_bytes head at more (push_byte head at b a)) | false ↦ record { count = 0; after = a } ] in Fits t.after)) [
      | true ↦ λ takes. push_fits head at more (push_byte head at b a) within (byte_fits head at b a within takes f)
      | false ↦ λ stuck. f
    ] refl

-- ---- acts

flushed_is_cut : (some room : Bool) → some && room ≡ true → room ≡ true
flushed_is_cut true room both = both
flushed_is_cut false room both = cc

pub act_fits : (head : Answer) (act : Act) (x : Exchange) → IsWithinLimits head → Fits x.answering → Fits (after_act head act x).answering
act_fits head (writes more at) x within f =
    let a = x.answering in
    elim (passes_length a.sending (length more)) as (λ v. Fits (if v then a else (push_bytes head at more a).after)) [
      | true ↦ f
      | false ↦ push_fits head at more a within f
    ]
act_fits head (flushes at) x within f =
    let a = x.answering in
    elim (has_to_cut a.sending && can_cut a.output) as (λ v. has_to_cut a.sending && can_cut a.output ≡ v → Fits (if v then cut head at a else a)) [
      | true ↦ λ cuts. cut_fits head at a within f.kept (flushed_is_cut (has_to_cut a.sending) (can_cut a.output) cuts)
      | false ↦ λ idle. f
    ] refl
act_fits head (receives n) x within f =
    record { kept = f.kept; finish = record { room = omega (arith, f.finish.room, length-drop n x.answering.output) } }

acts_fit : (head : Answer) (acts : List Act) (x : Exchange) → IsWithinLimits head → Fits x.answering → Fits (after_acts head acts x).answering
acts_fit head [] x within f = f
acts_fit head (act ∷ acts) x within f = acts_fit head acts (after_act head act x) within (act_fits head act x within f)

-- ---- the end

-- a head that is out takes no room
headed_within : (head : Answer) (at : ℕ) (known : Option ℕ) (a : Answering) → IsWithinLimits head → unwrap_or known 0 < 2 ^ 64
    → length (with_head head at known a).output ≤ length a.output + head_room a.sending
headed_within head at known a within small =
    let text = head_of_shape head (shape_of a.sending.asked head.status known) at in
    let fits : length text ≤ 7544 = head_fits head (shape_of a.sending.asked head.status known) at within (told_fits (has_no_content head.status) known small) in
    let committed : Answering = record { sending = record a.sending { commit = Some (commit_by head known a.sending.asked) }; output = a.output ++ text } in
    elim a.sending.commit as (λ c. length (elim c as (λ _. Answering) [ None ↦ committed | Some k ↦ a ]).output
    ≤ length a.output + (if (elim c as (λ _. Bool) [ None ↦ false | Some k ↦ true ]) then 0 else 7544)) [
      | None ↦ omega (arith, length-append a.output text)
      | Some k ↦ omega arith
    ]

last_size : (mode : Mode) → length (last_text mode) ≤ 5
last_size void = omega arith
last_size counted = omega arith
last_size chunked = omega arith
last_size until_close = omega arith

whole_is_kept : (left : Option ℕ) (waiting : ℕ) → unwrap_or left 0 + waiting < 2 ^ 64 → unwrap_or (option_map (λ n. n + waiting) left) waiting < 2 ^ 64
whole_is_kept None waiting small = omega arith
whole_is_kept (Some l) waiting small = small

pub finish_fits : (head : Answer) (at : ℕ) (a : Answering) → IsWithinLimits head → Fits a → length (after_finish head at a).output ≤ output_limit
finish_fits head at a within f =
    let known : Option ℕ = Some (whole_length_of a.sending) in
    let small : unwrap_or known 0 < 2 ^ 64 = whole_is_kept a.sending.left (length a.sending.waiting) f.kept.set_length in
    let headed = with_head head at known a in
    let waiting : length headed.sending.waiting ≡ length a.sending.waiting = ap length (is_headed head at known a within small).waiting in
    let piece = piece_text (mode_in headed.sending) headed.sending.waiting in
    let size = piece_size (mode_in headed.sending) headed.sending.waiting (omega (arith, waiting, f.kept.few)) in
    let last = last_text (mode_in headed.sending) in
    omega (
      arith,
      length-append (headed.output ++ piece) last,
      length-append headed.output piece,
      headed_within head at known a within small,
      size,
      last_size (mode_in headed.sending),
      f.finish.room,
    )

pub finishes_find_room : FinishesFindRoom
finishes_find_room head acts x within kept finish =
    let f = acts_fit head acts x within (record { kept = kept; finish = finish }) in
    record { can_finish = f.finish; fits = λ at. finish_fits head at (after_acts head acts x).answering within f }

pub beginnings_find_room : BeginningsFindRoom
beginnings_find_room asked output few = record { room = omega (arith, few) }
