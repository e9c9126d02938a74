-- Laws of answers. Each is the contract of a public function without a body.
use Rattle.std.specs.Prelude.{◌≡◌, ◌↔◌, ℕ, ◌+◌, ◌^◌, ◌<◌, ◌≤◌, ◌||◌, nat_lt, if◌then◌else◌, Bool, true, false, List, [], ◌∷◌, ◌++◌, length, take, Option, None, Some, is_none, unwrap_or}
use Rattle.std.specs.List.{All, concat, list_all}
use Rattle.cy_event.specs.Answers.{Answer, Connection, answer_text, close, content_buffer, continue_text, head_of_answer, head_text, keep_alive, silent, takes}
use Rattle.cy_event.specs.AnswerModes.{Asked, Mode, Shape, chunked, connection_of, counted, framing_lines, has_no_content, head_of_shape, mode_of, shape_of, until_close, void}
use Rattle.cy_event.specs.Answering.{Answering, Sending, after_finish, beginning, can_cut, commit_by, cut_room, is_buffer_full, is_short, length_reply, output_limit, passes_length, push_byte, push_bytes, set_length_of}
use Rattle.cy_event.specs.AnswerBytes.{answer_bytes, bytes_so_far, content_text, known_length}
use Rattle.cy_event.specs.BodyGrammar.{IsBody}
use Rattle.cy_event.specs.Heads.{front_length}
use Rattle.cy_event.specs.declared.framing.Framing.TheVariants as framing
use Rattle.cy_event.specs.declared.steps.Reply.TheVariants as reply
use Rattle.cy_respond.specs.Fields.{field_size, is_status, may_stand}
use Rattle.cy_respond.specs.declared.head.TheConstants.{FIELD_LIMIT, FIELD_SIZE_LIMIT}
use Rattle.cy_out.specs.Calls.{Call, UnderWay, aborts, after_call, after_calls, begun, changes, sending, sets_close, sets_length}
use Rattle.cy_out.specs.Exchanges.{Act, Exchange, after_acts, finished, head_moment, is_out, marks_of, written}
use Rattle.cy_event.specs.Pieces.{EndsAt, IsCut, IsPiece, PutOrFlush, content_put, cut_pieces, is_cut_early, pieces_behind, runs_behind}
use Rattle.cy_out.specs.Kept.{CanFinish}

-- ---- what is taken

-- each cut that these bytes bring finds room
abbrev pub CutsFindRoom : Answer → ℕ → List ℕ → Answering → Type 0
CutsFindRoom head at [] a = Unit {0}
CutsFindRoom head at (b ∷ bytes) a =
    (is_buffer_full a.sending ≡ true → cut_room + length a.output ≤ output_limit) × CutsFindRoom head at bytes (push_byte head at b a)

-- the count is that of the longest front whose cuts find room
pub record IsGreatest (head : Answer) (at : ℕ) (bytes : List ℕ) (a : Answering) (count : ℕ) : Type 0 where
  pub within : count ≤ length bytes
  pub taken : CutsFindRoom head at (take count bytes) a
  pub greatest : (n : ℕ) → n ≤ length bytes → CutsFindRoom head at (take n bytes) a → n ≤ count

abbrev pub WritesTakeTheMost : Type 0
WritesTakeTheMost = (head : Answer) (at : ℕ) (bytes : List ℕ) (a : Answering) → IsGreatest head at bytes a (push_bytes head at bytes a).count

-- ---- what the head says

-- nothing frames the content of an answer that has none
pub record IsUnframed (asked : Asked) (status : ℕ) (n : Option ℕ) : Type 0 where
  pub told_length : (shape_of asked status n).told_length ≡ None
  pub in_chunks : (shape_of asked status n).in_chunks ≡ false

abbrev pub NoContentIsUnframed : Type 0
NoContentIsUnframed = (asked : Asked) (status : ℕ) (n : Option ℕ) → has_no_content status ≡ true → IsUnframed asked status n

-- ---- pieces

-- The pieces, one after another, are the content.
abbrev pub PiecesAreTheContent : Type 0
PiecesAreTheContent = (run : List ℕ) (marks : List PutOrFlush) → concat (pieces_behind run marks) ≡ run ++ content_put marks

-- No piece is empty, and none is longer than what waits at most.
abbrev pub PiecesHaveBytes : Type 0
PiecesHaveBytes = (run : List ℕ) (marks : List PutOrFlush) → All IsPiece (pieces_behind run marks)

-- They end where the content is cut: at flushes, at its end, and at positive multiples of 8,192 bytes since the last
-- flush behind which a further byte was put.
abbrev pub PiecesEndAtCuts : Type 0
PiecesEndAtCuts = (run : List ℕ) (marks : List PutOrFlush) (place : ℕ) → EndsAt (pieces_behind run marks) place ↔ IsCut (runs_behind run marks) place

-- Behind a head that is out the pieces follow, and what ends the content.
abbrev pub PiecesFollowTheHead : Type 0
PiecesFollowTheHead =
    (head : Answer) (acts : List Act) (at : ℕ) (mode : Mode) (closes : Bool) (x : Exchange)
    → x.answering.sending.commit ≡ Some (record { mode = mode; closes = closes })
    → length x.answering.sending.waiting ≤ content_buffer
    → written (finished head at (after_acts head acts x))
    ≡ written x ++ content_text mode (pieces_behind x.answering.sending.waiting (marks_of head acts x))

-- ---- whole answers

-- the length that the head of this answer knows, of which nothing is out
abbrev pub head_length : Answer → List Act → Exchange → Option ℕ
head_length head acts x =
    let s = x.answering.sending in
    let marks = marks_of head acts x in
    known_length (is_cut_early s.waiting marks) (set_length_of s) (length (s.waiting ++ content_put marks))

-- An answer of which nothing is out becomes a whole one, whatever is written, flushed and taken by the client.
abbrev pub AnswersAreWhole : Type 0
AnswersAreWhole =
    (head : Answer) (acts : List Act) (at : ℕ) (x : Exchange) → x.answering.sending.commit ≡ None
    → length x.answering.sending.waiting ≤ content_buffer
    → written (finished head at (after_acts head acts x))
    ≡ written x
    ++ answer_bytes head x.answering.sending.asked (head_length head acts x) (head_moment head acts at x)
    (pieces_behind x.answering.sending.waiting (marks_of head acts x))

-- ---- all calls

-- the length that the head knows of an answer under way, if no more is put
abbrev pub length_under_way : UnderWay → Option ℕ
length_under_way u = known_length (is_cut_early [] u.marks) u.set_length (length (content_put u.marks))

-- its bytes, if no more is put and its end is at this moment
abbrev pub bytes_under_way : ℕ → UnderWay → List ℕ
bytes_under_way at u = answer_bytes u.head (sending u).asked (length_under_way u) (unwrap_or u.moment at) (pieces_behind [] u.marks)

-- Behind what stood before there is nothing of an answer before its first cut, and in the end the whole of it. Of one
-- that was given up there is a front.
pub record IsOneAnswer (before : List ℕ) (at : ℕ) (u : UnderWay) : Type 0 where
  pub unsent : is_out u.exchange ≡ false → written u.exchange ≡ before
  pub whole : u.is_given_up ≡ false → written (finished u.head at u.exchange) ≡ before ++ bytes_under_way at u
  pub rest : List ℕ
  pub front : written (finished u.head at u.exchange) ++ rest ≡ before ++ bytes_under_way at u

-- Whatever is called from the beginning of a request to its end, one answer is written: the head as it was at the first
-- cut or else at the end, and the content that was put since the last reset or error.
abbrev pub AllCallsMakeOneAnswer : Type 0
AllCallsMakeOneAnswer =
    (asked : Asked) (received output : List ℕ) (calls : List Call) (at : ℕ)
    → IsOneAnswer (received ++ output) at (after_calls calls (begun asked received output))

-- what of it is written already, where its head is out: the head, and what was cut
abbrev pub so_far_under_way : ℕ → UnderWay → List ℕ
so_far_under_way at u =
    bytes_so_far u.head (sending u).asked (length_under_way u) (unwrap_or u.moment at) (cut_pieces [] u.marks)

-- Whatever is called, from the first cut on all is written that was cut, and no more: the rest of the content waits.
abbrev pub AllCallsWriteWhatIsCut : Type 0
AllCallsWriteWhatIsCut =
    (asked : Asked) (received output : List ℕ) (calls : List Call) (at : ℕ)
    → (let u = after_calls calls (begun asked received output) in
    is_out u.exchange ≡ true → u.is_given_up ≡ false → written u.exchange ≡ (received ++ output) ++ so_far_under_way at u)

-- Where an answer is given up whose head is out, nothing more is written for it, whatever is called then, by its end
-- either.
abbrev pub AbortedGainsNothing : Type 0
AbortedGainsNothing =
    (calls : List Call) (at : ℕ) (u : UnderWay) → is_out u.exchange ≡ true
    → (let last = after_calls calls (after_call aborts u) in written (finished last.head at last.exchange) ≡ written u.exchange)

-- ---- the length that was set

-- so many bytes are more than this length, where one was set
abbrev pub is_above : Option ℕ → ℕ → Bool
is_above None n = false
is_above (Some set_length) n = nat_lt set_length n

-- so many bytes are fewer than this length, where one was set
abbrev pub is_below : Option ℕ → ℕ → Bool
is_below None n = false
is_below (Some set_length) n = nat_lt n set_length

-- A write of so many bytes is refused where it would pass the length that was set, and a length where it is below what was
-- put. An end is short where less was put than was set, and content is sent.
pub record GoesByTheLength (u : UnderWay) : Type 0 where
  pub writes : (size : ℕ) → passes_length (sending u) size ≡ is_above u.set_length (length (content_put u.marks) + size)
  pub lengths : is_out u.exchange ≡ false → (n : ℕ)
      → length_reply n (sending u) ≡ if nat_lt n (length (content_put u.marks)) then reply.BadValue else reply.Done
  pub counted_end : is_short counted (sending u).left ≡ is_below u.set_length (length (content_put u.marks))
  pub void_end : is_short void (sending u).left ≡ false

-- Whatever is called, what counts is the length that was set last, and what was put since the last reset or error.
abbrev pub AllCallsGoByTheLength : Type 0
AllCallsGoByTheLength =
    (asked : Asked) (received output : List ℕ) (calls : List Call)
    → (let u = after_calls calls (begun asked received output) in u.is_given_up ≡ false → GoesByTheLength u)

-- ---- the request

-- not `set_close`
abbrev pub IsNoClose : Call → Type 0
IsNoClose sets_close = ⊥
IsNoClose call = Unit {0}

-- What is known of the request stays, whatever is called, but that `set_close` gives its connection up: before the head
-- is out, and not behind it.
pub record RequestsAreKept : Type 0 where
  pub kept : (calls : List Call) (u : UnderWay) → All IsNoClose calls → (sending (after_calls calls u)).asked ≡ (sending u).asked
  pub close : (u : UnderWay) → is_out u.exchange ≡ false → (sending (after_call sets_close u)).asked ≡ record (sending u).asked { keep = false }
  pub late : (u : UnderWay) → is_out u.exchange ≡ true → sending (after_call sets_close u) ≡ sending u

-- ---- answers of which nothing is cut before their end

-- The answer's own words say the bytes. A status without content has nothing that frames it, and HEAD gets the head alone.
abbrev pub uncut_text : Asked → Answer → ℕ → List ℕ
uncut_text asked a at =
    let connection = connection_of asked counted in
    if has_no_content a.status then head_text a [] at connection
    else (if asked.is_head then head_of_answer a at connection else answer_text a at connection)

-- Where at most 8,192 bytes are put in all and there is no flush, the answer that they make is written at its end.
abbrev pub UncutAnswersAreOneText : Type 0
UncutAnswersAreOneText =
    (head : Answer) (acts : List Act) (at : ℕ) (x : Exchange) → x.answering.sending.commit ≡ None
    → length x.answering.sending.waiting ≤ content_buffer
    → is_cut_early x.answering.sending.waiting (marks_of head acts x) ≡ false
    → written (finished head at (after_acts head acts x))
    ≡ written x
    ++ uncut_text x.answering.sending.asked (record head {
      set_length = set_length_of x.answering.sending;
      content = x.answering.sending.waiting ++ content_put (marks_of head acts x);
    }) at

-- Where no cut finds room, a write takes what the buffer has room for.
abbrev pub WritesFillTheBuffer : Type 0
WritesFillTheBuffer =
    (head : Answer) (at : ℕ) (bytes : List ℕ) (a : Answering) → can_cut a.output ≡ false
    → (push_bytes head at bytes a).count ≡ takes (length a.sending.waiting) (length bytes)

-- ---- HEAD

-- the same exchange, whose request is a HEAD or isn't
abbrev pub asked_by : Bool → Exchange → Exchange
asked_by is_head x = record x {
  answering = record x.answering {
    sending = record x.answering.sending { asked = record x.answering.sending.asked { is_head = is_head } };
  };
}

-- the fields that frame the content, in the head of this answer, of which nothing is out
abbrev pub framing_of : Answer → List Act → Exchange → List ℕ
framing_of head acts x =
    let shape = shape_of x.answering.sending.asked head.status (head_length head acts x) in
    framing_lines shape.told_length shape.in_chunks

-- with HEAD and without, the heads have the same fields that frame content, and are of the same moment
pub record FramesAlike (head : Answer) (acts : List Act) (at : ℕ) (x : Exchange) : Type 0 where
  pub framing : framing_of head acts (asked_by true x) ≡ framing_of head acts (asked_by false x)
  pub moment : head_moment head acts at (asked_by true x) ≡ head_moment head acts at (asked_by false x)

-- Where the same is written, flushed and taken by the client, a HEAD gets the head that a GET would get, but for what
-- it says of the connection.
abbrev pub HeadIsFramedAsGet : Type 0
HeadIsFramedAsGet =
    (head : Answer) (acts : List Act) (at : ℕ) (x : Exchange) → x.answering.sending.commit ≡ None
    → length x.answering.sending.waiting ≤ content_buffer
    → FramesAlike head acts at x

-- the fields that frame the content, in the head of an answer under way, if no more is put
abbrev pub framing_under_way : UnderWay → List ℕ
framing_under_way u =
    let shape = shape_of (sending u).asked u.head.status (length_under_way u) in framing_lines shape.told_length shape.in_chunks

-- two answers under way have the same head, with the same fields that frame content, and it is out or not, of the same moment
pub record AreFramedAlike (h g : UnderWay) : Type 0 where
  pub framing : framing_under_way h ≡ framing_under_way g
  pub head : h.head ≡ g.head
  pub out : is_out h.exchange ≡ is_out g.exchange
  pub moment : h.moment ≡ g.moment

-- So it is after any calls: where the same is called, a HEAD gets the head that a GET would get, but for what it says of
-- the connection.
abbrev pub AllCallsFrameAlike : Type 0
AllCallsFrameAlike =
    (asked : Asked) (received output : List ℕ) (calls : List Call)
    → AreFramedAlike (after_calls calls (begun (record asked { is_head = true }) received output))
    (after_calls calls (begun (record asked { is_head = false }) received output))

-- ---- what a client reads

-- what follows a head in this mode, which knows this length, is this content, by the grammar of bodies
abbrev pub IsFramed : Mode → Option ℕ → List ℕ → List ℕ → Type 0
IsFramed void known body content = body ≡ []
IsFramed counted known body content = (n : ℕ) × (known ≡ Some n) × IsBody 2 (framing.Length n) body content
IsFramed chunked known body content = IsBody 2 framing.Chunked body content
IsFramed until_close known body content = body ≡ content

-- these bytes are a head that knows this length and is of this moment, and this content
pub record IsRead (head : Answer) (asked : Asked) (known : Option ℕ) (moment : ℕ) (content bytes : List ℕ) : Type 0 where
  pub body : List ℕ
  pub bytes_are : bytes ≡ head_of_shape head (shape_of asked head.status known) moment ++ body
  pub framed : IsFramed (mode_of asked head.status known) known body content

-- Where all of a length that was set was put, a client reads what was put, and nothing else.
abbrev pub ClientsReadTheContent : Type 0
ClientsReadTheContent =
    (head : Answer) (acts : List Act) (at : ℕ) (x : Exchange) → x.answering.sending.commit ≡ None
    → length x.answering.sending.waiting ≤ content_buffer
    → unwrap_or (after_acts head acts x).answering.sending.left 0 ≡ 0
    → (bytes : List ℕ) × (written (finished head at (after_acts head acts x)) ≡ written x ++ bytes)
    × IsRead head x.answering.sending.asked (head_length head acts x) (head_moment head acts at x)
    (x.answering.sending.waiting ++ content_put (marks_of head acts x)) bytes

-- So it is after any calls: where all of a length that was set was put, a client reads what was put since the last reset
-- or error, and nothing else.
abbrev pub AllCallsAreRead : Type 0
AllCallsAreRead =
    (asked : Asked) (received output : List ℕ) (calls : List Call) (at : ℕ)
    → (let u = after_calls calls (begun asked received output) in
    u.is_given_up ≡ false → is_below u.set_length (length (content_put u.marks)) ≡ false
    → IsRead u.head (sending u).asked (length_under_way u) (unwrap_or u.moment at) (content_put u.marks) (bytes_under_way at u))

-- How a client reads what follows a head of this shape and this status, if its request was a HEAD or wasn't (RFC 9112,
-- section 6.3).
abbrev pub reading_of : Bool → ℕ → Shape → Mode
reading_of is_head status shape =
    if is_head || has_no_content status then void
    else (if shape.in_chunks then chunked else (if is_none shape.told_length then until_close else counted))

-- a client that goes by the head reads in the mode in which content is sent, by its length, and to the end that it says
pub record IsSaid (asked : Asked) (status : ℕ) (n : Option ℕ) : Type 0 where
  pub mode : reading_of asked.is_head status (shape_of asked status n) ≡ mode_of asked status n
  pub told_length : mode_of asked status n ≡ counted → (shape_of asked status n).told_length ≡ n
  pub connection : mode_of asked status n ≡ until_close → (shape_of asked status n).connection ≡ close

abbrev pub HeadsSayTheMode : Type 0
HeadsSayTheMode = (asked : Asked) (status : ℕ) (n : Option ℕ) → IsSaid asked status n

abbrev pub says_close : Connection → Bool
says_close silent = false
says_close close = true
says_close keep_alive = false

-- What is kept of a head that went out, and told at the end, is what it says: that the connection closes, or not.
abbrev pub ClosesAreSaid : Type 0
ClosesAreSaid = (head : Answer) (n : Option ℕ) (asked : Asked) → (commit_by head n asked).closes ≡ says_close (shape_of asked head.status n).connection

-- ---- room

-- a head with a status and fields that a component may set
pub record IsWithinLimits (head : Answer) : Type 0 where
  pub status : is_status head.status ≡ true
  pub count : length head.fields ≤ FIELD_LIMIT
  pub size : field_size head.fields ≤ FIELD_SIZE_LIMIT

-- what a `BodyOut` keeps: no more waits than may, and a length that was set is a number of 64 bits
pub record IsKept (s : Sending) : Type 0 where
  pub few : length s.waiting ≤ content_buffer
  pub set_length : unwrap_or s.left 0 + length s.waiting < 2 ^ 64

-- an end finds room, and fits
pub record FindsRoom (head : Answer) (a : Answering) : Type 0 where
  pub can_finish : CanFinish a
  pub fits : (at : ℕ) → length (after_finish head at a).output ≤ output_limit

-- An answer that can be finished where it begins can be finished after any writes and flushes.
abbrev pub FinishesFindRoom : Type 0
FinishesFindRoom =
    (head : Answer) (acts : List Act) (x : Exchange) → IsWithinLimits head → IsKept x.answering.sending → CanFinish x.answering
    → FindsRoom head (after_acts head acts x).answering

-- An answer can be finished where it begins, if at most 16,000 bytes and what tells the client to go on wait for it.
abbrev pub BeginningsFindRoom : Type 0
BeginningsFindRoom =
    (asked : Asked) (output : List ℕ) → length output ≤ 16000 + length continue_text → CanFinish (record { sending = beginning asked; output = output })

-- a length that is set is a number of 64 bits
abbrev pub IsWithinWords : Call → Type 0
IsWithinWords (changes (sets_length n)) = n < 2 ^ 64
IsWithinWords call = Unit {0}

-- So whatever is called: where at most as many bytes wait as an answer begins, its end finds room, and fits.
abbrev pub AllCallsFindRoom : Type 0
AllCallsFindRoom =
    (asked : Asked) (received output : List ℕ) (calls : List Call) → length output ≤ 16000 + length continue_text → All IsWithinWords calls
    → (let u = after_calls calls (begun asked received output) in FindsRoom u.head u.exchange.answering)

-- ---- heads

-- A head with what a component may set. Whatever content follows, its first empty line is its end.
pub record MayBeSet (head : Answer) : Type 0 where
  pub within : IsWithinLimits head
  pub fields : list_all may_stand head.fields ≡ true
  pub end : (shape : Shape) (at : ℕ) (content : List ℕ) → front_length (head_of_shape head shape at ++ content) ≡ Some (length (head_of_shape head shape at))

-- Whatever is called, the head is one.
abbrev pub AllCallsKeepTheHead : Type 0
AllCallsKeepTheHead =
    (asked : Asked) (received output : List ℕ) (calls : List Call) → MayBeSet (after_calls calls (begun asked received output)).head
