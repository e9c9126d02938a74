-- What every list of calls keeps of a body: what follows from it, and that the start, new bytes and scans keep it.
use Rattle.std.proofs.Common.{◌≡◌, ℕ, ◌+◌, ◌-◌, ◌<◌, ◌≤◌, false, None, List, [], ◌++◌, length, take, drop, refl, sym, ap, ◌∙◌, arith, length-append, append_assoc, take-add}
use Rattle.std.proofs.lemmas.List.{append_cancel_right, drop-drop, drop-append-le, take-append-drop, take-append-le, take_at}
use Rattle.cy_event.specs.Bodies.{body_start, content_in, scan_bytes}
use Rattle.cy_event.specs.declared.framing.Framing.{Framing}
use Rattle.cy_event.specs.declared.body.BodyMark.{BodyMark}
use Rattle.cy_in.specs.Courses.{Course, begun, putting, scanning, swallowing}
use Rattle.cy_in.specs.Intakes.{after_scan, ahead, is_whole, waiting}
use Rattle.cy_in.proofs.Counting.{counts_bytes, resume_scan}
use Rattle.cy_in.proofs.Joins.{append_nil, content_join, scan_join}

-- The bytes that had come at the last scan lead from what was taken to what was scanned, and hold the content that is due.
-- The first of them lead to what was taken, and until that is the whole body fewer hold less than was delivered.
pub record Place (max : ℕ) (f : Framing) (c : Course) : Type 0 where
  pub scan : scan_bytes max c.intake.taken (drop c.intake.taken.raw c.seen) ≡ c.intake.scanned
  pub content : content_in max (body_start f) c.seen ≡ c.given ++ content_in max c.intake.taken (drop c.intake.taken.raw c.seen)
  pub start : c.intake.taken ≡ scan_bytes max (body_start f) (take c.intake.taken.raw c.seen)
  pub fewest : is_whole c.intake.taken.stage ≡ false →
      (j : ℕ) → j < c.intake.taken.raw → length (content_in max (body_start f) (take j c.seen)) < length c.given

pub record Follows (max : ℕ) (f : Framing) (c : Course) : Type 0 where
  pub new : List ℕ
  pub later : List ℕ
  pub ring : c.input ≡ drop c.intake.taken.raw c.came
  pub more : c.came ≡ c.seen ++ new
  pub scanned : c.intake.scanned ≡ scan_bytes max (body_start f) c.seen
  pub order : c.intake.taken.raw ≤ c.intake.scanned.raw
  pub content : content_in max (body_start f) c.seen ≡ c.given ++ later
  pub place : c.intake.swallowed_from ≡ None → Place max f c
  pub limit : 1 ≤ waiting c.intake → c.intake.max_trailer ≡ max

-- ---- what follows

pub drop_on : (i j : ℕ) (bytes : List ℕ) → i ≤ j → drop (j - i) (drop i bytes) ≡ drop j bytes
drop_on i j bytes less = let sum : i + (j - i) ≡ j = omega arith in drop-drop (j - i) i bytes ∙ ap (λ (n : ℕ). drop n bytes) sum

pub within_seen : (max : ℕ) (f : Framing) (c : Course) → Follows max f c → c.intake.scanned.raw ≤ length c.seen
within_seen max f c r =
    omega (arith, ap (λ (m : BodyMark). m.raw) r.scanned, (counts_bytes max (body_start f) c.seen).most)

-- a scan leads to the mark behind all bytes that came
pub scan_on : (max : ℕ) (f : Framing) (c : Course) → Follows max f c →
    scan_bytes max c.intake.scanned (drop (ahead c.intake) c.input) ≡ scan_bytes max (body_start f) c.came
scan_on max f c r =
    let m : BodyMark = c.intake.scanned in
    let rest : drop (ahead c.intake) c.input ≡ drop m.raw c.came =
    ap (drop (ahead c.intake)) r.ring ∙ drop_on c.intake.taken.raw m.raw c.came r.order in
    let front : take (length c.seen) c.came ≡ c.seen = ap (take (length c.seen)) r.more ∙ take_at c.seen r.new (length c.seen) refl in
    let mark : scan_bytes max (body_start f) (take (length c.seen) c.came) ≡ m = ap (scan_bytes max (body_start f)) front ∙ sym r.scanned in
    let all : m.raw - 0 ≡ m.raw = omega arith in
    ap (scan_bytes max m) rest
    ∙ sym (resume_scan max (body_start f) c.came (length c.seen)
    ∙ (ap (λ (x : BodyMark). scan_bytes max x (drop (x.raw - 0) c.came)) mark
    ∙ ap (λ (n : ℕ). scan_bytes max m (drop n c.came)) all))

-- the content that was delivered stands first in that of all bytes that came
pub content_on : (max : ℕ) (f : Framing) (c : Course) (r : Follows max f c) →
    content_in max (body_start f) c.came ≡ c.given ++ (r.later ++ content_in max (scan_bytes max (body_start f) c.seen) r.new)
content_on max f c r =
    ap (content_in max (body_start f)) r.more
    ∙ (content_join max (body_start f) c.seen r.new
    ∙ (ap (λ (xs : List ℕ). xs ++ content_in max (scan_bytes max (body_start f) c.seen) r.new) r.content
    ∙ append_assoc c.given r.later _))

-- ---- from the body's first byte to what was taken, and on

-- the bytes taken hold just what was delivered
pub given_first : (max : ℕ) (f : Framing) (c : Course) → Place max f c →
    content_in max (body_start f) (take c.intake.taken.raw c.seen) ≡ c.given
given_first max f c p =
    let raw : ℕ = c.intake.taken.raw in
    let first : List ℕ = content_in max (body_start f) (take raw c.seen) in
    let all : content_in max (body_start f) c.seen ≡ first ++ content_in max c.intake.taken (drop raw c.seen) =
    ap (content_in max (body_start f)) (sym (take-append-drop raw c.seen))
    ∙ (content_join max (body_start f) (take raw c.seen) (drop raw c.seen)
    ∙ ap (λ (m : BodyMark). first ++ content_in max m (drop raw c.seen)) (sym p.start)) in
    append_cancel_right first c.given (content_in max c.intake.taken (drop raw c.seen)) (sym all ∙ p.content)

pub start_on : (max : ℕ) (f : Framing) (c : Course) (n : ℕ) → Place max f c →
    scan_bytes max (body_start f) (take (c.intake.taken.raw + n) c.seen) ≡ scan_bytes max c.intake.taken (take n (drop c.intake.taken.raw c.seen))
start_on max f c n p =
    let raw : ℕ = c.intake.taken.raw in
    ap (scan_bytes max (body_start f)) (take-add raw n c.seen)
    ∙ (scan_join max (body_start f) (take raw c.seen) (take n (drop raw c.seen))
    ∙ ap (λ (m : BodyMark). scan_bytes max m (take n (drop raw c.seen))) (sym p.start))

pub given_on : (max : ℕ) (f : Framing) (c : Course) (n : ℕ) → Place max f c →
    content_in max (body_start f) (take (c.intake.taken.raw + n) c.seen) ≡ c.given ++ content_in max c.intake.taken (take n (drop c.intake.taken.raw c.seen))
given_on max f c n p =
    let raw : ℕ = c.intake.taken.raw in
    let more : List ℕ = take n (drop raw c.seen) in
    ap (content_in max (body_start f)) (take-add raw n c.seen)
    ∙ (content_join max (body_start f) (take raw c.seen) more
    ∙ (ap (λ (xs : List ℕ). xs ++ content_in max (scan_bytes max (body_start f) (take raw c.seen)) more) (given_first max f c p)
    ∙ ap (λ (m : BodyMark). c.given ++ content_in max m more) (sym p.start)))

-- bytes that come behind change nothing of the first ones
pub first_seen : (max : ℕ) (f : Framing) (c : Course) (n : ℕ) → Follows max f c → n ≤ c.intake.taken.raw → take n c.came ≡ take n c.seen
first_seen max f c n r few = ap (take n) r.more ∙ take-append-le n c.seen r.new (omega (arith, few, r.order, within_seen max f c r))

-- ---- the start, and bytes that come

pub follows_start : (max : ℕ) (f : Framing) (input : List ℕ) → Follows max f (begun f input)
follows_start max f input = record {
  new = input;
  later = [];
  ring = refl;
  more = refl;
  scanned = refl;
  order = omega arith;
  content = refl;
  place = λ fresh. record { scan = refl; content = refl; start = refl; fewest = λ going j less. absurd (omega arith) };
  limit = λ some. absurd (omega arith);
}

pub follows_put : (max : ℕ) (f : Framing) (c : Course) (bytes : List ℕ) → Follows max f c → Follows max f (putting c bytes)
follows_put max f c bytes r =
    let here : c.intake.taken.raw ≤ length c.came =
    omega (arith, r.order, within_seen max f c r, ap length r.more, length-append c.seen r.new) in
    record {
      new = r.new ++ bytes;
      later = r.later;
      ring = ap (λ (xs : List ℕ). xs ++ bytes) r.ring ∙ sym (drop-append-le c.intake.taken.raw c.came bytes here);
      more = ap (λ (xs : List ℕ). xs ++ bytes) r.more ∙ append_assoc c.seen r.new bytes;
      scanned = r.scanned;
      order = r.order;
      content = r.content;
      place = λ fresh. record {
        scan = (r.place fresh).scan;
        content = (r.place fresh).content;
        start = (r.place fresh).start;
        fewest = (r.place fresh).fewest;
      };
      limit = r.limit;
    }

-- ---- scans

-- what was taken leads on to all bytes that came
place_on : (max : ℕ) (f : Framing) (c : Course) (r : Follows max f c) → Place max f c → Place max f (scanning max c)
place_on max f c r p =
    let taken : BodyMark = c.intake.taken in
    let old : List ℕ = drop taken.raw c.seen in
    let here : taken.raw ≤ length c.seen = omega (arith, r.order, within_seen max f c r) in
    let rest : drop taken.raw c.came ≡ old ++ r.new = ap (drop taken.raw) r.more ∙ drop-append-le taken.raw c.seen r.new here in
    let start : scan_bytes max (body_start f) c.seen ≡ scan_bytes max taken old = sym (p.scan ∙ r.scanned) in
    record {
      scan = ap (scan_bytes max taken) rest
          ∙ (scan_join max taken old r.new
          ∙ (ap (λ (m : BodyMark). scan_bytes max m r.new) (sym start)
          ∙ (sym (scan_join max (body_start f) c.seen r.new)
          ∙ (ap (scan_bytes max (body_start f)) (sym r.more) ∙ sym (scan_on max f c r)))));
      content = ap (content_in max (body_start f)) r.more
          ∙ (content_join max (body_start f) c.seen r.new
          ∙ (ap (λ (xs : List ℕ). xs ++ content_in max (scan_bytes max (body_start f) c.seen) r.new) p.content
          ∙ (append_assoc c.given (content_in max taken old) _
          ∙ ap (λ (xs : List ℕ). c.given ++ xs)
          (ap (λ (m : BodyMark). content_in max taken old ++ content_in max m r.new) start
          ∙ (sym (content_join max taken old r.new) ∙ ap (content_in max taken) (sym rest))))));
      start = p.start ∙ ap (scan_bytes max (body_start f)) (sym (first_seen max f c taken.raw r (omega arith)));
      fewest = λ going j less. omega (
        arith,
        p.fewest going j less,
        ap (λ (xs : List ℕ). length (content_in max (body_start f) xs)) (first_seen max f c j r (omega (arith, less))),
      );
    }

scanned_later : (max : ℕ) (f : Framing) (c : Course) → Follows max f c → c.intake.scanned.raw ≤ (after_scan max c.intake c.input).scanned.raw
scanned_later max f c r = (counts_bytes max c.intake.scanned (drop (ahead c.intake) c.input)).least

pub follows_scan : (max : ℕ) (f : Framing) (c : Course) → Follows max f c → Follows max f (scanning max c)
follows_scan max f c r = record {
  new = [];
  later = r.later ++ content_in max (scan_bytes max (body_start f) c.seen) r.new;
  ring = r.ring;
  more = sym (append_nil c.came);
  scanned = scan_on max f c r;
  order = omega (arith, r.order, scanned_later max f c r);
  content = content_on max f c r;
  place = λ fresh. place_on max f c r (r.place fresh);
  limit = λ some. refl;
}

pub follows_swallow : (max : ℕ) (f : Framing) (c : Course) → Follows max f c → Follows max f (swallowing max c)
follows_swallow max f c r =
    let mark : BodyMark = (after_scan max c.intake c.input).scanned in
    record {
      new = [];
      later = r.later ++ content_in max (scan_bytes max (body_start f) c.seen) r.new;
      ring = ap (drop (mark.raw - c.intake.taken.raw)) r.ring
          ∙ drop_on c.intake.taken.raw mark.raw c.came (omega (arith, r.order, scanned_later max f c r));
      more = sym (append_nil c.came);
      scanned = scan_on max f c r;
      order = omega arith;
      content = content_on max f c r;
      place = λ fresh. cc;
      limit = λ some. absurd (omega arith);
    }
