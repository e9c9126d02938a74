-- What every list of calls delivers.
use Rattle.std.proofs.Common.{◌≡◌, ℕ, ◌-◌, ◌≤◌, Bool, true, false, List, [], ◌++◌, length, take, drop, refl, sym, ap, ◌∙◌, arith, cond, ltb}
use Rattle.std.specs.Prelude.{min, unwrap_or}
use Rattle.std.proofs.Math.Seq.{drop-append_seam, take-nil}
use Rattle.std.proofs.lemmas.Bool.{ltb-true}
use Rattle.std.proofs.lemmas.List.{take_min}
use Rattle.cy_event.specs.Bodies.{body_at, body_of, body_start, content_in, give_bytes, scan_bytes}
use Rattle.cy_event.specs.declared.framing.Framing.{Framing}
use Rattle.cy_event.specs.declared.body.BodyMark.{BodyMark}
use Rattle.cy_event.specs.declared.body.BodyStage.{BodyStage}
use Rattle.cy_event.specs.declared.body.BodyStage.TheVariants as stage
use Rattle.cy_in.specs.Courses.{Course, Delivers, IsReadOn, IsTaken, Turn, after_turns, begun, content_due, is_whole_body, scan_of, swallow_said}
use Rattle.cy_in.specs.Intakes.{ahead, content_read, has_content, is_whole, piece, waiting}
use Rattle.cy_in.specs.Scans.{scan_at}
use Rattle.cy_event.specs.declared.steps.Reply.TheVariants as reply
use Rattle.cy_in.proofs.Counting.{counts_bytes}
use Rattle.cy_in.proofs.Following.{Follows, Place, content_on, first_seen, follows_start, given_first, scan_on}
use Rattle.cy_in.proofs.FollowingReads.{Found, follows_turns, found, none_due}
use Rattle.cy_in.proofs.Gives.{given_is}

scan_of_at : (m : BodyMark) (c : List ℕ) (s : BodyStage) → scan_at m s ≡ scan_of (body_at m c s)
scan_of_at m c stage.Whole = refl
scan_of_at m c stage.Malformed = refl
scan_of_at m c stage.TooLong = refl
scan_of_at m c _ = refl

whole_of_at : (m : BodyMark) (c : List ℕ) (s : BodyStage) → is_whole s ≡ is_whole_body (body_at m c s)
whole_of_at m c stage.Whole = refl
whole_of_at m c stage.Malformed = refl
whole_of_at m c stage.TooLong = refl
whole_of_at m c _ = refl

-- ---- reads

-- the content that is due is what the bytes not taken hold
due_is : (max : ℕ) (f : Framing) (c : Course) → Place max f c →
    content_due max f c ≡ content_in max c.intake.taken (drop c.intake.taken.raw c.seen)
due_is max f c p = ap (drop (length c.given)) p.content ∙ drop-append_seam c.given _

piece_is : (max : ℕ) (f : Framing) (c : Course) (n : ℕ) (r : Follows max f c) (p : Place max f c) → 1 ≤ waiting c.intake →
    (piece n c.intake c.input).content ≡ take n (content_in max c.intake.taken (drop c.intake.taken.raw c.seen))
piece_is max f c n r p some =
    let taken : BodyMark = c.intake.taken in
    let old : List ℕ = drop taken.raw c.seen in
    let bytes : List ℕ = take (ahead c.intake) c.input in
    let e : Found max f c = found max f c r p in
    ap (λ (limit : ℕ). (give_bytes limit (min n (waiting c.intake)) taken bytes).content) (r.limit some)
    ∙ ((given_is max (min n (waiting c.intake)) taken bytes).content
    ∙ (ap (take (min n (waiting c.intake))) e.content
    ∙ (ap (λ (k : ℕ). take (min n k) (content_in max taken old)) e.waits ∙ take_min n (content_in max taken old))))

read_is : (max : ℕ) (f : Framing) (c : Course) (n : ℕ) (t : Bool) → Follows max f c → Place max f c → has_content c.intake ≡ t →
    cond t (piece n c.intake c.input).content [] ≡ take n (content_in max c.intake.taken (drop c.intake.taken.raw c.seen))
read_is max f c n true r p waits = piece_is max f c n r p (omega (arith, ltb-true 0 (waiting c.intake) waits))
read_is max f c n false r p waits = sym (ap (take n) (none_due max f c r p waits) ∙ take-nil n)

same_answer : (k k' : ℕ) (xs ys : List ℕ) (u u' : Bool) → k ≡ k' → xs ≡ ys → u ≡ u' →
    cond (ltb 0 k) (reply.Got (length xs)) (cond u reply.GotEnd reply.Again)
    ≡ cond (ltb 0 k') (reply.Got (length ys)) (cond u' reply.GotEnd reply.Again)
same_answer k k' xs ys u u' p q e = cc

read_on : (max : ℕ) (f : Framing) (c : Course) (n : ℕ) → Follows max f c → Place max f c → IsReadOn max f c n
read_on max f c n r p =
    let due = due_is max f c p in
    let m : BodyMark = scan_bytes max (body_start f) c.seen in
    let content : content_read n c.intake c.input ≡ take n (content_due max f c) =
    read_is max f c n (has_content c.intake) r p refl ∙ ap (take n) (sym due) in
    let ended : is_whole c.intake.scanned.stage ≡ is_whole_body (body_of max f c.seen) =
    ap (λ (x : BodyMark). is_whole x.stage) r.scanned ∙ whole_of_at m (content_in max (body_start f) c.seen) m.stage in
    record {
      content = content;
      answer = same_answer _ _ _ _ _ _ ((found max f c r p).waits ∙ ap length (sym due)) content ended;
    }

-- ---- what was taken

taken_is : (max : ℕ) (f : Framing) (c : Course) → Follows max f c → Place max f c → IsTaken max f c
taken_is max f c r p =
    let seen = first_seen max f c c.intake.taken.raw r (omega arith) in
    record {
      mark = p.start ∙ ap (scan_bytes max (body_start f)) (sym seen);
      content = ap (content_in max (body_start f)) seen ∙ given_first max f c p;
      fewest = λ going j less. omega (
        arith,
        p.fewest going j less,
        ap (λ (xs : List ℕ). length (content_in max (body_start f) xs)) (first_seen max f c j r (omega (arith, less))),
      );
    }

-- ---- the law

follows_delivers : (max : ℕ) (f : Framing) (c : Course) → Follows max f c → Delivers max f c
follows_delivers max f c r =
    let m : BodyMark = scan_bytes max (body_start f) c.came in
    let on : scan_bytes max c.intake.scanned (drop (ahead c.intake) c.input) ≡ m = scan_on max f c r in
    let from : ℕ = unwrap_or c.intake.swallowed_from c.intake.taken.raw in
    record {
      in_order = (r.later ++ content_in max (scan_bytes max (body_start f) c.seen) r.new, content_on max f c r);
      ring = r.ring;
      untouched = omega (
        arith,
        r.order,
        ap (λ (x : BodyMark). x.raw) on,
        (counts_bytes max c.intake.scanned (drop (ahead c.intake) c.input)).least,
      );
      taken = λ fresh. taken_is max f c r (r.place fresh);
      scans = ap (λ (x : BodyMark). scan_at x x.stage) on ∙ scan_of_at m (content_in max (body_start f) c.came) m.stage;
      swallows = λ most. record {
        taken = ap (λ (x : BodyMark). x.raw) on;
        answer = ap (λ (x : BodyMark). swallow_said most (x.raw - from) (scan_at x x.stage)) on
            ∙ ap (swallow_said most (m.raw - from)) (scan_of_at m (content_in max (body_start f) c.came) m.stage);
      };
      reads = λ fresh n. read_on max f c n r (r.place fresh);
    }

pub every_course : (max : ℕ) (f : Framing) (input : List ℕ) (turns : List Turn) → Delivers max f (after_turns max (begun f input) turns)
every_course max f input turns = follows_delivers max f (after_turns max (begun f input) turns) (follows_turns max f (begun f input) turns (follows_start max f input))
