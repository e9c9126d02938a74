-- Reads keep what every list of calls keeps of a body, and so does every such list.
use Rattle.std.proofs.Common.{◌≡◌, ℕ, ◌+◌, ◌-◌, ◌<◌, ◌≤◌, Bool, true, false, Option, Some, None, List, [], ◌∷◌, ◌++◌, length, take, drop, refl, sym, ap, ◌∙◌, subst, arith, cond, ltb, length-append, length-drop, append_assoc}
use Rattle.std.specs.Prelude.{min}
use Rattle.std.proofs.lemmas.Bool.{ltb-true, ltb-false}
use Rattle.std.proofs.lemmas.List.{drop-append-le, length-take, nil_from_length, take-append-le, take-take}
use Rattle.cy_event.specs.Bodies.{Given, body_start, content_in, give_bytes, is_bad, is_over, scan_bytes}
use Rattle.cy_event.specs.declared.framing.Framing.{Framing}
use Rattle.cy_event.specs.declared.body.BodyMark.{BodyMark}
use Rattle.cy_event.specs.declared.body.BodyStage.{BodyStage}
use Rattle.cy_event.specs.declared.body.BodyStage.TheVariants as stage
use Rattle.cy_in.specs.Courses.{Course, Turn, after_turn, after_turns, put_in, read_into, reading_at, scan_all, swallow_all}
use Rattle.cy_in.specs.Intakes.{Intake, ahead, has_content, is_whole, piece, taken_by, waiting}
use Rattle.cy_in.specs.Laws.{IsGiven}
use Rattle.cy_in.proofs.Choices.{never_both, tested}
use Rattle.cy_in.proofs.Counting.{all_belong, content_counted, counts_bytes, held_within, resume_content, resume_scan, scan_within}
use Rattle.cy_in.proofs.Gives.{given_is}
use Rattle.cy_in.proofs.Joins.{append_nil, over_content, over_scan}
use Rattle.cy_in.proofs.Following.{Place, Follows, drop_on, within_seen, start_on, given_on, follows_put, follows_scan, follows_swallow}

-- ---- reads

-- what a read finds: the bytes that were scanned and not taken
pub record Found (max : ℕ) (f : Framing) (c : Course) : Type 0 where
  pub bytes : take (ahead c.intake) c.input ≡ take (ahead c.intake) (drop c.intake.taken.raw c.seen)
  pub content : content_in max c.intake.taken (take (ahead c.intake) c.input) ≡ content_in max c.intake.taken (drop c.intake.taken.raw c.seen)
  pub waits : waiting c.intake ≡ length (content_in max c.intake.taken (drop c.intake.taken.raw c.seen))

pub found : (max : ℕ) (f : Framing) (c : Course) → Follows max f c → Place max f c → Found max f c
found max f c r p =
    let taken : BodyMark = c.intake.taken in
    let old : List ℕ = drop taken.raw c.seen in
    let seen = within_seen max f c r in
    let here : taken.raw ≤ length c.seen = omega (arith, r.order, seen) in
    let few : ahead c.intake ≤ length old = omega (arith, length-drop taken.raw c.seen, seen) in
    let bytes : take (ahead c.intake) c.input ≡ take (ahead c.intake) old =
    ap (take (ahead c.intake)) (r.ring ∙ (ap (drop taken.raw) r.more ∙ drop-append-le taken.raw c.seen r.new here))
    ∙ take-append-le (ahead c.intake) old r.new few in
    let raw : (scan_bytes max taken old).raw - taken.raw ≡ ahead c.intake = ap (λ (m : BodyMark). m.raw - taken.raw) p.scan in
    record {
      bytes = bytes;
      content = ap (content_in max taken) bytes
          ∙ sym (held_within max taken.raw taken.content taken.stage old ∙ ap (λ (k : ℕ). content_in max taken (take k old)) raw);
      waits = omega (arith, ap (λ (m : BodyMark). m.content) p.scan, content_counted max taken old);
    }

-- the bytes that a piece of content was given from lead to its mark, which counts each of them; fewer hold less
record Passed (max n : ℕ) (f : Framing) (c : Course) : Type 0 where
  size : ℕ
  mark : (piece n c.intake c.input).mark ≡ scan_bytes max c.intake.taken (take size (drop c.intake.taken.raw c.seen))
  content : (piece n c.intake c.input).content ≡ content_in max c.intake.taken (take size (drop c.intake.taken.raw c.seen))
  counts : (piece n c.intake c.input).mark.raw ≡ c.intake.taken.raw + size
  fewest : (j : ℕ) → j < size → length (content_in max c.intake.taken (take j (drop c.intake.taken.raw c.seen))) < length (piece n c.intake c.input).content

passed : (max n : ℕ) (f : Framing) (c : Course) → Follows max f c → Place max f c → 1 ≤ waiting c.intake → Passed max n f c
passed max n f c r p some =
    let taken : BodyMark = c.intake.taken in
    let bytes : List ℕ = take (ahead c.intake) c.input in
    let most : ℕ = min n (waiting c.intake) in
    let g : IsGiven max most taken bytes = given_is max most taken bytes in
    let k : ℕ = g.passed.0 in
    let few : k ≤ ahead c.intake = omega (arith, g.passed.1.0, length-take (ahead c.intake) c.input) in
    let old : List ℕ = drop taken.raw c.seen in
    let e : Found max f c = found max f c r p in
    let first : (j : ℕ) → j ≤ k → take j bytes ≡ take j old =
    λ j less. ap (take j) e.bytes ∙ take-take j (ahead c.intake) old (omega (arith, less, few)) in
    let front : take k bytes ≡ take k old = first k (omega arith) in
    let enough : most ≤ length (content_in max taken bytes) = omega (arith, ap length e.content, e.waits) in
    let same : piece n c.intake c.input ≡ give_bytes max most taken bytes = ap (λ (limit : ℕ). give_bytes limit most taken bytes) (r.limit some) in
    let mark : (piece n c.intake c.input).mark ≡ scan_bytes max taken (take k old) =
    ap (λ (x : Given). x.mark) same ∙ (g.passed.1.1.0 ∙ ap (scan_bytes max taken) front) in
    let content : (piece n c.intake c.input).content ≡ content_in max taken (take k old) =
    ap (λ (x : Given). x.content) same ∙ (g.passed.1.1.1 ∙ ap (content_in max taken) front) in
    let full : length (piece n c.intake c.input).content ≡ most =
    omega (arith, ap (λ (x : Given). length x.content) same, ap length g.content, length-take most (content_in max taken bytes), enough) in
    let fewest : (j : ℕ) → j < k → length (content_in max taken (take j old)) < length (piece n c.intake c.input).content =
    λ j less. omega (
      arith,
      g.shortest enough j less,
      ap (λ (xs : List ℕ). length (content_in max taken xs)) (first j (omega (arith, less))),
      full,
    ) in
    record {
      size = k;
      mark = mark;
      content = content;
      counts = ap (λ (m : BodyMark). m.raw) mark ∙ all_belong max (length (piece n c.intake c.input).content) k taken old fewest (sym (ap length content));
      fewest = fewest;
    }

whole_is_over : (s : BodyStage) → is_whole s ≡ true → is_over s ≡ true
whole_is_over stage.Whole e = refl
whole_is_over _ e = cc

whole_is_good : (s : BodyStage) → is_whole s ≡ true → is_bad s ≡ false
whole_is_good stage.Whole e = refl
whole_is_good _ e = cc

-- where content waits, the whole body wasn't taken
not_whole : (max : ℕ) (f : Framing) (c : Course) → Follows max f c → Place max f c → 1 ≤ waiting c.intake → is_whole c.intake.taken.stage ≡ false
not_whole max f c r p some =
    tested (is_whole c.intake.taken.stage) (is_whole c.intake.taken.stage ≡ false)
    (λ ended. absurd (omega (
      arith,
      some,
      (found max f c r p).waits,
      ap length (over_content max c.intake.taken (drop c.intake.taken.raw c.seen) (whole_is_over c.intake.taken.stage ended)),
    )))
    (λ going. going)

-- fewer bytes than lead to the mark of a piece hold less than was delivered then
fewer_read : (max n : ℕ) (f : Framing) (c : Course) → Follows max f c → (p : Place max f c) → 1 ≤ waiting c.intake → (g : Passed max n f c) →
    (j : ℕ) → j < (piece n c.intake c.input).mark.raw →
    length (content_in max (body_start f) (take j c.seen)) < length (c.given ++ (piece n c.intake c.input).content)
fewer_read max n f c r p some g j less =
    let raw : ℕ = c.intake.taken.raw in
    let content : List ℕ = (piece n c.intake c.input).content in
    let sum = length-append c.given content in
    tested (ltb j raw) (length (content_in max (body_start f) (take j c.seen)) < length (c.given ++ content))
    (λ before. omega (arith, sum, p.fewest (not_whole max f c r p some) j (omega (arith, ltb-true j raw before))))
    (λ behind. let place : j ≡ raw + (j - raw) = omega (arith, ltb-false j raw behind) in
    let more : List ℕ = content_in max c.intake.taken (take (j - raw) (drop raw c.seen)) in
    let held : length (content_in max (body_start f) (take j c.seen)) ≡ length (c.given ++ more) =
    ap (λ (i : ℕ). length (content_in max (body_start f) (take i c.seen))) place ∙ ap length (given_on max f c (j - raw) p) in
    omega (arith, sum, held, length-append c.given more, g.fewest (j - raw) (omega (arith, less, g.counts, place))))

-- a course with this intake, and this content delivered
abbrev moved : Course → Intake → List ℕ → Course
moved c next content = record c { intake = next; input = drop (taken_by c.intake next) c.input; given = c.given ++ content }

-- the course behind a read, by whether content waits and whether the body is whole
abbrev read_by : Bool → Bool → ℕ → Course → Course
read_by t u n c = moved c (cond t (record c.intake { taken = (piece n c.intake c.input).mark }) (cond u (record c.intake { taken = c.intake.scanned }) c.intake))
    (cond t (piece n c.intake c.input).content [])

follows_content : (max : ℕ) (f : Framing) (c : Course) (n : ℕ) → Follows max f c → c.intake.swallowed_from ≡ None → 1 ≤ waiting c.intake →
    Follows max f (moved c (record c.intake { taken = (piece n c.intake c.input).mark }) (piece n c.intake c.input).content)
follows_content max f c n r fresh some =
    let p : Place max f c = r.place fresh in
    let g : Passed max n f c = passed max n f c r p some in
    let taken : BodyMark = c.intake.taken in
    let old : List ℕ = drop taken.raw c.seen in
    let mark : BodyMark = (piece n c.intake c.input).mark in
    let content : List ℕ = (piece n c.intake c.input).content in
    let later : taken.raw ≤ mark.raw = omega (arith, ap (λ (m : BodyMark). m.raw) g.mark, (counts_bytes max taken (take g.size old)).least) in
    let rest : (m : BodyMark) → m ≡ mark → drop (m.raw - taken.raw) old ≡ drop mark.raw c.seen =
    λ m e. ap (λ (x : BodyMark). drop (x.raw - taken.raw) old) e ∙ drop_on taken.raw mark.raw c.seen later in
    let on : scan_bytes max mark (drop mark.raw c.seen) ≡ c.intake.scanned =
    ap (λ (m : BodyMark). scan_bytes max m (drop mark.raw c.seen)) g.mark
    ∙ (ap (scan_bytes max (scan_bytes max taken (take g.size old))) (sym (rest _ (sym g.mark)))
    ∙ (sym (resume_scan max taken old g.size) ∙ p.scan)) in
    let held : content_in max (body_start f) c.seen ≡ (c.given ++ content) ++ content_in max mark (drop mark.raw c.seen) =
    p.content
    ∙ (ap (λ (xs : List ℕ). c.given ++ xs)
    (resume_content max taken old g.size
    ∙ (ap (λ (xs : List ℕ). xs ++ content_in max (scan_bytes max taken (take g.size old)) (drop ((scan_bytes max taken (take g.size old)).raw - taken.raw) old)) (sym g.content)
    ∙ (ap (λ (xs : List ℕ). content ++ content_in max (scan_bytes max taken (take g.size old)) xs) (rest _ (sym g.mark))
    ∙ ap (λ (m : BodyMark). content ++ content_in max m (drop mark.raw c.seen)) (sym g.mark))))
    ∙ sym (append_assoc c.given content _)) in
    record {
      new = r.new;
      later = content_in max mark (drop mark.raw c.seen);
      ring = ap (drop (mark.raw - taken.raw)) r.ring ∙ drop_on taken.raw mark.raw c.came later;
      more = r.more;
      scanned = r.scanned;
      order = omega (arith, ap (λ (m : BodyMark). m.raw) on, (counts_bytes max mark (drop mark.raw c.seen)).least);
      content = held;
      place = λ still. record {
        scan = on;
        content = held;
        start = g.mark ∙ (sym (start_on max f c g.size p) ∙ ap (λ (k : ℕ). scan_bytes max (body_start f) (take k c.seen)) (sym g.counts));
        fewest = λ going. fewer_read max n f c r p some g;
      };
      limit = λ more. r.limit some;
    }

-- nothing waits
pub none_due : (max : ℕ) (f : Framing) (c : Course) → Follows max f c → Place max f c → has_content c.intake ≡ false →
    content_in max c.intake.taken (drop c.intake.taken.raw c.seen) ≡ []
none_due max f c r p none =
    nil_from_length _ (omega (arith, ltb-false 0 (waiting c.intake) none, (found max f c r p).waits))

-- the bytes that belong to what was scanned lead to it, where it isn't bad
whole_start : (max : ℕ) (f : Framing) (c : Course) → Follows max f c → is_bad c.intake.scanned.stage ≡ false →
    c.intake.scanned ≡ scan_bytes max (body_start f) (take c.intake.scanned.raw c.seen)
whole_start max f c r good =
    let m : BodyMark = scan_bytes max (body_start f) c.seen in
    let all : m.raw - 0 ≡ c.intake.scanned.raw = omega (arith, ap (λ (x : BodyMark). x.raw) r.scanned) in
    r.scanned
    ∙ (scan_within max 0 0 (body_start f).stage c.seen (sym (ap (λ (x : BodyMark). is_bad x.stage) r.scanned) ∙ good)
    ∙ ap (λ (k : ℕ). scan_bytes max (body_start f) (take k c.seen)) all)

follows_end : (max : ℕ) (f : Framing) (c : Course) → Follows max f c → c.intake.swallowed_from ≡ None → has_content c.intake ≡ false →
    is_whole c.intake.scanned.stage ≡ true → Follows max f (moved c (record c.intake { taken = c.intake.scanned }) [])
follows_end max f c r fresh none ended =
    let p : Place max f c = r.place fresh in
    let m : BodyMark = c.intake.scanned in
    let over : is_over m.stage ≡ true = whole_is_over m.stage ended in
    let held : content_in max (body_start f) c.seen ≡ (c.given ++ []) ++ content_in max m (drop m.raw c.seen) =
    p.content
    ∙ (ap (λ (xs : List ℕ). c.given ++ xs) (none_due max f c r p none)
    ∙ (sym (append_nil (c.given ++ []))
    ∙ ap (λ (xs : List ℕ). (c.given ++ []) ++ xs) (sym (over_content max m (drop m.raw c.seen) over)))) in
    record {
      new = r.new;
      later = content_in max m (drop m.raw c.seen);
      ring = ap (drop (m.raw - c.intake.taken.raw)) r.ring ∙ drop_on c.intake.taken.raw m.raw c.came r.order;
      more = r.more;
      scanned = r.scanned;
      order = omega arith;
      content = held;
      place = λ still. record {
        scan = over_scan max m (drop m.raw c.seen) over;
        content = held;
        start = whole_start max f c r (whole_is_good m.stage ended);
        fewest = λ going. absurd (never_both (is_whole m.stage) ended going);
      };
      limit = λ some. absurd (omega arith);
    }

follows_again : (max : ℕ) (f : Framing) (c : Course) → Follows max f c → Follows max f (moved c c.intake [])
follows_again max f c r =
    let none : c.intake.taken.raw - c.intake.taken.raw ≡ 0 = omega arith in
    let same : moved c c.intake [] ≡ c = rw (none, append_nil c.given) in
    subst (Follows max f) (sym same) r

follows_by : (max : ℕ) (f : Framing) (c : Course) (n : ℕ) (t u : Bool) → Follows max f c → c.intake.swallowed_from ≡ None → has_content c.intake ≡ t →
    is_whole c.intake.scanned.stage ≡ u → Follows max f (read_by t u n c)
follows_by max f c n true u r fresh waits ended = follows_content max f c n r fresh (omega (arith, ltb-true 0 (waiting c.intake) waits))
follows_by max f c n false true r fresh waits ended = follows_end max f c r fresh waits ended
follows_by max f c n false false r fresh waits ended = follows_again max f c r

follows_read : (max : ℕ) (f : Framing) (c : Course) (n : ℕ) (from : Option ℕ) → Follows max f c → c.intake.swallowed_from ≡ from →
    Follows max f (reading_at c n from)
follows_read max f c n None r is = follows_by max f c n (has_content c.intake) (is_whole c.intake.scanned.stage) r is refl refl
follows_read max f c n (Some k) r is = r

-- ---- every list of calls

follows_turn : (max : ℕ) (f : Framing) (c : Course) (t : Turn) → Follows max f c → Follows max f (after_turn max c t)
follows_turn max f c (put_in bytes) r = follows_put max f c bytes r
follows_turn max f c scan_all r = follows_scan max f c r
follows_turn max f c (read_into n) r = follows_read max f c n c.intake.swallowed_from r refl
follows_turn max f c swallow_all r = follows_swallow max f c r

pub follows_turns : (max : ℕ) (f : Framing) (c : Course) (turns : List Turn) → Follows max f c → Follows max f (after_turns max c turns)
follows_turns max f c [] r = r
follows_turns max f c (t ∷ turns) r = follows_turns max f (after_turn max c t) turns (follows_turn max f c t r)
