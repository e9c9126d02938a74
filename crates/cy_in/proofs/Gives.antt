-- What is given is the first content, and stands in the bytes that were passed by, which are the fewest that hold it.
use Rattle.std.proofs.Common.{◌≡◌, ℕ, zero, suc, ◌<◌, ◌≤◌, Bool, true, false, List, [], ◌∷◌, length, take, refl, sym, ap, ◌∙◌, arith}
use Rattle.std.specs.Prelude.{min}
use Rattle.cy_event.specs.Bodies.{byte_before, content_in, give_bytes, given_before, Given, is_content, scan_byte}
use Rattle.cy_event.specs.declared.body.BodyMark.{BodyMark}
use Rattle.cy_in.specs.Intakes.{Intake, ahead, has_content, waiting}
use Rattle.cy_in.specs.Laws.{IsGiven, NoFewerHold, TakesFewest}
use Rattle.cy_in.proofs.Choices.{where_not, where_yes}

content_here : (max : ℕ) (m : BodyMark) (b : ℕ) (bytes : List ℕ) → is_content m.stage ≡ true →
    content_in max m (b ∷ bytes) ≡ b ∷ content_in max (scan_byte max m b) bytes
content_here max m b bytes here = ap (λ (t : Bool). byte_before t b (content_in max (scan_byte max m b) bytes)) here

content_other : (max : ℕ) (m : BodyMark) (b : ℕ) (bytes : List ℕ) → is_content m.stage ≡ false →
    content_in max m (b ∷ bytes) ≡ content_in max (scan_byte max m b) bytes
content_other max m b bytes other = ap (λ (t : Bool). byte_before t b (content_in max (scan_byte max m b) bytes)) other

-- ---- no fewer bytes hold it

fewer_here : (max n k : ℕ) (m : BodyMark) (b : ℕ) (bytes : List ℕ) → is_content m.stage ≡ true → NoFewerHold max n (scan_byte max m b) bytes k →
    suc n ≤ length (content_in max m (b ∷ bytes)) → (j : ℕ) → j < suc k → length (content_in max m (take j (b ∷ bytes))) < suc n
fewer_here max n k m b bytes here later all zero less = omega arith
fewer_here max n k m b bytes here later all (suc j) less =
    let whole : length (content_in max m (b ∷ bytes)) ≡ suc (length (content_in max (scan_byte max m b) bytes)) =
    ap length (content_here max m b bytes here) in
    let part : length (content_in max m (b ∷ take j bytes)) ≡ suc (length (content_in max (scan_byte max m b) (take j bytes))) =
    ap length (content_here max m b (take j bytes) here) in
    omega (arith, part, later (omega (arith, whole)) j (omega arith))

fewer_other : (max n k : ℕ) (m : BodyMark) (b : ℕ) (bytes : List ℕ) → is_content m.stage ≡ false → NoFewerHold max (suc n) (scan_byte max m b) bytes k →
    suc n ≤ length (content_in max m (b ∷ bytes)) → (j : ℕ) → j < suc k → length (content_in max m (take j (b ∷ bytes))) < suc n
fewer_other max n k m b bytes other later all zero less = omega arith
fewer_other max n k m b bytes other later all (suc j) less =
    let whole : length (content_in max m (b ∷ bytes)) ≡ length (content_in max (scan_byte max m b) bytes) =
    ap length (content_other max m b bytes other) in
    let part : length (content_in max m (b ∷ take j bytes)) ≡ length (content_in max (scan_byte max m b) (take j bytes)) =
    ap length (content_other max m b (take j bytes) other) in
    omega (arith, part, later (omega (arith, whole)) j (omega arith))

-- ---- what is given

step_here : (max n : ℕ) (m : BodyMark) (b : ℕ) (bytes : List ℕ) → is_content m.stage ≡ true →
    IsGiven max n (scan_byte max m b) bytes → IsGiven max (suc n) m (b ∷ bytes)
step_here max n m b bytes here later =
    let g : give_bytes max (suc n) m (b ∷ bytes) ≡ given_before b (give_bytes max n (scan_byte max m b) bytes) =
    where_yes (is_content m.stage) _ _ here in
    record {
      content = ap (λ (g : Given). g.content) g ∙ (ap (λ (c : List ℕ). b ∷ c) later.content
          ∙ sym (ap (λ (c : List ℕ). take (suc n) c) (content_here max m b bytes here)));
      passed = (
        suc later.passed.0,
        (
          omega (arith, later.passed.1.0),
          (
            ap (λ (g : Given). g.mark) g ∙ later.passed.1.1.0,
            ap (λ (g : Given). g.content) g ∙ (ap (λ (c : List ℕ). b ∷ c) later.passed.1.1.1
                ∙ sym (content_here max m b (take later.passed.0 bytes) here)),
          ),
        ),
      );
      shortest = fewer_here max n later.passed.0 m b bytes here later.shortest;
    }

step_other : (max n : ℕ) (m : BodyMark) (b : ℕ) (bytes : List ℕ) → is_content m.stage ≡ false →
    IsGiven max (suc n) (scan_byte max m b) bytes → IsGiven max (suc n) m (b ∷ bytes)
step_other max n m b bytes other later =
    let g : give_bytes max (suc n) m (b ∷ bytes) ≡ give_bytes max (suc n) (scan_byte max m b) bytes =
    where_not (is_content m.stage) _ _ other in
    record {
      content = ap (λ (g : Given). g.content) g ∙ (later.content
          ∙ sym (ap (λ (c : List ℕ). take (suc n) c) (content_other max m b bytes other)));
      passed = (
        suc later.passed.0,
        (
          omega (arith, later.passed.1.0),
          (
            ap (λ (g : Given). g.mark) g ∙ later.passed.1.1.0,
            ap (λ (g : Given). g.content) g ∙ (later.passed.1.1.1
                ∙ sym (content_other max m b (take later.passed.0 bytes) other)),
          ),
        ),
      );
      shortest = fewer_other max n later.passed.0 m b bytes other later.shortest;
    }

step_by : (max n : ℕ) (m : BodyMark) (b : ℕ) (bytes : List ℕ) (t : Bool) → is_content m.stage ≡ t →
    IsGiven max n (scan_byte max m b) bytes → IsGiven max (suc n) (scan_byte max m b) bytes → IsGiven max (suc n) m (b ∷ bytes)
step_by max n m b bytes true is fewer same = step_here max n m b bytes is fewer
step_by max n m b bytes false is fewer same = step_other max n m b bytes is same

pub given_is : (max n : ℕ) (m : BodyMark) (bytes : List ℕ) → IsGiven max n m bytes
given_is max zero m bytes = record { content = refl; passed = (0, (omega arith, (refl, refl))); shortest = λ all j less. absurd (omega arith) }
given_is max (suc n) m [] = record { content = refl; passed = (0, (omega arith, (refl, refl))); shortest = λ all j less. absurd (omega arith) }
given_is max (suc n) m (b ∷ bytes) =
    step_by max n m b bytes (is_content m.stage) refl (given_is max n (scan_byte max m b) bytes) (given_is max (suc n) (scan_byte max m b) bytes)

-- ---- reads

pub takes_fewest : (n : ℕ) (i : Intake) (input : List ℕ) → has_content i ≡ true → TakesFewest n i input
takes_fewest n i input waits =
    let g : IsGiven i.max_trailer (min n (waiting i)) i.taken (take (ahead i) input) =
    given_is i.max_trailer (min n (waiting i)) i.taken (take (ahead i) input) in
    record {
      passed = g.passed.0;
      mark = ap (λ (next : Intake). next.taken) (where_yes (has_content i) _ _ waits) ∙ g.passed.1.1.0;
      content = where_yes (has_content i) _ _ waits ∙ g.passed.1.1.1;
      fewest = g.shortest;
    }
