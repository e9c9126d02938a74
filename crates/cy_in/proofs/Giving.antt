-- What is kept while content is given piece by piece.
use Rattle.std.proofs.Common.{◌≡◌, ℕ, zero, suc, ◌+◌, ◌-◌, ◌≤◌, ◌<◌, false, List, [], ◌∷◌, ◌++◌, length, take, drop, refl, sym, ap, ◌∙◌, arith, ltb, get_or, append_assoc, length-drop, take_all}
use Rattle.std.proofs.lemmas.List.{drop-drop}
use Rattle.cy_event.specs.Bodies.{scan_byte, give_bytes, given_onto, given_before, Given, content_left, run_after, is_content}
use Rattle.cy_event.specs.declared.body.BodyMark.{BodyMark}
use Rattle.cy_event.proofs.BodyRuns.{one_byte, content_is, run_more, left_less}
use Rattle.cy_in.proofs.Choices.{where_not, where_yes}

-- the first part of `into` is filled, and the rest is as it was
pub record Giving (max most : ℕ) (from : BodyMark) (bytes before : List ℕ) (mark : BodyMark) (rest : List ℕ) (filled : ℕ) (into : List ℕ) : Type 0 where
  pub same : give_bytes max most from bytes ≡ given_onto (take filled into) (give_bytes max (most - filled) mark rest)
  pub behind : drop filled into ≡ drop filled before
  pub within : filled ≤ most
  pub later : from.raw ≤ mark.raw
  pub most_raw : mark.raw + length rest ≤ from.raw + length bytes
  pub sound : mark.content ≤ mark.raw

-- one byte of content
give_one : (max k : ℕ) (m : BodyMark) (b : ℕ) (bytes : List ℕ) → 1 ≤ content_left m.stage →
    give_bytes max (suc k) m (b ∷ bytes) ≡ given_before b (give_bytes max k (run_after m 1) bytes)
give_one max k m b bytes left =
    where_yes (is_content m.stage) _ _ (content_is m.stage left)
    ∙ ap (λ (r : BodyMark). given_before b (give_bytes max k r bytes)) (one_byte max m b left)

-- a run of content
pub give_run : (max : ℕ) (m : BodyMark) (bytes : List ℕ) (k j : ℕ) → 1 ≤ j → j ≤ k → j ≤ content_left m.stage → j ≤ length bytes →
    give_bytes max k m bytes ≡ given_onto (take j bytes) (give_bytes max (k - j) (run_after m j) (drop j bytes))
give_run max m bytes k zero some few left here = absurd (omega arith)
give_run max m [] k (suc j) some few left here = absurd (omega arith)
give_run max m (b ∷ bytes) zero (suc j) some few left here = absurd (omega arith)
give_run max m (b ∷ bytes) (suc k) (suc zero) some few left here =
    let less : suc k - 1 ≡ k = omega arith in
    rw less (give_one max k m b bytes left)
give_run max m (b ∷ bytes) (suc k) (suc (suc j)) some few left here =
    let more : 1 ≤ suc j = omega arith in
    let within : suc j + 1 ≤ content_left m.stage = omega arith in
    let same : suc j + 1 ≡ suc (suc j) = omega arith in
    let less : k - suc j ≡ suc k - suc (suc j) = omega arith in
    give_one max k m b bytes (omega arith)
    ∙ (ap (given_before b) (give_run max (run_after m 1) bytes k (suc j) more (omega arith) (left_less m.stage (suc j) more within) (omega arith))
    ∙ ap (λ (r : BodyMark). given_onto (b ∷ take (suc j) bytes) (give_bytes max (k - suc j) r (drop (suc j) bytes))) (run_more m (suc j) more within ∙ ap (run_after m) same)
    ∙ ap (λ (n : ℕ). given_onto (b ∷ take (suc j) bytes) (give_bytes max n (run_after m (suc (suc j))) (drop (suc j) bytes))) less)

-- ---- the steps of the loop

giving_begins_with : (g : Given) → g ≡ given_onto [] g
giving_begins_with g = refl

onto_onto : (xs ys : List ℕ) (g : Given) → given_onto xs (given_onto ys g) ≡ given_onto (xs ++ ys) g
onto_onto xs ys g = ap (λ (c : List ℕ). let r : Given = record { content = c; mark = g.mark } in r) (sym (append_assoc xs ys g.content))

pub giving_run : (max most : ℕ) (from : BodyMark) (bytes before : List ℕ) (mark mark' : BodyMark) (rest rest' : List ℕ) (filled run : ℕ) (into into' : List ℕ) →
    Giving max most from bytes before mark rest filled into → 1 ≤ run → run ≤ most - filled → run ≤ content_left mark.stage → run ≤ length rest →
    mark' ≡ run_after mark run → take (filled + run) into' ≡ take filled into ++ take run rest → drop (filled + run) into' ≡ drop (filled + run) into →
    mark'.content ≤ mark'.raw → rest' ≡ drop run rest →
    Giving max most from bytes before mark' rest' (filled + run) into'
giving_run max most from bytes before mark mark' rest rest' filled run into into' g some few left here is front behind sound tail =
    rw tail (
    let less : most - filled - run ≡ most - (filled + run) = omega arith in
    let raw : mark'.raw ≡ mark.raw + run = ap (λ (m : BodyMark). m.raw) is in
    record {
      same = g.same
          ∙ (ap (given_onto (take filled into)) (give_run max mark rest (most - filled) run some few left here)
          ∙ onto_onto (take filled into) (take run rest) (give_bytes max (most - filled - run) (run_after mark run) (drop run rest))
          ∙ ap (λ (c : List ℕ). given_onto c (give_bytes max (most - filled - run) (run_after mark run) (drop run rest))) (sym front)
          ∙ ap (λ (m : BodyMark). given_onto (take (filled + run) into') (give_bytes max (most - filled - run) m (drop run rest))) (sym is)
          ∙ ap (λ (n : ℕ). given_onto (take (filled + run) into') (give_bytes max n mark' (drop run rest))) less);
      behind = behind ∙ (sym (drop-drop run filled into) ∙ (ap (drop run) g.behind ∙ drop-drop run filled before));
      within = omega (arith, g.within);
      later = omega (arith, g.later);
      most_raw = omega (arith, g.most_raw, length-drop run rest);
      sound = sound;
    })

-- a byte that is no content
give_other : (max k : ℕ) (m : BodyMark) (b : ℕ) (bytes : List ℕ) → content_left m.stage ≡ 0 →
    give_bytes max (suc k) m (b ∷ bytes) ≡ give_bytes max (suc k) (scan_byte max m b) bytes
give_other max k m b bytes none =
    let dry : ltb 0 (content_left m.stage) ≡ false = rw none in
    where_not (is_content m.stage) _ _ dry

other_of : (max n : ℕ) (m : BodyMark) (rest : List ℕ) → 1 ≤ n → 1 ≤ length rest → content_left m.stage ≡ 0 →
    give_bytes max n m rest ≡ give_bytes max n (scan_byte max m (get_or rest 0 0)) (drop 1 rest)
other_of max zero m rest some here none = absurd (omega arith)
other_of max (suc n) m [] some here none = absurd (omega arith)
other_of max (suc n) m (b ∷ rest) some here none = give_other max n m b rest none

pub giving_byte : (max most : ℕ) (from : BodyMark) (bytes before : List ℕ) (mark mark' : BodyMark) (rest rest' : List ℕ) (filled : ℕ) (into : List ℕ) →
    Giving max most from bytes before mark rest filled into → filled < most → content_left mark.stage ≡ 0 → 1 ≤ length rest →
    mark' ≡ scan_byte max mark (get_or rest 0 0) → mark.raw ≤ mark'.raw → mark'.raw ≤ mark.raw + 1 → mark'.content ≤ mark'.raw → rest' ≡ drop 1 rest →
    Giving max most from bytes before mark' rest' filled into
giving_byte max most from bytes before mark mark' rest rest' filled into g few none here is later one sound tail =
    rw tail (
    record {
      same = g.same
          ∙ (ap (given_onto (take filled into)) (other_of max (most - filled) mark rest (omega arith) here none)
          ∙ ap (λ (m : BodyMark). given_onto (take filled into) (give_bytes max (most - filled) m (drop 1 rest))) (sym is));
      behind = g.behind;
      within = g.within;
      later = omega (arith, g.later);
      most_raw = omega (arith, g.most_raw, length-drop 1 rest);
      sound = sound;
    })

-- the end of a slice
pub tail_is : (rest : List ℕ) (k : ℕ) → take (length rest - k) (drop k rest) ≡ drop k rest
tail_is rest k = take_all (length rest - k) (drop k rest) (omega (arith, length-drop k rest))
