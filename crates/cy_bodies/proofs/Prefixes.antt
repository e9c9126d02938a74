-- How far the mark of a body goes: it never goes back, by more bytes, by more content, or by the end.
use Rattle.std.proofs.Common.{◌≡◌, ◌≤◌, ℕ, zero, suc, Bool, true, false, List, [], ◌∷◌, ◌++◌, drop, arith, refl, cond}
use Rattle.cy_event.specs.declared.body.BodyMark.{BodyMark}
use Rattle.cy_event.specs.declared.body.BodyStage.{BodyStage}
use Rattle.cy_event.specs.Bodies.{Given, advanced, given_before, give_bytes, is_bad, is_content, is_over, next_stage, scan_byte, scan_bytes}

byte_goes : (max : ℕ) (m : BodyMark) (b : ℕ) → m.raw ≤ (scan_byte max m b).raw
byte_goes max m b =
    let next : BodyStage = next_stage max m.stage b in
    elim (is_over m.stage) as (λ v. m.raw ≤ (cond v m (cond (is_bad next) (record m { stage = next }) (advanced m next))).raw) [
      | true ↦ omega arith
      | false ↦ elim (is_bad next) as (λ v. m.raw ≤ (cond v (record m { stage = next }) (advanced m next)).raw) [
        | true ↦ omega arith
        | false ↦ omega arith
      ]
    ]

pub scan_goes : (max : ℕ) (m : BodyMark) (bytes : List ℕ) → m.raw ≤ (scan_bytes max m bytes).raw
scan_goes max m [] = omega arith
scan_goes max m (b ∷ bytes) = omega (arith, byte_goes max m b, scan_goes max (scan_byte max m b) bytes)

-- ---- the mark behind given content

-- what holds of the mark behind content or behind another byte holds behind the one that stands there
either_mark : (P : ℕ → Type 0) (v : Bool) (x y : Given) → P x.mark.raw → P y.mark.raw → P (cond v x y).mark.raw
either_mark P true x y p q = p
either_mark P false x y p q = q

give_goes : (max n : ℕ) (m : BodyMark) (bytes : List ℕ) → m.raw ≤ (give_bytes max n m bytes).mark.raw
give_goes max zero m bytes = omega arith
give_goes max (suc n) m [] = omega arith
give_goes max (suc n) m (b ∷ bytes) =
    let s = scan_byte max m b in
    either_mark (λ raw. m.raw ≤ raw) (is_content m.stage) (given_before b (give_bytes max n s bytes)) (give_bytes max (suc n) s bytes)
    (omega (arith, byte_goes max m b, give_goes max n s bytes)) (omega (arith, byte_goes max m b, give_goes max (suc n) s bytes))

-- by more bytes
pub give_longer : (max n : ℕ) (m : BodyMark) (xs ys : List ℕ) → (give_bytes max n m xs).mark.raw ≤ (give_bytes max n m (xs ++ ys)).mark.raw
give_longer max zero m xs ys = omega arith
give_longer max (suc n) m [] ys = give_goes max (suc n) m ys
give_longer max (suc n) m (b ∷ xs) ys =
    let s = scan_byte max m b in
    elim (is_content m.stage) as (λ v. (cond v (given_before b (give_bytes max n s xs)) (give_bytes max (suc n) s xs)).mark.raw
    ≤ (cond v (given_before b (give_bytes max n s (xs ++ ys))) (give_bytes max (suc n) s (xs ++ ys))).mark.raw) [
      | true ↦ give_longer max n s xs ys
      | false ↦ give_longer max (suc n) s xs ys
    ]

-- by more content
pub give_more : (max n k : ℕ) (m : BodyMark) (bytes : List ℕ) → n ≤ k → (give_bytes max n m bytes).mark.raw ≤ (give_bytes max k m bytes).mark.raw
give_more max zero k m bytes less = give_goes max k m bytes
give_more max (suc n) zero m bytes less = absurd (omega (arith, less))
give_more max (suc n) (suc k) m [] less = omega arith
give_more max (suc n) (suc k) m (b ∷ bytes) less =
    let s = scan_byte max m b in
    elim (is_content m.stage) as (λ v. (cond v (given_before b (give_bytes max n s bytes)) (give_bytes max (suc n) s bytes)).mark.raw
    ≤ (cond v (given_before b (give_bytes max k s bytes)) (give_bytes max (suc k) s bytes)).mark.raw) [
      | true ↦ give_more max n k s bytes (omega (arith, less))
      | false ↦ give_more max (suc n) (suc k) s bytes less
    ]

-- by the end
pub give_within : (max n : ℕ) (m : BodyMark) (bytes : List ℕ) → (give_bytes max n m bytes).mark.raw ≤ (scan_bytes max m bytes).raw
give_within max zero m bytes = scan_goes max m bytes
give_within max (suc n) m [] = omega arith
give_within max (suc n) m (b ∷ bytes) =
    let s = scan_byte max m b in
    either_mark (λ raw. raw ≤ (scan_bytes max s bytes).raw) (is_content m.stage) (given_before b (give_bytes max n s bytes)) (give_bytes max (suc n) s bytes)
    (give_within max n s bytes) (give_within max (suc n) s bytes)

-- ---- behind a place

-- more bytes leave those behind a place, and stand behind them
pub drop_longer : (n : ℕ) (xs ys : List ℕ) → (zs : List ℕ) × (drop n (xs ++ ys) ≡ drop n xs ++ zs)
drop_longer zero xs ys = (ys, refl)
drop_longer (suc n) [] ys = (drop (suc n) ys, refl)
drop_longer (suc n) (x ∷ xs) ys = drop_longer n xs ys
