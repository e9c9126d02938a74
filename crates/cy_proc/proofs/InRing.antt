-- What is kept of a body stands in the bytes that wait, whatever a call does with it.
use Rattle.std.proofs.Common.{◌≡◌, ◌≤◌, ℕ, ◌+◌, ◌-◌, true, false, List, length, drop, take, min, refl, sym, subst, ap, arith, length-drop, length-take, if◌then◌else◌}
use Rattle.cy_event.specs.declared.body.BodyMark.{BodyMark}
use Rattle.cy_event.specs.Bodies.{give_bytes}
use Rattle.cy_event.specs.declared.framing.Framing.{Framing}
use Rattle.cy_in.specs.Intakes.{Intake, after_read, after_scan, after_swallow, ahead, has_content, is_whole, piece, started, taken_by, waiting}
use Rattle.cy_in.proofs.Counting.{counts_bytes}
use Rattle.cy_in.proofs.Gives.{given_is}
use Rattle.cy_proc.specs.LineBodies.{IsInRing}

pub in_ring_scan : (max : ℕ) (i j : Intake) (input : List ℕ) (came : ℕ) → j ≡ after_scan max i input → IsInRing i input came → IsInRing j input came
in_ring_scan max i j input came is r =
    let rest = drop (ahead i) input in
    let counted = counts_bytes max i.scanned rest in
    let left = length-drop (ahead i) input in
    subst (λ (k : Intake). IsInRing k input came) (sym is) (record { taken = r.taken; scanned = omega (arith, counted.most, left, r.scanned, r.order); order = omega (arith, counted.least, r.order) })

pub in_ring_swallow : (max : ℕ) (i j : Intake) (input left : List ℕ) (came : ℕ) → j ≡ after_swallow max i input → left ≡ drop (taken_by i j) input
    → IsInRing i input came → IsInRing j left came
in_ring_swallow max i j input left came is rest r =
    let s = in_ring_scan max i (after_scan max i input) input came refl r in
    let taken : j.taken.raw ≡ (after_scan max i input).scanned.raw = ap (λ (k : Intake). k.taken.raw) is in
    let scanned : j.scanned.raw ≡ (after_scan max i input).scanned.raw = ap (λ (k : Intake). k.scanned.raw) is in
    let size = ap length rest in
    let less = length-drop (taken_by i j) input in
    record { taken = omega (arith, s.taken, s.scanned, taken, size, less); scanned = omega (arith, taken, scanned); order = omega (arith, taken, scanned) }

-- the mark behind what is given is no earlier, and no later than the bytes go
later_given : (max n : ℕ) (m : BodyMark) (bytes : List ℕ) → (m.raw ≤ (give_bytes max n m bytes).mark.raw) × ((give_bytes max n m bytes).mark.raw ≤ m.raw + length bytes)
later_given max n m bytes =
    let g = given_is max n m bytes in
    let counted = counts_bytes max m (take g.passed.0 bytes) in
    let raw = ap (λ (k : BodyMark). k.raw) g.passed.1.1.0 in
    let size = length-take g.passed.0 bytes in
    (omega (arith, counted.least, raw), omega (arith, counted.most, raw, size))

-- a read moves on, or takes all that was scanned
pub record MovesOn (i j : Intake) : Type 0 where
  pub scanned : j.scanned ≡ i.scanned
  pub max_trailer : j.max_trailer ≡ i.max_trailer
  pub swallowed_from : j.swallowed_from ≡ i.swallowed_from

pub read_moves : (n : ℕ) (i : Intake) (input : List ℕ) → MovesOn i (after_read n i input)
read_moves n i input =
    elim (has_content i) as (λ v. MovesOn i (if v then record i { taken = (piece n i input).mark } else if is_whole i.scanned.stage then record i { taken = i.scanned } else i)) [
      | true ↦ record { scanned = refl; max_trailer = refl; swallowed_from = refl }
      | false ↦ elim (is_whole i.scanned.stage) as (λ w. MovesOn i (if w then record i { taken = i.scanned } else i)) [
        | true ↦ record { scanned = refl; max_trailer = refl; swallowed_from = refl }
        | false ↦ record { scanned = refl; max_trailer = refl; swallowed_from = refl }
      ]
    ]

abbrev IsReadIn : Intake → List ℕ → ℕ → Intake → Type 0
IsReadIn i input came j = IsInRing j (drop (taken_by i j) input) came

read_in_ring : (n : ℕ) (i : Intake) (input : List ℕ) (came : ℕ) → IsInRing i input came → IsReadIn i input came (after_read n i input)
read_in_ring n i input came r =
    elim (has_content i) as (λ v. IsReadIn i input came (if v then record i { taken = (piece n i input).mark } else if is_whole i.scanned.stage then record i { taken = i.scanned } else i)) [
      | true ↦
          let later = later_given i.max_trailer (min n (waiting i)) i.taken (take (ahead i) input) in
          let size = length-take (ahead i) input in
          let left = length-drop ((piece n i input).mark.raw - i.taken.raw) input in
          record {
            taken = omega (arith, later.0, later.1, size, left, r.taken, r.scanned, r.order);
            scanned = omega (arith, later.0, later.1, size, left, r.scanned, r.order);
            order = omega (arith, later.1, size, r.order);
          }
      | false ↦ elim (is_whole i.scanned.stage) as (λ w. IsReadIn i input came (if w then record i { taken = i.scanned } else i)) [
        | true ↦
            let left = length-drop (i.scanned.raw - i.taken.raw) input in
            record { taken = omega (arith, left, r.taken, r.scanned, r.order); scanned = omega arith; order = omega arith }
        | false ↦
            let left = length-drop (i.taken.raw - i.taken.raw) input in
            record { taken = omega (arith, left, r.taken); scanned = omega (arith, left, r.scanned); order = r.order }
      ]
    ]

pub in_ring_read : (n : ℕ) (i j : Intake) (input left : List ℕ) (came : ℕ) → j ≡ after_read n i input → left ≡ drop (taken_by i j) input
    → IsInRing i input came → IsInRing j left came
in_ring_read n i j input left came is rest r =
    subst (λ (l : List ℕ). IsInRing j l came) (sym rest) (subst (IsReadIn i input came) (sym is) (read_in_ring n i input came r))

-- as a request begins, behind its head
pub in_ring_begin : (max size : ℕ) (f : Framing) (j : Intake) (input : List ℕ) (came : ℕ) → size ≤ length input → length input ≤ came
    → j ≡ after_scan max (started f) (drop size input) → IsInRing j (drop size input) came
in_ring_begin max size f j input came within all is =
    let left = length-drop size input in
    in_ring_scan max (started f) j (drop size input) came is (record { taken = omega (arith, left, all); scanned = omega arith; order = omega arith })
