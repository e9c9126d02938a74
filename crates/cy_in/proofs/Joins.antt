-- A scan of two pieces, one after the other.
use Rattle.std.proofs.Common.{◌≡◌, ℕ, Bool, true, false, List, [], ◌∷◌, ◌++◌, refl, ap, ◌∙◌}
use Rattle.cy_event.specs.Bodies.{byte_before, body_at, body_of, body_start, content_in, is_content, is_over, scan_byte, scan_bytes}
use Rattle.cy_event.specs.declared.body.BodyMark.{BodyMark}
use Rattle.cy_event.specs.declared.body.BodyStage.{BodyStage}
use Rattle.cy_event.specs.declared.body.BodyStage.TheVariants as stage
use Rattle.cy_event.specs.declared.framing.Framing.{Framing}

pub scan_join : (max : ℕ) (m : BodyMark) (xs ys : List ℕ) → scan_bytes max m (xs ++ ys) ≡ scan_bytes max (scan_bytes max m xs) ys
scan_join max m [] ys = refl
scan_join max m (x ∷ xs) ys = scan_join max (scan_byte max m x) xs ys

before_join : (t : Bool) (x : ℕ) (xs ys : List ℕ) → byte_before t x (xs ++ ys) ≡ byte_before t x xs ++ ys
before_join true x xs ys = refl
before_join false x xs ys = refl

pub content_join : (max : ℕ) (m : BodyMark) (xs ys : List ℕ) →
    content_in max m (xs ++ ys) ≡ content_in max m xs ++ content_in max (scan_bytes max m xs) ys
content_join max m [] ys = refl
content_join max m (x ∷ xs) ys =
    ap (byte_before (is_content m.stage) x) (content_join max (scan_byte max m x) xs ys)
    ∙ before_join (is_content m.stage) x _ _

-- ---- a body that is over

over_byte : (max : ℕ) (m : BodyMark) (b : ℕ) → is_over m.stage ≡ true → scan_byte max m b ≡ m
over_byte max m b over = rw over

pub over_scan : (max : ℕ) (m : BodyMark) (bytes : List ℕ) → is_over m.stage ≡ true → scan_bytes max m bytes ≡ m
over_scan max m [] over = refl
over_scan max m (b ∷ bytes) over =
    ap (λ (r : BodyMark). scan_bytes max r bytes) (over_byte max m b over) ∙ over_scan max m bytes over

over_content_stage : (s : BodyStage) → is_over s ≡ true → is_content s ≡ false
over_content_stage stage.Whole over = refl
over_content_stage stage.Malformed over = refl
over_content_stage stage.TooLong over = refl
over_content_stage _ over = cc

pub over_content : (max : ℕ) (m : BodyMark) (bytes : List ℕ) → is_over m.stage ≡ true → content_in max m bytes ≡ []
over_content max m [] over = refl
over_content max m (b ∷ bytes) over =
    ap (λ (t : Bool). byte_before t b (content_in max (scan_byte max m b) bytes)) (over_content_stage m.stage over)
    ∙ (ap (λ (r : BodyMark). content_in max r bytes) (over_byte max m b over) ∙ over_content max m bytes over)

pub append_nil : (xs : List ℕ) → xs ++ [] ≡ xs
append_nil [] = refl
append_nil (x ∷ xs) = ap (λ (ys : List ℕ). x ∷ ys) (append_nil xs)

pub settled_mark : (max : ℕ) (m : BodyMark) (xs ys : List ℕ) → is_over (scan_bytes max m xs).stage ≡ true →
    scan_bytes max m (xs ++ ys) ≡ scan_bytes max m xs
settled_mark max m xs ys over = scan_join max m xs ys ∙ over_scan max (scan_bytes max m xs) ys over

pub settled_content : (max : ℕ) (m : BodyMark) (xs ys : List ℕ) → is_over (scan_bytes max m xs).stage ≡ true →
    content_in max m (xs ++ ys) ≡ content_in max m xs
settled_content max m xs ys over =
    content_join max m xs ys
    ∙ (ap (λ (c : List ℕ). content_in max m xs ++ c) (over_content max (scan_bytes max m xs) ys over) ∙ append_nil _)

pub settled_body : (max : ℕ) (f : Framing) (xs ys : List ℕ) → is_over (scan_bytes max (body_start f) xs).stage ≡ true →
    body_of max f (xs ++ ys) ≡ body_of max f xs
settled_body max f xs ys over =
    ap (λ (m : BodyMark). body_at m (content_in max (body_start f) (xs ++ ys)) m.stage) (settled_mark max (body_start f) xs ys over)
    ∙ ap (λ (c : List ℕ). body_at (scan_bytes max (body_start f) xs) c (scan_bytes max (body_start f) xs).stage) (settled_content max (body_start f) xs ys over)
