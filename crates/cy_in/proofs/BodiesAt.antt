-- What a body is, by the stage of its mark.
use Rattle.std.proofs.Common.{◌≡◌, ℕ, true, false, List, refl}
use Rattle.cy_event.specs.Bodies.{BadBody, bad, body_at, is_bad, is_over, malformed_at, partial, trailers_too_large, whole}
use Rattle.cy_event.specs.declared.body.BodyMark.{BodyMark}
use Rattle.cy_event.specs.declared.body.BodyStage.{BodyStage}
use Rattle.cy_event.specs.declared.body.BodyStage.TheVariants as stage

-- ---- stages

pub bad_is_over : (s : BodyStage) → is_bad s ≡ true → is_over s ≡ true
bad_is_over stage.Malformed wrong = refl
bad_is_over stage.TooLong wrong = refl
bad_is_over _ wrong = cc

pub going_is_good : (s : BodyStage) → is_over s ≡ false → is_bad s ≡ false
going_is_good stage.Malformed going = cc
going_is_good stage.TooLong going = cc
going_is_good _ going = refl

pub over_is_whole : (s : BodyStage) → is_over s ≡ true → is_bad s ≡ false → s ≡ stage.Whole
over_is_whole stage.Whole over good = refl
over_is_whole stage.Malformed over good = cc
over_is_whole stage.TooLong over good = cc
over_is_whole _ over good = cc

-- ---- whole bodies

pub whole_stage : (m : BodyMark) (c : List ℕ) (s : BodyStage) (content : List ℕ) (n : ℕ) → body_at m c s ≡ whole content n → s ≡ stage.Whole
whole_stage m c stage.Whole content n e = refl
whole_stage m c stage.Malformed content n e = cc
whole_stage m c stage.TooLong content n e = cc
whole_stage m c _ content n e = cc

pub whole_content : (m : BodyMark) (c : List ℕ) (s : BodyStage) (content : List ℕ) (n : ℕ) → body_at m c s ≡ whole content n → c ≡ content
whole_content m c stage.Whole content n e = cc
whole_content m c stage.Malformed content n e = cc
whole_content m c stage.TooLong content n e = cc
whole_content m c _ content n e = cc

pub whole_raw : (m : BodyMark) (c : List ℕ) (s : BodyStage) (content : List ℕ) (n : ℕ) → body_at m c s ≡ whole content n → m.raw ≡ n
whole_raw m c stage.Whole content n e = cc
whole_raw m c stage.Malformed content n e = cc
whole_raw m c stage.TooLong content n e = cc
whole_raw m c _ content n e = cc

pub whole_at : (m : BodyMark) (c : List ℕ) (s : BodyStage) → s ≡ stage.Whole → body_at m c s ≡ whole c m.raw
whole_at m c s e = rw e

-- ---- parts of bodies

pub partial_content : (m : BodyMark) (c : List ℕ) (s : BodyStage) (held : List ℕ) → body_at m c s ≡ partial held → c ≡ held
partial_content m c stage.Whole held e = cc
partial_content m c stage.Malformed held e = cc
partial_content m c stage.TooLong held e = cc
partial_content m c _ held e = cc

pub partial_is_going : (m : BodyMark) (c : List ℕ) (s : BodyStage) (held : List ℕ) → body_at m c s ≡ partial held → is_over s ≡ false
partial_is_going m c stage.Whole held e = cc
partial_is_going m c stage.Malformed held e = cc
partial_is_going m c stage.TooLong held e = cc
partial_is_going m c _ held e = refl

-- ---- bad bodies

pub bad_stage : (m : BodyMark) (c : List ℕ) (s : BodyStage) (why : BadBody) → body_at m c s ≡ bad why → is_bad s ≡ true
bad_stage m c stage.Whole why e = cc
bad_stage m c stage.Malformed why e = refl
bad_stage m c stage.TooLong why e = refl
bad_stage m c _ why e = cc

pub bad_at : (m : BodyMark) (c : List ℕ) (s : BodyStage) → is_bad s ≡ true → (why : BadBody) × (body_at m c s ≡ bad why)
bad_at m c stage.Malformed wrong = (malformed_at m.raw, refl)
bad_at m c stage.TooLong wrong = (trailers_too_large, refl)
bad_at m c _ wrong = cc
