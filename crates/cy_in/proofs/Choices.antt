-- Cases on a test.
use Rattle.std.proofs.Common.{◌≡◌, Bool, true, false, refl, cond}
use Rattle.std.specs.Prelude.{◌||◌, not}
use Rattle.cy_event.specs.declared.body.BodyStage.{BodyStage}

pub tested : (t : Bool) (P : Type 0) → (t ≡ true → P) → (t ≡ false → P) → P
tested true P when_true when_false = when_true refl
tested false P when_true when_false = when_false refl

-- what holds of either stage holds of the one that is chosen
pub chosen : (P : BodyStage → Type 0) (t : Bool) (x y : BodyStage) → (t ≡ true → P x) → (t ≡ false → P y) → P (cond t x y)
chosen P true x y f g = f refl
chosen P false x y f g = g refl

pub where_yes : {A : Type 0} (t : Bool) (x y : A) → t ≡ true → cond t x y ≡ x
where_yes t x y e = rw e

pub where_not : {A : Type 0} (t : Bool) (x y : A) → t ≡ false → cond t x y ≡ y
where_not t x y e = rw e

pub never_both : (t : Bool) → t ≡ true → t ≡ false → ⊥
never_both t is isnt = cc

pub neither : (x y : Bool) → not (x || y) ≡ true → x ≡ false
neither true y h = cc
neither false y h = refl
