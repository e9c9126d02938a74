-- The list of free numbers: one drawn from its end, one put there, and all of them at first.
use Rattle.std.proofs.Common.{◌≡◌, ◌≢◌, ℕ, ◌+◌, ◌*◌, ◌<◌, ◌≤◌, Bool, true, false, cond, ◌||◌, eqb, List, [], ◌∷◌, ◌++◌, length, set, replicate, refl, ap, sym, ◌∙◌, arith}
use Rattle.std.proofs.lemmas.Bool.{or_parts, or_from, eqb-false, ne_eqb, false≢true}
use Rattle.std.proofs.lemmas.List.Folds.{sum_by-replicate}
use Rattle.std.proofs.lemmas.List.{length-set, length-replicate, length_push, get_or-replicate}
use Rattle.cy_latch.specs.Free.{AreDrawable, IsFree}
use Rattle.cy_latch.specs.Numbers.{count_out, holds, is_out}
use Rattle.cy_latch.proofs.Sets.{count_drawn, count_left, is_out-set_other, is_out-set_same, out_is_below}

holds-push : (ns : List ℕ) (n m : ℕ) → holds (ns ++ n ∷ []) m ≡ (holds ns m || eqb n m)
holds-push [] n m = or_false (eqb n m)
  where
    or_false : (b : Bool) → (b || false) ≡ b
    or_false true = refl
    or_false false = refl
holds-push (k ∷ ns) n m = ap (λ (b : Bool). eqb k m || b) (holds-push ns n m) ∙ or_assoc (eqb k m) (holds ns m) (eqb n m)
  where
    or_assoc : (a b c : Bool) → (a || (b || c)) ≡ ((a || b) || c)
    or_assoc true b c = refl
    or_assoc false b c = refl

-- ---- drawn from the end

pub record Draws (numbers : List Bool) (ns : List ℕ) (n : ℕ) : Type 0 where
  pub below : n < length numbers
  pub idle : is_out numbers n ≡ false
  pub other : holds ns n ≡ false
  pub rest : AreDrawable (set numbers n true) ns

last_is_drawable : (numbers : List Bool) (ns : List ℕ) (n : ℕ) → AreDrawable numbers (ns ++ n ∷ []) → Draws numbers ns n
last_is_drawable numbers [] n d = record { below = d.0; idle = d.1; other = refl; rest = tt }
last_is_drawable numbers (m ∷ ns) n d =
    let more = last_is_drawable numbers ns n d.3 in
    let parts = or_parts (holds ns m) (eqb n m) (sym (holds-push ns n m) ∙ d.2) in
    let apart : m ≢ n = λ e. eqb-false n m parts.1 (sym e) in
    record {
      below = more.below;
      idle = more.idle;
      other = or_from (eqb m n) (holds ns n) (ne_eqb m n apart) more.other;
      rest = (
        (let e = length-set numbers n true in omega (arith, e, d.0)),
        is_out-set_other numbers n m true apart ∙ d.1,
        parts.0,
        more.rest,
      );
    }

pub free_drawn : (numbers : List Bool) (ns : List ℕ) (n room : ℕ) → IsFree numbers (ns ++ n ∷ []) room → IsFree (set numbers n true) ns room
free_drawn numbers ns n room free =
    let d = last_is_drawable numbers ns n free.drawable in
    record {
      drawable = d.rest;
      whole = (
          let size = length-set numbers n true in
          let count = count_drawn numbers n d.below d.idle in
          let pushed = length_push ns n in
          omega (arith, size, count, pushed, free.whole)
          );
      fits = (let size = length-set numbers n true in omega (arith, size, free.fits));
    }

pub drawn_below : (numbers : List Bool) (ns : List ℕ) (n room : ℕ) → IsFree numbers (ns ++ n ∷ []) room → n < length numbers
drawn_below numbers ns n room free = (last_is_drawable numbers ns n free.drawable).below

pub drawn_idle : (numbers : List Bool) (ns : List ℕ) (n room : ℕ) → IsFree numbers (ns ++ n ∷ []) room → is_out numbers n ≡ false
drawn_idle numbers ns n room free = (last_is_drawable numbers ns n free.drawable).idle

-- ---- put back

put_back : (numbers : List Bool) (ns : List ℕ) (n : ℕ) → is_out numbers n ≡ true → AreDrawable numbers ns → AreDrawable (set numbers n false) (ns ++ n ∷ [])
put_back numbers [] n out d = (
  (let e = length-set numbers n false in let h = out_is_below numbers n out in omega (arith, e, h)),
  is_out-set_same numbers n false (out_is_below numbers n out),
  refl,
  tt,
)
put_back numbers (m ∷ ns) n out d =
    let apart : m ≢ n = λ e. false≢true (sym d.1 ∙ ap (λ (k : ℕ). is_out numbers k) e ∙ out) in (
      (let e = length-set numbers n false in omega (arith, e, d.0)),
      is_out-set_other numbers n m false apart ∙ d.1,
      holds-push ns n m ∙ or_from (holds ns m) (eqb n m) d.2 (ne_eqb n m (λ e. apart (sym e))),
      put_back numbers ns n out d.3,
    )

pub free_put_back : (numbers : List Bool) (ns : List ℕ) (n room : ℕ) → is_out numbers n ≡ true → IsFree numbers ns room → IsFree (set numbers n false) (ns ++ n ∷ []) room
free_put_back numbers ns n room out free = record {
  drawable = put_back numbers ns n out free.drawable;
  whole = (
      let size = length-set numbers n false in
      let count = count_left numbers n (out_is_below numbers n out) out in
      let pushed = length_push ns n in
      omega (arith, size, count, pushed, free.whole)
      );
  fits = (let size = length-set numbers n false in omega (arith, size, free.fits));
}

-- where a number is out there is room for it
pub room_for : (numbers : List Bool) (ns : List ℕ) (n room : ℕ) → is_out numbers n ≡ true → IsFree numbers ns room → length ns < room
room_for numbers ns n room out free =
    let count = count_left numbers n (out_is_below numbers n out) out in
    omega (arith, count, free.whole, free.fits)

-- ---- at first

-- these are below k
abbrev pub AreBelow : ℕ → List ℕ → Type 0
AreBelow k [] = Unit {0}
AreBelow k (m ∷ ns) = (m < k) × AreBelow k ns

-- the first k numbers, of a latch of which none is out
pub record AreFirst (limit k : ℕ) (free : List ℕ) : Type 0 where
  pub drawable : AreDrawable (replicate limit false) free
  pub below : AreBelow k free
  pub size : length free ≡ k

below_more : (k : ℕ) (ns : List ℕ) → AreBelow k ns → AreBelow (k + 1) (ns ++ k ∷ [])
below_more k [] b = (omega arith, tt)
below_more k (m ∷ ns) b = (omega (arith, b.0), below_more k ns b.1)

none_is_out : (limit k : ℕ) → k < limit → is_out (replicate limit false) k ≡ false
none_is_out limit k h = get_or-replicate limit k false false h

one_more : (limit k : ℕ) (ns : List ℕ) → k < limit → AreBelow k ns → AreDrawable (replicate limit false) ns → AreDrawable (replicate limit false) (ns ++ k ∷ [])
one_more limit k [] h b d = ((let e = length-replicate limit false in omega (arith, e)), none_is_out limit k h, refl, tt)
one_more limit k (m ∷ ns) h b d = (
  d.0,
  d.1,
  holds-push ns k m ∙ or_from (holds ns m) (eqb k m) d.2 (ne_eqb k m (λ e. absurd (omega (arith, e, b.0)))),
  one_more limit k ns h b.1 d.3,
)

pub none_first : (limit : ℕ) → AreFirst limit 0 []
none_first limit = record { drawable = tt; below = tt; size = refl }

pub first_more : (limit k : ℕ) (ns : List ℕ) → k < limit → AreFirst limit k ns → AreFirst limit (k + 1) (ns ++ k ∷ [])
first_more limit k ns h first = record {
  drawable = one_more limit k ns h first.below first.drawable;
  below = below_more k ns first.below;
  size = (let e = length_push ns k in omega (arith, e, first.size));
}

pub all_are_free : (limit room : ℕ) (ns : List ℕ) → AreFirst limit limit ns → limit ≤ room → IsFree (replicate limit false) ns room
all_are_free limit room ns first h = record {
  drawable = first.drawable;
  whole = (
      let none : count_out (replicate limit false) ≡ limit * 0 = sum_by-replicate (λ (b : Bool). cond b 1 0) limit false in
      let size = length-replicate limit false in
      omega (arith, none, size, first.size)
      );
  fits = (let size = length-replicate limit false in omega (arith, size));
}
