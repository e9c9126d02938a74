-- Each move of the numbers keeps the rule.
use Rattle.std.proofs.Common.{◌≡◌, ℕ, ◌+◌, ◌<◌, ◌≤◌, ◌^◌, ◌-◌, ◌==◌, cond, [], ◌∷◌, length, set, None, Some, refl, ap, sym, ◌∙◌, arith}
use mathlib.Core.Option.{some-ne-none}
use Rattle.std.proofs.lemmas.List.{length_push}
use Rattle.crossbeam_queue.specs.Fifo.{Pushes, Pops, Learns}
use Rattle.cy_pool.specs.declared.rule.View.{View}
use Rattle.cy_pool.specs.Rule.{view_of, has, is_out, HasAll, IsTold, AreKept}
use Rattle.cy_pool.proofs.Totals.{total_set, total_le, total_covers, times_push, below_none, below_more, below_from, itself, every_set, every_push}
use Rattle.cy_pool.proofs.Parts.{keeper, parts, out, has_out, others_none}

pub begins : AreKept [] (view_of 1 (2 ^ 32) 0 (2 ^ 32 - 1) None ∷ [])
begins = (
  0,
  2 ^ 32 - 1,
  record {
    whole = refl;
    one = refl;
    told = every_push (IsTold 0 (2 ^ 32 - 1)) [] (view_of 1 (2 ^ 32) 0 (2 ^ 32 - 1) None) (λ j u e. absurd (some-ne-none u (sym e))) ((λ h. (refl, refl)), omega arith);
    each = λ x. below_none x;
    counted = refl;
  },
)

-- a number more, while one pass has all parts
pub adds : (cap pass : ℕ) (v : View) (x : ℕ) → HasAll v → x ≡ v.size → Pushes AreKept cap pass v x (λ w. w ≡ view_of v.keeper v.parts (v.size + 1) v.most v.slip)
adds cap pass v x all next items views room kept at =
    let n = kept.0 in
    let m = kept.1 in
    let k = kept.2 in
    let w = view_of v.keeper v.parts (v.size + 1) v.most v.slip in
    let some_part : 0 < v.parts = omega (arith, all.1) in
    let size : v.size ≡ n = ((k.told pass v at).0 some_part).0 in
    let most : v.most ≡ m = ((k.told pass v at).0 some_part).1 in (
      w,
      (
        n + 1,
        m,
        record {
          whole = (let s = total_set parts views pass v w at in omega (arith, s, k.whole));
          one = (let s = total_set keeper views pass v w at in omega (arith, s, k.one));
          told = every_set (IsTold (n + 1) m) views pass w ((λ h. (ap (λ z. z + 1) size, most)), (k.told pass v at).1)
              (λ j u apart e.
              let none : u.parts ≡ 0 = others_none pass v m views (all.1 ∙ ap (λ z. z + 1) most) k.whole at j u apart e in
              ((λ some_other. absurd (omega (arith, none, some_other))), (k.told j u e).1));
          each = λ y.
              let s = total_set (has_out y) views pass v w at in
              let same : cond {A = ℕ} (x == y) 1 0 ≡ cond (n == y) 1 0 = ap (λ z. cond {A = ℕ} (z == y) 1 0) (next ∙ size) in
              omega (arith, s, k.each y, times_push y items x, below_more y n, same);
          counted = (let s = total_set out views pass v w at in omega (arith, s, k.counted, length_push items x));
        },
      ),
      refl,
    )

-- a number leaves with a slip
pub takes : (pass : ℕ) (v : View) → v.keeper ≡ 0 → 0 < v.parts → v.slip ≡ None → Pops AreKept pass v (λ x w. (w ≡ view_of v.keeper v.parts v.size v.most (Some x)) × (x < v.size))
takes pass v no_keeper some_part idle x items views kept at =
    let n = kept.0 in
    let m = kept.1 in
    let k = kept.2 in
    let w = view_of v.keeper v.parts v.size v.most (Some x) in
    let size : v.size ≡ n = ((k.told pass v at).0 some_part).0 in
    let none : (y : ℕ) → has y v.slip ≡ 0 = λ y. ap (has y) idle in
    let none_out : is_out v.slip ≡ 0 = ap is_out idle in (
      w,
      (
        n,
        m,
        record {
          whole = (let s = total_set parts views pass v w at in omega (arith, s, k.whole));
          one = (let s = total_set keeper views pass v w at in omega (arith, s, k.one));
          told = every_set (IsTold n m) views pass w ((k.told pass v at).0, omega (arith, no_keeper, some_part)) (λ j u apart e. k.told j u e);
          each = λ y. (let s = total_set (has_out y) views pass v w at in let z = none y in omega (arith, s, z, k.each y));
          counted = (let s = total_set out views pass v w at in omega (arith, s, none_out, k.counted));
        },
      ),
      (refl, (let below = below_from x n (omega (arith, itself x, k.each x)) in omega (arith, size, below))),
    )

-- beside a pass without a number there are fewer numbers out than seats
pub fewer_out : (pass : ℕ) (v : View) → v.keeper ≡ 0 → 0 < v.parts → v.slip ≡ None → Learns AreKept pass v (λ items. v.size < length items + v.most)
fewer_out pass v no_keeper some_part idle items views kept at =
    let k = kept.2 in
    let size : v.size ≡ kept.0 = ((k.told pass v at).0 some_part).0 in
    let most : v.most ≡ kept.1 = ((k.told pass v at).0 some_part).1 in
    let none_out : is_out v.slip ≡ 0 = ap is_out idle in
    let covers = total_covers keeper out parts views pass v (λ j u e. (k.told j u e).1) at in
    omega (arith, size, most, none_out, no_keeper, some_part, covers, k.whole, k.one, k.counted)

-- a slip's number joins
pub gives : (cap pass : ℕ) (v : View) (x : ℕ) → 0 < v.parts → v.slip ≡ Some x → Pushes AreKept cap pass v x (λ w. w ≡ view_of v.keeper v.parts v.size v.most None)
gives cap pass v x some_part slip items views room kept at =
    let n = kept.0 in
    let m = kept.1 in
    let k = kept.2 in
    let w = view_of v.keeper v.parts v.size v.most None in
    let one_out : is_out v.slip ≡ 1 = ap is_out slip in
    let fits : v.keeper + is_out v.slip ≤ v.parts = (k.told pass v at).1 in (
      w,
      (
        n,
        m,
        record {
          whole = (let s = total_set parts views pass v w at in omega (arith, s, k.whole));
          one = (let s = total_set keeper views pass v w at in omega (arith, s, k.one));
          told = every_set (IsTold n m) views pass w ((k.told pass v at).0, omega (arith, fits)) (λ j u apart e. k.told j u e);
          each = λ y.
              let s = total_set (has_out y) views pass v w at in
              let one : has y v.slip ≡ cond (x == y) 1 0 = ap (has y) slip in
              omega (arith, s, one, k.each y, times_push y items x);
          counted = (let s = total_set out views pass v w at in omega (arith, s, one_out, k.counted, length_push items x));
        },
      ),
      refl,
    )

-- and there is room for it
pub has_room : (pass : ℕ) (v : View) (x : ℕ) → 0 < v.parts → v.slip ≡ Some x → Learns AreKept pass v (λ items. length items < v.size)
has_room pass v x some_part slip items views kept at =
    let k = kept.2 in
    let size : v.size ≡ kept.0 = ((k.told pass v at).0 some_part).0 in
    let one_out : is_out v.slip ≡ 1 = ap is_out slip in
    let some_out = total_le out views pass v at in
    omega (arith, size, one_out, some_out, k.counted)
