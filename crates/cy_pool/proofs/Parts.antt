-- Each move of the parts keeps the rule: a seat is made or joined, and the number of seats is limited.
use Rattle.std.proofs.Common.{◌≡◌, ◌≢◌, ℕ, ◌+◌, ◌-◌, ◌<◌, ◌≤◌, [], ◌∷◌, List, set, None, refl, ap, arith}
use mathlib.Core.Option.{some}
use lib.ListN.{get_elem?}
use Rattle.crossbeam_queue.specs.Fifo.{Forks, Merges, Learns}
use Rattle.cy_pool.specs.declared.rule.View.{View}
use Rattle.cy_pool.specs.Rule.{view_of, total, has, is_out, HasAll, IsTold, AreKept}
use Rattle.cy_pool.proofs.Totals.{total_set, total_le, total_two, total_push, every_set, every_push}

abbrev pub keeper : View → ℕ
keeper v = v.keeper

abbrev pub parts : View → ℕ
parts v = v.parts

abbrev pub out : View → ℕ
out v = is_out v.slip

abbrev pub has_out : ℕ → View → ℕ
has_out x v = has x v.slip

-- what a pass is that has no part any more
abbrev pub spent : View
spent = view_of 0 0 0 0 None

-- beside a pass that has all parts, no other has one
pub others_none : (pass : ℕ) (v : View) (m : ℕ) (views : List View) → v.parts ≡ m + 1 → total parts views ≡ m + 1 → get_elem? views pass ≡ some v
    → (j : ℕ) (u : View) → j ≢ pass → get_elem? views j ≡ some u → u.parts ≡ 0
others_none pass v m views all whole at j u apart e = (let two = total_two parts views j pass u v apart e at in omega (arith, two, whole, all))

-- no pass has more parts than there are
pub few_parts : (pass : ℕ) (v : View) → 0 < v.parts → Learns AreKept pass v (λ items. v.parts ≤ v.most + 1)
few_parts pass v some_part items views kept at =
    let k = kept.2 in
    let most : v.most ≡ kept.1 = ((k.told pass v at).0 some_part).1 in
    let some = total_le parts views pass v at in
    omega (arith, most, some, k.whole)

-- a part goes to a new pass
pub forks : (pass : ℕ) (v : View) → v.keeper ≡ 1 → v.slip ≡ None → 1 < v.parts
    → Forks AreKept pass v (view_of v.keeper (v.parts - 1) v.size v.most v.slip) (view_of 0 1 v.size v.most None)
forks pass v keeps idle two_parts items views kept at =
    let n = kept.0 in
    let m = kept.1 in
    let k = kept.2 in
    let l = view_of v.keeper (v.parts - 1) v.size v.most v.slip in
    let r = view_of 0 1 v.size v.most None in
    let known : (v.size ≡ n) × (v.most ≡ m) = (k.told pass v at).0 (omega (arith, two_parts)) in
    let none_out : is_out v.slip ≡ 0 = ap is_out idle in
    let changed = set views pass l in (
      n,
      m,
      record {
        whole = (let s = total_set parts views pass v l at in let p = total_push parts changed r in omega (arith, s, p, k.whole, two_parts));
        one = (let s = total_set keeper views pass v l at in let p = total_push keeper changed r in omega (arith, s, p, k.one));
        told = every_push (IsTold n m) changed r
            (every_set (IsTold n m) views pass l ((λ h. known), omega (arith, keeps, none_out, two_parts)) (λ j u apart e. k.told j u e))
            ((λ h. known), omega arith);
        each = λ y. (let s = total_set (has_out y) views pass v l at in let p = total_push (has_out y) changed r in omega (arith, s, p, k.each y));
        counted = (let s = total_set out views pass v l at in let p = total_push out changed r in omega (arith, s, p, k.counted));
      },
    )

-- and comes back
pub merges : (pass : ℕ) (v : View) (other : ℕ) (w : View) → 0 < v.parts → w.keeper ≡ 0 → w.slip ≡ None
    → Merges AreKept pass v other w (view_of v.keeper (v.parts + w.parts) v.size v.most v.slip) spent
merges pass v other w some_part no_keeper idle items views kept at apart there =
    let n = kept.0 in
    let m = kept.1 in
    let k = kept.2 in
    let b = view_of v.keeper (v.parts + w.parts) v.size v.most v.slip in
    let known : (v.size ≡ n) × (v.most ≡ m) = (k.told pass v at).0 some_part in
    let fits : v.keeper + is_out v.slip ≤ v.parts = (k.told pass v at).1 in
    let changed = set views pass b in
    let none : (y : ℕ) → has y w.slip ≡ 0 = λ y. ap (has y) idle in
    let none_out : is_out w.slip ≡ 0 = ap is_out idle in
    let told = every_set (IsTold n m) views pass b ((λ h. known), omega (arith, fits)) (λ j u other e. k.told j u e) in (
      n,
      m,
      record {
        whole = (let s = total_set parts views pass v b at in let t = total_set parts changed other w spent there in omega (arith, s, t, k.whole));
        one = (let s = total_set keeper views pass v b at in let t = total_set keeper changed other w spent there in omega (arith, s, t, no_keeper, k.one));
        told = every_set (IsTold n m) changed other spent ((λ h. absurd (omega (arith, h))), omega arith) (λ j u apart' e. told j u e);
        each = λ y.
            let s = total_set (has_out y) views pass v b at in
            let t = total_set (has_out y) changed other w spent there in
            let o = none y in
            omega (arith, s, t, o, k.each y);
        counted = (let s = total_set out views pass v b at in let t = total_set out changed other w spent there in omega (arith, s, t, none_out, k.counted));
      },
    )

-- while a pass has all parts, there may be any number of seats from now on
pub limits : (pass : ℕ) (v : View) (p m' : ℕ) → HasAll v → p ≡ m' + 1 → Forks AreKept pass v (view_of v.keeper p v.size m' v.slip) spent
limits pass v p m' all one_more items views kept at =
    let n = kept.0 in
    let m = kept.1 in
    let k = kept.2 in
    let l = view_of v.keeper p v.size m' v.slip in
    let known : (v.size ≡ n) × (v.most ≡ m) = (k.told pass v at).0 (omega (arith, all.1)) in
    let all_parts : v.parts ≡ m + 1 = omega (arith, all.1, known.1) in
    let none_out : is_out v.slip ≡ 0 = ap is_out all.2 in
    let changed = set views pass l in (
      n,
      m',
      record {
        whole = (let s = total_set parts views pass v l at in let q = total_push parts changed spent in omega (arith, s, q, k.whole, all_parts, one_more));
        one = (let s = total_set keeper views pass v l at in let q = total_push keeper changed spent in omega (arith, s, q, k.one));
        told = every_push (IsTold n m') changed spent
            (every_set (IsTold n m') views pass l ((λ h. (known.0, refl)), omega (arith, all.0, none_out, one_more))
            (λ j u apart e.
            let none : u.parts ≡ 0 = others_none pass v m views all_parts k.whole at j u apart e in
            ((λ some_other. absurd (omega (arith, none, some_other))), (k.told j u e).1)))
            ((λ h. absurd (omega (arith, h))), omega arith);
        each = λ y. (let s = total_set (has_out y) views pass v l at in let q = total_push (has_out y) changed spent in omega (arith, s, q, k.each y));
        counted = (let s = total_set out views pass v l at in let q = total_push out changed spent in omega (arith, s, q, k.counted));
      },
    )
