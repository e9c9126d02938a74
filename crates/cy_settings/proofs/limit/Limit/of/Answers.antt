-- A value in its range fits.
use Rattle.std.proofs.Common.{rules, ◌≡◌, ℕ, ◌≤◌, ◌&&◌, true, leb, arith, w64, pos, FitsSigned}
use Rattle.std.proofs.lemmas.Bool.{and_parts, leb-true}
use Rattle.cy_settings.specs.declared.limit.Limit.TheVariants.{ConnectionTimeout, AsyncTimeout, MaxSwallowSize}
use Rattle.cy_settings.proofs.limit.Limit.of.Goals as goal

fits : (least greatest n : ℕ) → greatest ≤ 2147483647 → (leb least n && leb n greatest) ≡ true → FitsSigned w64 (pos n)
fits least greatest n small h =
    let within : n ≤ greatest = leb-true n greatest (and_parts (leb least n) (leb n greatest) h).1 in
    search rules

pub overflow_cast-result : goal.overflow_cast-result
overflow_cast-result c = fits 1 86400000 c.args.limits.now.connection_timeout (omega arith) (c.requires ConnectionTimeout)

pub overflow_cast-result-in-AsyncTimeout : goal.overflow_cast-result-in-AsyncTimeout
overflow_cast-result-in-AsyncTimeout c = fits 0 86400000 c.args.limits.now.async_timeout (omega arith) (c.requires AsyncTimeout)

pub overflow_cast-result-in-MaxSwallowSize : goal.overflow_cast-result-in-MaxSwallowSize
overflow_cast-result-in-MaxSwallowSize c = fits 0 2147483647 c.args.limits.now.max_swallow (omega arith) (c.requires MaxSwallowSize)
