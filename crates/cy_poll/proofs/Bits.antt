-- Kinds by their bits.
use Rattle.std.proofs.Common.{◌≡◌, Bool, true, false, ◌||◌, ◌&&◌, not, refl, sym}
use Rattle.std.proofs.Math.Bool.{or_assoc, or-false}
use Rattle.cy_poll.specs.declared.kinds.Kinds.{Kinds}
use Rattle.cy_poll.specs.Kinds.{meets, no_kinds, with_kinds, without_kinds}

kinds_by : (a b c d : Bool) → a ≡ c → b ≡ d → (let k : Kinds = record { read = a; write = b } in let l : Kinds = record { read = c; write = d } in k ≡ l)
kinds_by a b c d e f = cc

pub with_none : (a : Kinds) → with_kinds a no_kinds ≡ a
with_none a = kinds_by (a.read || false) (a.write || false) a.read a.write (or-false a.read) (or-false a.write)

pub with_kinds_assoc : (a b c : Kinds) → with_kinds a (with_kinds b c) ≡ with_kinds (with_kinds a b) c
with_kinds_assoc a b c = kinds_by (a.read || (b.read || c.read)) (a.write || (b.write || c.write)) ((a.read || b.read) || c.read) ((a.write || b.write) || c.write) (sym (or_assoc a.read b.read c.read)) (sym (or_assoc a.write b.write c.write))

-- what is kept of some kinds and then of others is what is kept of all
kept_bit : (kept first second wanted : Bool) → ((kept || (first && not wanted)) || (second && not wanted)) ≡ (kept || ((first || second) && not wanted))
kept_bit true first second wanted = refl
kept_bit false true true true = refl
kept_bit false true true false = refl
kept_bit false true false true = refl
kept_bit false true false false = refl
kept_bit false false second wanted = refl

pub kept_twice : (kept first second wanted : Kinds) → with_kinds (with_kinds kept (without_kinds first wanted)) (without_kinds second wanted) ≡ with_kinds kept (without_kinds (with_kinds first second) wanted)
kept_twice kept first second wanted = kinds_by ((kept.read || (first.read && not wanted.read)) || (second.read && not wanted.read)) ((kept.write || (first.write && not wanted.write)) || (second.write && not wanted.write)) (kept.read || ((first.read || second.read) && not wanted.read)) (kept.write || ((first.write || second.write) && not wanted.write)) (kept_bit kept.read first.read second.read wanted.read) (kept_bit kept.write first.write second.write wanted.write)

meets_bits : (wr ww ar aw br bw : Bool) → ((wr && (ar || br)) || (ww && (aw || bw))) ≡ (((wr && ar) || (ww && aw)) || ((wr && br) || (ww && bw)))
meets_bits false false ar aw br bw = refl
meets_bits true false true aw br bw = refl
meets_bits true false false aw br bw = refl
meets_bits false true ar aw br bw = refl
meets_bits true true true aw br bw = refl
meets_bits true true false true true bw = refl
meets_bits true true false true false bw = refl
meets_bits true true false false br bw = refl

-- one of these kinds and of others is wanted where one of these or one of the others is
pub meets-with : (w a b : Kinds) → meets w (with_kinds a b) ≡ (meets w a || meets w b)
meets-with w a b = meets_bits w.read w.write a.read a.write b.read b.write

none_bits : (wr ww : Bool) → ((wr && false) || (ww && false)) ≡ false
none_bits true true = refl
none_bits true false = refl
none_bits false true = refl
none_bits false false = refl

pub meets_none : (w : Kinds) → meets w no_kinds ≡ false
meets_none w = none_bits w.read w.write

pub without_none : (a w : Kinds) → with_kinds a (without_kinds no_kinds w) ≡ a
without_none a w = with_none a
