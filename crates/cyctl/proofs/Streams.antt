-- Lemmas on what a source has left, and on fronts of a text.
use Rattle.std.proofs.Common.{ℕ, ◌+◌, List, ◌++◌, length, take, drop, subst, sym, length-append}
use Rattle.std.proofs.Math.Seq.{take-add}
use Rattle.std.proofs.KnownBytes.{Consumes-trans, Appends-trans}
use Rattle.std.specs.Io.KnownBytes.{Consumes, Appends}
use Rattle.std.specs.declared.option.Option.{Option}
use Rattle.cyctl.specs.Causes.{WasRead}

-- a text of which a front and then more were written has a longer front written
pub Appends-further : (a b c : Option (List ℕ)) (text : List ℕ) (n m : ℕ) → Appends a b (take n text) → Appends b c (take m (drop n text))
    → Appends a c (take (n + m) text)
Appends-further a b c text n m first second =
    subst (Appends a c) (sym (take-add n m text)) (Appends-trans a b c (take n text) (take m (drop n text)) first second)

-- a source that lost a front and then more lost the two together
pub WasRead-further : (P : ℕ → Type 0) (a b c : Option (List ℕ)) (front more : List ℕ) → Consumes a b front → Consumes b c more
    → P (length front + length more) → WasRead P a c
WasRead-further P a b c front more first second holds =
    (front ++ more, Consumes-trans a b c front more first second, subst P (sym (length-append front more)) holds)
