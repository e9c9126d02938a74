-- What is kept after any calls is what came and wasn't told.
use Rattle.std.proofs.Common.{◌≡◌, ℕ, ◌<◌, Bool, true, false, cond, ◌||◌, ◌&&◌, not, eqb, List, [], ◌∷◌, length, set, replicate, refl, ap, sym, ◌∙◌, subst, arith, inl, inr, ◌⊎◌}
use Rattle.std.proofs.lemmas.Bool.{and_from, and_left, and_parts, and_right, cases_eq, eq-eqb, false≢true, ne_eqb, or_left, or_parts, or_right}
use Rattle.std.proofs.lemmas.Grind.{get_or-set_at}
use Rattle.std.proofs.lemmas.List.{get_or-set_other, get_or-replicate, length-set, length-replicate}
use Rattle.cy_link.specs.declared.readiness.Ready.{Ready}
use Rattle.cy_poll.specs.declared.kinds.Kinds.{Kinds}
use Rattle.cy_poll.specs.declared.kinds.Note.{Note}
use Rattle.cy_poll.specs.Kinds.{meets, no_kinds, with_kinds, without_kinds}
use Rattle.cy_poll.specs.Notes.{after_want, no_note, note_of}
use Rattle.cy_poll.specs.Noting.{holds}
use Rattle.cy_poll.specs.Sorts.{after_events, came, given}
use Rattle.cy_poll.specs.Runs.{IsRun, Kind, Turn, asked, forgotten, has, is_untold, reading, sorted, wanted, writing}
use Rattle.cy_poll.specs.Laws.{WhatIsKeptIsUntold}
use Rattle.cy_poll.proofs.Givens.{holds-given}

pub record Holds (size : ℕ) (turns : List Turn) (notes : List Note) : Type 0 where
  pub size_is : length notes ≡ size
  pub kept : (p : ℕ) (k : Kind) → p < size → has (note_of notes p).kept k ≡ is_untold turns p k
  pub waits : (p : ℕ) → p < size → (note_of notes p).wanted ≡ asked turns p
  pub apart : (p : ℕ) (k : Kind) → p < size → (has (note_of notes p).kept k && has (note_of notes p).wanted k) ≡ false

-- ---- at first

has_none : (k : Kind) → has no_kinds k ≡ false
has_none reading = refl
has_none writing = refl

at_first : (size : ℕ) → Holds size [] (replicate size no_note)
at_first size = record {
  size_is = length-replicate size no_note;
  kept = λ p k h. ap (λ (n : Note). has n.kept k) (get_or-replicate size p no_note no_note h) ∙ has_none k;
  waits = λ p h. ap (λ (n : Note). n.wanted) (get_or-replicate size p no_note no_note h);
  apart = λ p k h. ap (λ (n : Note). has n.kept k && has n.wanted k) (get_or-replicate size p no_note no_note h) ∙ and_left (has no_kinds k) (has no_kinds k) (has_none k);
}

-- ---- one place changes

-- what holds of one place after one call more
record HoldsAt (turns : List Turn) (p : ℕ) (n : Note) : Type 0 where
  pub kept : (k : Kind) → has n.kept k ≡ is_untold turns p k
  pub waits : n.wanted ≡ asked turns p
  pub apart : (k : Kind) → (has n.kept k && has n.wanted k) ≡ false

holds_at : (size : ℕ) (turns : List Turn) (notes : List Note) → Holds size turns notes → (p : ℕ) → p < size → HoldsAt turns p (note_of notes p)
holds_at size turns notes all p h = record { kept = λ k. all.kept p k h; waits = all.waits p h; apart = λ k. all.apart p k h }

all_hold : (size : ℕ) (turns : List Turn) (notes : List Note) → length notes ≡ size → ((p : ℕ) → p < size → HoldsAt turns p (note_of notes p)) → Holds size turns notes
all_hold size turns notes e each = record { size_is = e; kept = λ p k h. (each p h).kept k; waits = λ p h. (each p h).waits; apart = λ p k h. (each p h).apart k }

-- one place gets another note, and to the others nothing happens
set_holds : (size : ℕ) (t : Turn) (before : List Turn) (old : List Note) (q : ℕ) (n : Note) → q < length old → HoldsAt (t ∷ before) q n → ((p : ℕ) (m : Note) → eqb q p ≡ false → HoldsAt before p m → HoldsAt (t ∷ before) p m) → Holds size before old → Holds size (t ∷ before) (set old q n)
set_holds size t before old q n below here others all =
    all_hold size (t ∷ before) (set old q n) (length-set old q n ∙ all.size_is) (λ p h. by_place p h (cases_eq p q))
  where
    by_place : (p : ℕ) → p < size → (p ≡ q) ⊎ (p ≡ q → ⊥) → HoldsAt (t ∷ before) p (note_of (set old q n) p)
    by_place p h (inl same) =
        subst (λ (m : Note). HoldsAt (t ∷ before) p m) (sym (get_or-set_at old q p n no_note same below)) (subst (λ (r : ℕ). HoldsAt (t ∷ before) r n) (sym same) here)
    by_place p h (inr other) =
        subst (λ (m : Note). HoldsAt (t ∷ before) p m) (sym (get_or-set_other old q p n no_note other))
        (others p (note_of old p) (ne_eqb q p (λ e. other (sym e))) (holds_at size before old all p h))

-- ---- a place asks

as_before : (u b x : Bool) → b ≡ false → u ≡ ((u || false) && not (b && x)) && not false
as_before u true x e = absurd (false≢true (sym e))
as_before true false x e = refl
as_before false false x e = refl

told_bits : (u b x : Bool) → b ≡ true → (u && not x) ≡ ((u || false) && not (b && (true && x))) && not false
told_bits u false x e = absurd (false≢true e)
told_bits true true true e = refl
told_bits true true false e = refl
told_bits false true x e = refl

untold_bits : (u b x : Bool) → u ≡ ((u || false) && not (b && (false && x))) && not false
untold_bits true true x = refl
untold_bits true false x = refl
untold_bits false b x = refl

has-without : (a b : Kinds) (k : Kind) → has (without_kinds a b) k ≡ (has a k && not (has b k))
has-without a b reading = refl
has-without a b writing = refl

never_both : (a b : Kinds) (k : Kind) → meets a b ≡ false → (has a k && has b k) ≡ false
never_both a b reading e = (or_parts (a.read && b.read) (a.write && b.write) e).0
never_both a b writing e = (or_parts (a.read && b.read) (a.write && b.write) e).1

-- what is noted of a place that asked, by what it was told
abbrev asked_note : Bool → Note → Kinds → Note
asked_note told n kinds = cond told (record { wanted = no_kinds; kept = without_kinds n.kept kinds }) (record { wanted = kinds; kept = n.kept })

want_here : (before : List Turn) (q : ℕ) (n : Note) (kinds : Kinds) (told : Bool) → told ≡ meets n.kept kinds → HoldsAt before q n → HoldsAt (wanted q kinds told ∷ before) q (asked_note told n kinds)
want_here before q n kinds true is at = record {
  kept = λ k.
      has-without n.kept kinds k ∙ ap (λ (u : Bool). u && not (has kinds k)) (at.kept k)
      ∙ told_bits (is_untold before q k) (eqb q q) (has kinds k) (eq-eqb q q refl);
  waits = sym (ap (λ (b : Bool). cond b no_kinds (asked before q)) (eq-eqb q q refl));
  apart = λ k. and_right (has (without_kinds n.kept kinds) k) (has no_kinds k) (has_none k);
}
want_here before q n kinds false is at = record {
  kept = λ k. at.kept k ∙ untold_bits (is_untold before q k) (eqb q q) (has kinds k);
  waits = sym (ap (λ (b : Bool). cond b kinds (asked before q)) (eq-eqb q q refl));
  apart = λ k. never_both n.kept kinds k (sym is);
}

want_holds : (size : ℕ) (before : List Turn) (old : List Note) (q : ℕ) (kinds : Kinds) (told : Bool) → told ≡ meets (note_of old q).kept kinds → q < length old → Holds size before old → Holds size (wanted q kinds told ∷ before) (set old q (after_want (note_of old q) kinds))
want_holds size before old q kinds told is below all =
    set_holds size (wanted q kinds told) before old q (after_want (note_of old q) kinds) below
    (subst (λ (b : Bool). HoldsAt (wanted q kinds told ∷ before) q (asked_note b (note_of old q) kinds)) is
    (want_here before q (note_of old q) kinds told is (holds_at size before old all q (let e = all.size_is in omega (arith, e, below)))))
    (λ p m other at. record {
      kept = λ k. at.kept k ∙ as_before (is_untold before p k) (eqb q p) (told && has kinds k) other;
      waits = at.waits ∙ sym (ap (λ (b : Bool). cond b (cond told no_kinds kinds) (asked before p)) other);
      apart = at.apart;
    })
    all

-- ---- a place is forgotten

stays_untold : (u b : Bool) → b ≡ false → u ≡ ((u || false) && not false) && not b
stays_untold u true e = absurd (false≢true (sym e))
stays_untold true false e = refl
stays_untold false false e = refl

forget_holds : (size : ℕ) (before : List Turn) (old : List Note) (q : ℕ) → q < length old → Holds size before old → Holds size (forgotten q ∷ before) (set old q no_note)
forget_holds size before old q below all =
    set_holds size (forgotten q) before old q no_note below
    (record {
      kept = λ k. has_none k ∙ sym (and_right ((is_untold before q k || false) && not false) (not (eqb q q)) (ap not (eq-eqb q q refl)));
      waits = sym (ap (λ (b : Bool). cond b no_kinds (asked before q)) (eq-eqb q q refl));
      apart = λ k. and_left (has no_kinds k) (has no_kinds k) (has_none k);
    })
    (λ p m other at. record {
      kept = λ k. at.kept k ∙ stays_untold (is_untold before p k) (eqb q p) other;
      waits = at.waits ∙ sym (ap (λ (b : Bool). cond b no_kinds (asked before p)) other);
      apart = at.apart;
    })
    all

-- ---- events come

kept_bits : (x c v m : Bool) → (x && v) ≡ false → ((c && v) ≡ true → m ≡ true) → (x || (c && not v)) ≡ ((x || c) && not (m && v)) && not false
kept_bits true c true m e f = absurd (false≢true (sym e))
kept_bits true c false true e f = refl
kept_bits true c false false e f = refl
kept_bits false false v m e f = refl
kept_bits false true false true e f = refl
kept_bits false true false false e f = refl
kept_bits false true true true e f = refl
kept_bits false true true false e f = absurd (false≢true (f refl))

apart_bits : (x c v : Bool) → (x && v) ≡ false → ((x || (c && not v)) && v) ≡ false
apart_bits true c true e = absurd (false≢true (sym e))
apart_bits true c false e = refl
apart_bits false true true e = refl
apart_bits false false true e = refl
apart_bits false true false e = refl
apart_bits false false false e = refl

has-kept : (a b w : Kinds) (k : Kind) → has (with_kinds a (without_kinds b w)) k ≡ (has a k || (has b k && not (has w k)))
has-kept a b w reading = refl
has-kept a b w writing = refl

meets_by : (w c : Kinds) (k : Kind) → (has c k && has w k) ≡ true → meets w c ≡ true
meets_by w c reading e = let both = and_parts c.read w.read e in or_left (w.read && c.read) (w.write && c.write) (and_from w.read c.read both.1 both.0)
meets_by w c writing e = let both = and_parts c.write w.write e in or_right (w.read && c.read) (w.write && c.write) (and_from w.write c.write both.1 both.0)

sorted_here : (before : List Turn) (es : List Ready) (places : List ℕ) (p : ℕ) (n : Note) → holds places p ≡ meets n.wanted (came p es) → HoldsAt before p n → HoldsAt (sorted es places ∷ before) p (after_events n (came p es))
sorted_here before es places p n given_is at =
    let c : Kinds = came p es in
    let m : Bool = meets n.wanted c in
    record {
      kept = λ k.
          has-kept n.kept c n.wanted k
          ∙ kept_bits (has n.kept k) (has c k) (has n.wanted k) m (at.apart k) (meets_by n.wanted c k)
          ∙ ap (λ (u : Bool). ((u || has c k) && not (m && has n.wanted k)) && not false) (at.kept k)
          ∙ ap (λ (w : Kinds). ((is_untold before p k || has c k) && not (m && has w k)) && not false) at.waits
          ∙ ap (λ (b : Bool). ((is_untold before p k || has c k) && not (b && has (asked before p) k)) && not false) (sym given_is);
      waits = ap (λ (w : Kinds). cond m no_kinds w) at.waits ∙ ap (λ (b : Bool). cond b no_kinds (asked before p)) (sym given_is);
      apart = λ k. ap (λ (x : Bool). x && has (cond m no_kinds n.wanted) k) (has-kept n.kept c n.wanted k) ∙ by_given k m;
    }
  where
    by_given : (k : Kind) (m : Bool) → ((has n.kept k || (has (came p es) k && not (has n.wanted k))) && has (cond m no_kinds n.wanted) k) ≡ false
    by_given k true = and_right (has n.kept k || (has (came p es) k && not (has n.wanted k))) (has no_kinds k) (has_none k)
    by_given k false = apart_bits (has n.kept k) (has (came p es) k) (has n.wanted k) (at.apart k)

sort_holds : (size : ℕ) (before : List Turn) (old : List Note) (es : List Ready) (places : List ℕ) (new : List Note) → places ≡ given old es → length new ≡ length old → ((p : ℕ) → p < length old → note_of new p ≡ after_events (note_of old p) (came p es)) → Holds size before old → Holds size (sorted es places ∷ before) new
sort_holds size before old es places new is size_is each all =
    all_hold size (sorted es places ∷ before) new (size_is ∙ all.size_is)
    (λ p h.
    subst (λ (n : Note). HoldsAt (sorted es places ∷ before) p n) (sym (each p (let e = all.size_is in omega (arith, e, h))))
    (sorted_here before es places p (note_of old p) (ap (λ (l : List ℕ). holds l p) is ∙ holds-given old es p) (holds_at size before old all p h)))

-- ---- all calls

pub holds_along : (size : ℕ) (turns : List Turn) (notes : List Note) → IsRun size turns notes → Holds size turns notes
holds_along size [] notes run = subst (λ (v : List Note). Holds size [] v) (sym run) (at_first size)
holds_along size (wanted q kinds told ∷ before) notes run =
    subst (λ (v : List Note). Holds size (wanted q kinds told ∷ before) v) (sym run.2.2)
    (want_holds size before run.0 q kinds told run.2.1 run.2.0 (holds_along size before run.0 run.1))
holds_along size (forgotten q ∷ before) notes run =
    subst (λ (v : List Note). Holds size (forgotten q ∷ before) v) (sym run.2.1) (forget_holds size before run.0 q run.2.0 (holds_along size before run.0 run.1))
holds_along size (sorted es places ∷ before) notes run =
    sort_holds size before run.0 es places notes run.2.0 run.2.1.places run.2.1.each (holds_along size before run.0 run.1)

pub keeps_untold : WhatIsKeptIsUntold
keeps_untold size turns notes run =
    let all = holds_along size turns notes run in
    record { kept = all.kept; waits = all.waits; apart = all.apart }
