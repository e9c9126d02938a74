-- Places that were given wait for nothing and aren't marked: one by one, and what is noted in the end.
use Rattle.std.proofs.Common.{◌≡◌, ℕ, zero, suc, ◌<◌, ◌≤◌, Bool, true, false, cond, ◌||◌, ◌&&◌, not, eqb, List, [], ◌∷◌, ◌++◌, length, get_or, set, drop, take, replicate, refl, ap, sym, ◌∙◌, arith, inl, inr, ◌⊎◌}
use Rattle.std.specs.Prelude.{All}
use Rattle.std.proofs.Math.Bool.{or-false}
use Rattle.std.proofs.Math.Seq.{take-append_seam}
use Rattle.std.proofs.lemmas.Bool.{and_right, cases_eq, cases_lt, eq-eqb, false≢true, ne_eqb, or_left, or_right}
use Rattle.std.proofs.lemmas.Grind.{get_or-set_at}
use Rattle.std.proofs.lemmas.List.{ext_get_or, get_or_past, get_or-set_other, get_or-replicate, length-set, length-replicate}
use Rattle.cy_link.specs.declared.readiness.Ready.{Ready}
use Rattle.cy_poll.specs.declared.kinds.Kinds.{Kinds}
use Rattle.cy_poll.specs.declared.kinds.Note.{Note}
use Rattle.cy_poll.specs.Kinds.{meets, no_kinds, with_kinds, without_kinds}
use Rattle.cy_poll.specs.Notes.{no_note, note_of}
use Rattle.cy_poll.specs.Noting.{AreCleared, AreMarks, AreNoted, HaveEnded, holds, idle, keeping}
use Rattle.cy_poll.specs.Sorts.{AreSorted, after_events, came, given}
use Rattle.cy_poll.proofs.Givens.{holds-given, holds-push}

-- these places were gone over so far
pub record EndedSoFar (old : List Note) (before : List Bool) (ns : List ℕ) (new : List Note) (marks : List Bool) : Type 0 where
  pub ended : HaveEnded old ns new
  pub cleared : AreCleared before ns marks

pub none_ended : (old : List Note) (before : List Bool) → EndedSoFar old before [] old before
none_ended old before = record {
  ended = record { places = refl; each = λ p h. refl };
  cleared = record { places = refl; each = λ p h. sym (and-true (get_or before p false)) };
}
  where
    and-true : (b : Bool) → (b && true) ≡ b
    and-true true = refl
    and-true false = refl

holds_last : (ns : List ℕ) (n p : ℕ) → p ≡ n → holds (ns ++ n ∷ []) p ≡ true
holds_last ns n p same = holds-push ns n p ∙ or_right (holds ns p) (eqb n p) (eq-eqb n p (sym same))

holds_as_before : (ns : List ℕ) (n p : ℕ) → (p ≡ n → ⊥) → holds (ns ++ n ∷ []) p ≡ holds ns p
holds_as_before ns n p other = holds-push ns n p ∙ ap (λ (b : Bool). holds ns p || b) (ne_eqb n p (λ e. other (sym e))) ∙ or-false (holds ns p)

ended_more : (old : List Note) (ns : List ℕ) (new : List Note) (n : ℕ) → HaveEnded old ns new → HaveEnded old (ns ++ n ∷ []) (set new n (idle (note_of new n)))
ended_more old ns new n ended = record {
  places = length-set new n (idle (note_of new n)) ∙ ended.places;
  each = λ p h. by_place p h (cases_eq p n);
}
  where
    idle_both : (b : Bool) (m : Note) → idle (cond b (idle m) m) ≡ idle m
    idle_both true m = refl
    idle_both false m = refl

    by_place : (p : ℕ) → p < length old → (p ≡ n) ⊎ (p ≡ n → ⊥) → note_of (set new n (idle (note_of new n))) p ≡ cond (holds (ns ++ n ∷ []) p) (idle (note_of old p)) (note_of old p)
    by_place p h (inl same) =
        get_or-set_at new n p (idle (note_of new n)) no_note same (let e = ended.places in omega (arith, e, same, h))
        ∙ ap (λ (q : ℕ). idle (note_of new q)) (sym same)
        ∙ ap idle (ended.each p h)
        ∙ idle_both (holds ns p) (note_of old p)
        ∙ ap (λ (b : Bool). cond b (idle (note_of old p)) (note_of old p)) (sym (holds_last ns n p same))
    by_place p h (inr other) =
        get_or-set_other new n p (idle (note_of new n)) no_note other
        ∙ ended.each p h
        ∙ ap (λ (b : Bool). cond b (idle (note_of old p)) (note_of old p)) (sym (holds_as_before ns n p other))

cleared_more : (before : List Bool) (ns : List ℕ) (marks : List Bool) (n : ℕ) → AreCleared before ns marks → AreCleared before (ns ++ n ∷ []) (set marks n false)
cleared_more before ns marks n cleared = record {
  places = length-set marks n false ∙ cleared.places;
  each = λ p h. by_place p h (cases_eq p n);
}
  where
    by_place : (p : ℕ) → p < length before → (p ≡ n) ⊎ (p ≡ n → ⊥) → get_or (set marks n false) p false ≡ (get_or before p false && not (holds (ns ++ n ∷ []) p))
    by_place p h (inl same) =
        get_or-set_at marks n p false false same (let e = cleared.places in omega (arith, e, same, h))
        ∙ sym (and_right (get_or before p false) (not (holds (ns ++ n ∷ []) p)) (ap not (holds_last ns n p same)))
    by_place p h (inr other) =
        get_or-set_other marks n p false false other
        ∙ cleared.each p h
        ∙ ap (λ (b : Bool). get_or before p false && not b) (sym (holds_as_before ns n p other))

pub more_ended : (old : List Note) (before : List Bool) (ns : List ℕ) (new : List Note) (marks : List Bool) (n : ℕ) → EndedSoFar old before ns new marks → EndedSoFar old before (ns ++ n ∷ []) (set new n (idle (note_of new n))) (set marks n false)
more_ended old before ns new marks n so = record { ended = ended_more old ns new n so.ended; cleared = cleared_more before ns marks n so.cleared }

-- ---- in the end

-- what is noted of a place after events, by whether it is given
abbrev after_given : Bool → Note → Kinds → Note
after_given b n k = record { wanted = cond b no_kinds n.wanted; kept = with_kinds n.kept (without_kinds k n.wanted) }

pub sorted_notes : (old : List Note) (es : List Ready) (noted new : List Note) → AreNoted old es noted → HaveEnded noted (given old es) new → AreSorted old es new
sorted_notes old es noted new first then = record {
  places = then.places ∙ first.places;
  each = λ p h.
      then.each p (let e = first.places in omega (arith, e, h))
      ∙ ap (λ (m : Note). cond (holds (given old es) p) (idle m) m) (first.each p h)
      ∙ ap (λ (b : Bool). cond b (idle (keeping (note_of old p) (came p es))) (keeping (note_of old p) (came p es))) (holds-given old es p)
      ∙ by_given (meets (note_of old p).wanted (came p es)) (note_of old p) (came p es) refl;
}
  where
    by_given : (b : Bool) (n : Note) (k : Kinds) → meets n.wanted k ≡ b → cond b (idle (keeping n k)) (keeping n k) ≡ after_events n k
    by_given true n k e = ap (λ (c : Bool). after_given c n k) (sym e)
    by_given false n k e = ap (λ (c : Bool). after_given c n k) (sym e)

pub no_marks : (old : List Note) (es : List Ready) (marks cleared : List Bool) (count : ℕ) → count ≡ length old → AreMarks (length old) (given old es) marks → AreCleared marks (given old es) cleared → cleared ≡ replicate count false
no_marks old es marks cleared count is first then =
    ext_get_or false cleared (replicate count false) (then.places ∙ first.places ∙ sym is ∙ sym (length-replicate count false)) (λ p h. at p (let e = then.places in omega (arith, e, h)))
  where
    never : (b : Bool) → (b && not b) ≡ false
    never true = refl
    never false = refl

    at : (p : ℕ) → p < length marks → get_or cleared p false ≡ get_or (replicate count false) p false
    at p h =
        let below : p < length old = (let e = first.places in omega (arith, e, h)) in
        then.each p h ∙ ap (λ (b : Bool). b && not (holds (given old es) p)) (first.each p below) ∙ never (holds (given old es) p)
        ∙ sym (get_or-replicate count p false false (omega (arith, is, below)))

-- what stands in a list after its first elements were written anew, all of them
pub all_written : {X : Type 0} (len : ℕ) (new old : List X) → length new ≡ len → take len (new ++ drop (length new) old) ≡ new
all_written len new old e = ap (λ (k : ℕ). take k (new ++ drop (length new) old)) (sym e) ∙ take-append_seam new (drop (length new) old)

-- the front that was written is what was given
pub front_given : (old : List Note) (es : List Ready) (into room : List ℕ) (count : ℕ) → count ≡ length (given old es) → into ≡ given old es ++ drop count room → take count into ≡ given old es
front_given old es into room count e written =
    ap (λ (l : List ℕ). take count l) written ∙ ap (λ (k : ℕ). take k (given old es ++ drop count room)) e ∙ take-append_seam (given old es) (drop count room)

-- an element is among the elements
holds_at : (ns : List ℕ) (k d : ℕ) → k < length ns → holds ns (get_or ns k d) ≡ true
holds_at [] k d h = absurd (omega arith)
holds_at (n ∷ ns) zero d h = or_left (eqb n n) (holds ns n) (eq-eqb n n refl)
holds_at (n ∷ ns) (suc k) d h = or_right (eqb n (get_or ns k d)) (holds ns (get_or ns k d)) (holds_at ns k d (omega arith))

-- places that are given are in the table
pub given_below : (old : List Note) (es : List Ready) → All (λ p. p < length old) (given old es)
given_below old es k d h = below (get_or (given old es) k d) (holds_at (given old es) k d h)
  where
    by_order : (p : ℕ) → meets (note_of old p).wanted (came p es) ≡ true → (p < length old) ⊎ (length old ≤ p) → p < length old
    by_order p waits (inl h) = h
    by_order p waits (inr h) = absurd (false≢true (sym (ap (λ (n : Note). meets n.wanted (came p es)) (get_or_past old p no_note h)) ∙ waits))

    below : (p : ℕ) → holds (given old es) p ≡ true → p < length old
    below p held = by_order p (sym (holds-given old es p) ∙ held) (cases_lt p (length old))
