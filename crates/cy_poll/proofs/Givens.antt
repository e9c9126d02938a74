-- Which places events give, and of which kinds events came, by one event more.
use Rattle.std.proofs.Common.{◌≡◌, ℕ, Bool, true, false, cond, ◌||◌, ◌&&◌, not, eqb, List, [], ◌∷◌, ◌++◌, map, filter, refl, ap, sym, ◌∙◌}
use Rattle.std.proofs.Math.Bool.{or_assoc, or-false}
use Rattle.std.proofs.lemmas.Bool.{eqb-true, eqb-false, eq-eqb, ne_eqb, or_right}
use Rattle.std.proofs.lemmas.List.{map-append, append-nil}
use Rattle.std.proofs.lemmas.List.Elements.{filter-append}
use Rattle.cy_link.specs.declared.readiness.Ready.{Ready}
use Rattle.cy_poll.specs.declared.kinds.Kinds.{Kinds}
use Rattle.cy_poll.specs.declared.kinds.Note.{Note}
use Rattle.cy_poll.specs.Kinds.{kinds_in, meets, no_kinds, with_kinds}
use Rattle.cy_poll.specs.Notes.{note_of}
use Rattle.cy_poll.specs.Noting.{holds}
use Rattle.cy_poll.specs.Sorts.{came, firsts, given, is_wanted}
use Rattle.cy_poll.proofs.Bits.{meets-with, meets_none, with_kinds_assoc, with_none}

-- ---- numbers, each once

pub holds-push : (ns : List ℕ) (n m : ℕ) → holds (ns ++ n ∷ []) m ≡ (holds ns m || eqb n m)
holds-push [] n m = or-false (eqb n m)
holds-push (k ∷ ns) n m = ap (λ (b : Bool). eqb k m || b) (holds-push ns n m) ∙ sym (or_assoc (eqb k m) (holds ns m) (eqb n m))

-- a filter that leaves one number out leaves the others
others_stay : (n m : ℕ) (ns : List ℕ) → eqb n m ≡ false → holds (filter (λ k. not (eqb k n)) ns) m ≡ holds ns m
others_stay n m [] other = refl
others_stay n m (k ∷ ns) other = by_case (eqb k n) refl (others_stay n m ns other)
  where
    by_case : (b : Bool) → eqb k n ≡ b → holds (filter (λ k. not (eqb k n)) ns) m ≡ holds ns m → holds (cond (not b) (k ∷ filter (λ k. not (eqb k n)) ns) (filter (λ k. not (eqb k n)) ns)) m ≡ (eqb k m || holds ns m)
    by_case true e rest = rest ∙ ap (λ (b : Bool). b || holds ns m) (sym (ap (λ (j : ℕ). eqb j m) (eqb-true k n e) ∙ other))
    by_case false e rest = ap (λ (b : Bool). eqb k m || b) rest

pub holds-firsts : (ns : List ℕ) (m : ℕ) → holds (firsts ns) m ≡ holds ns m
holds-firsts [] m = refl
holds-firsts (n ∷ ns) m = by_case (eqb n m) refl (holds-firsts ns m)
  where
    by_case : (b : Bool) → eqb n m ≡ b → holds (firsts ns) m ≡ holds ns m → (b || holds (filter (λ k. not (eqb k n)) (firsts ns)) m) ≡ (b || holds ns m)
    by_case true e rest = refl
    by_case false e rest = others_stay n m (firsts ns) e ∙ rest

eqb_sym : (m n : ℕ) → eqb m n ≡ eqb n m
eqb_sym m n = by_case (eqb m n) refl
  where
    by_case : (b : Bool) → eqb m n ≡ b → b ≡ eqb n m
    by_case true e = sym (eq-eqb n m (sym (eqb-true m n e)))
    by_case false e = sym (ne_eqb n m (λ f. eqb-false m n e (sym f)))

-- what a filter that leaves one number out makes of a number at the end
filter-push : (k n : ℕ) (ns : List ℕ) (b : Bool) → eqb n k ≡ b → filter (λ j. not (eqb j k)) (ns ++ n ∷ []) ≡ cond b (filter (λ j. not (eqb j k)) ns) (filter (λ j. not (eqb j k)) ns ++ n ∷ [])
filter-push k n ns b e =
    filter-append (λ j. not (eqb j k)) ns (n ∷ [])
    ∙ ap (λ (c : Bool). filter (λ j. not (eqb j k)) ns ++ cond (not c) (n ∷ []) []) e
    ∙ by_case b (filter (λ j. not (eqb j k)) ns)
  where
    by_case : (b : Bool) (l : List ℕ) → l ++ cond (not b) (n ∷ []) [] ≡ cond b l (l ++ n ∷ [])
    by_case true l = append-nil l
    by_case false l = refl

-- one number more is put at the end, where it isn't there yet
pub firsts-push : (ns : List ℕ) (n : ℕ) → firsts (ns ++ n ∷ []) ≡ cond (holds ns n) (firsts ns) (firsts ns ++ n ∷ [])
firsts-push [] n = refl
firsts-push (k ∷ ns) n =
    let others : List ℕ → List ℕ = filter (λ j. not (eqb j k)) in
    ap (λ (l : List ℕ). k ∷ others l) (firsts-push ns n) ∙ by_case (holds ns n)
  where
    by_same : (b : Bool) → eqb n k ≡ b → k ∷ filter (λ j. not (eqb j k)) (firsts ns ++ n ∷ []) ≡ cond (eqb k n || false) (k ∷ filter (λ j. not (eqb j k)) (firsts ns)) ((k ∷ filter (λ j. not (eqb j k)) (firsts ns)) ++ n ∷ [])
    by_same true e = ap (λ (l : List ℕ). k ∷ l) (filter-push k n (firsts ns) true e) ∙ ap (λ (b : Bool). cond (b || false) (k ∷ filter (λ j. not (eqb j k)) (firsts ns)) ((k ∷ filter (λ j. not (eqb j k)) (firsts ns)) ++ n ∷ [])) (sym (eqb_sym k n ∙ e))
    by_same false e = ap (λ (l : List ℕ). k ∷ l) (filter-push k n (firsts ns) false e) ∙ ap (λ (b : Bool). cond (b || false) (k ∷ filter (λ j. not (eqb j k)) (firsts ns)) ((k ∷ filter (λ j. not (eqb j k)) (firsts ns)) ++ n ∷ [])) (sym (eqb_sym k n ∙ e))

    by_case : (h : Bool) → k ∷ filter (λ j. not (eqb j k)) (cond h (firsts ns) (firsts ns ++ n ∷ [])) ≡ cond (eqb k n || h) (k ∷ filter (λ j. not (eqb j k)) (firsts ns)) ((k ∷ filter (λ j. not (eqb j k)) (firsts ns)) ++ n ∷ [])
    by_case true = ap (λ (b : Bool). cond b (k ∷ filter (λ j. not (eqb j k)) (firsts ns)) ((k ∷ filter (λ j. not (eqb j k)) (firsts ns)) ++ n ∷ [])) (sym (or_right (eqb k n) true refl))
    by_case false = by_same (eqb n k) refl

-- ---- events

pub came-push : (p : ℕ) (es : List Ready) (e : Ready) → came p (es ++ e ∷ []) ≡ cond (eqb e.place p) (with_kinds (came p es) (kinds_in e)) (came p es)
came-push p [] e = by_case (eqb e.place p)
  where
    by_case : (b : Bool) → cond b (with_kinds (kinds_in e) no_kinds) no_kinds ≡ cond b (with_kinds no_kinds (kinds_in e)) no_kinds
    by_case true = with_none (kinds_in e)
    by_case false = refl
came-push p (f ∷ es) e =
    ap (λ (k : Kinds). cond (eqb f.place p) (with_kinds (kinds_in f) k) k) (came-push p es e) ∙ by_cases (eqb f.place p) (eqb e.place p)
  where
    by_cases : (a b : Bool) → cond a (with_kinds (kinds_in f) (cond b (with_kinds (came p es) (kinds_in e)) (came p es))) (cond b (with_kinds (came p es) (kinds_in e)) (came p es)) ≡ cond b (with_kinds (cond a (with_kinds (kinds_in f) (came p es)) (came p es)) (kinds_in e)) (cond a (with_kinds (kinds_in f) (came p es)) (came p es))
    by_cases true true = with_kinds_assoc (kinds_in f) (came p es) (kinds_in e)
    by_cases true false = refl
    by_cases false true = refl
    by_cases false false = refl

-- the place of an event that is wanted is given, unless it was before
pub given-push : (notes : List Note) (es : List Ready) (e : Ready) → given notes (es ++ e ∷ []) ≡ cond (is_wanted notes e && not (holds (given notes es) e.place)) (given notes es ++ e.place ∷ []) (given notes es)
given-push notes es e =
    ap (λ (l : List Ready). firsts (map (λ e. e.place) l)) (filter-append (is_wanted notes) es (e ∷ []))
    ∙ ap firsts (map-append (λ e. e.place) (filter (is_wanted notes) es) (filter (is_wanted notes) (e ∷ [])))
    ∙ by_case (is_wanted notes e) (map (λ e. e.place) (filter (is_wanted notes) es))
  where
    by_held : (b : Bool) (l m : List ℕ) → cond b l m ≡ cond (not b) m l
    by_held true l m = refl
    by_held false l m = refl

    by_case : (b : Bool) (l : List ℕ) → firsts (l ++ map (λ e. e.place) (cond b (e ∷ []) [])) ≡ cond (b && not (holds (firsts l) e.place)) (firsts l ++ e.place ∷ []) (firsts l)
    by_case false l = ap firsts (append-nil l)
    by_case true l = firsts-push l e.place ∙ ap (λ (b : Bool). cond b (firsts l) (firsts l ++ e.place ∷ [])) (sym (holds-firsts l e.place)) ∙ by_held (holds (firsts l) e.place) (firsts l) (firsts l ++ e.place ∷ [])

and-true : (b : Bool) → (b && true) ≡ b
and-true true = refl
and-true false = refl

and-false : (b : Bool) → (b && false) ≡ false
and-false true = refl
and-false false = refl

holds_wanted : (notes : List Note) (es : List Ready) (p : ℕ) → holds (map (λ e. e.place) (filter (is_wanted notes) es)) p ≡ meets (note_of notes p).wanted (came p es)
holds_wanted notes [] p = sym (meets_none (note_of notes p).wanted)
holds_wanted notes (e ∷ es) p =
    one_more (is_wanted notes e) (filter (is_wanted notes) es)
    ∙ ap (λ (b : Bool). (is_wanted notes e && eqb e.place p) || b) (holds_wanted notes es p)
    ∙ by_place (eqb e.place p) refl
  where
    one_more : (b : Bool) (l : List Ready) → holds (map (λ e. e.place) (cond b (e ∷ l) l)) p ≡ ((b && eqb e.place p) || holds (map (λ e. e.place) l) p)
    one_more true l = refl
    one_more false l = refl

    by_place : (b : Bool) → eqb e.place p ≡ b → ((is_wanted notes e && b) || meets (note_of notes p).wanted (came p es)) ≡ meets (note_of notes p).wanted (cond b (with_kinds (kinds_in e) (came p es)) (came p es))
    by_place true same =
        ap (λ (b : Bool). b || meets (note_of notes p).wanted (came p es)) (and-true (is_wanted notes e) ∙ ap (λ (q : ℕ). meets (note_of notes q).wanted (kinds_in e)) (eqb-true e.place p same))
        ∙ sym (meets-with (note_of notes p).wanted (kinds_in e) (came p es))
    by_place false other = ap (λ (b : Bool). b || meets (note_of notes p).wanted (came p es)) (and-false (is_wanted notes e))

-- a place is given exactly where one of its events is wanted
pub holds-given : (notes : List Note) (es : List Ready) (p : ℕ) → holds (given notes es) p ≡ meets (note_of notes p).wanted (came p es)
holds-given notes es p = holds-firsts (map (λ e. e.place) (filter (is_wanted notes) es)) p ∙ holds_wanted notes es p
