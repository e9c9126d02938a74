-- Events noted one by one: what is noted, which places are marked and which are given.
use Rattle.std.proofs.Common.{◌≡◌, ℕ, suc, ◌+◌, ◌<◌, ◌≤◌, Bool, true, false, cond, ◌||◌, ◌&&◌, not, eqb, List, [], ◌∷◌, ◌++◌, length, get_or, set, drop, replicate, refl, ap, sym, ◌∙◌, subst, arith, inl, inr, ◌⊎◌}
use Rattle.std.proofs.Math.Bool.{or-false}
use Rattle.std.proofs.Math.Seq.{drop-cons, set-append_seam}
use Rattle.std.proofs.lemmas.Bool.{and_left, and_parts, cases_eq, cases_lt, eq-eqb, false≢true, ne_eqb, or_right}
use Rattle.std.proofs.lemmas.List.{get_or-set_other, get_or_past, get_or-replicate, length-set, length-append, length-replicate, append_assoc}
use Rattle.std.proofs.lemmas.Grind.{get_or-set_at}
use Rattle.cy_link.specs.declared.readiness.Ready.{Ready}
use Rattle.cy_poll.specs.declared.kinds.Kinds.{Kinds}
use Rattle.cy_poll.specs.declared.kinds.Note.{Note}
use Rattle.cy_poll.specs.Kinds.{kinds_in, meets, no_kinds, with_kinds}
use Rattle.cy_poll.specs.Notes.{no_note, note_of}
use Rattle.cy_poll.specs.Noting.{AreMarks, AreNoted, holds, keeping}
use Rattle.cy_poll.specs.Sorts.{came, given, is_wanted}
use Rattle.cy_poll.proofs.Bits.{kept_twice, without_none}
use Rattle.cy_poll.proofs.Givens.{came-push, given-push, holds-push}

-- these events were noted so far
pub record NotedSoFar (old : List Note) (es : List Ready) (room : List ℕ) (new : List Note) (marks : List Bool) (into : List ℕ) (count : ℕ) : Type 0 where
  pub counted : count ≡ length (given old es)
  pub few : count ≤ length es
  pub places : into ≡ given old es ++ drop count room
  pub noted : AreNoted old es new
  pub marked : AreMarks (length old) (given old es) marks

-- ---- at first

pub none_noted : (old : List Note) (room : List ℕ) (marks : List Bool) → marks ≡ replicate (length old) false → NotedSoFar old [] room old marks room 0
none_noted old room marks e = record {
  counted = refl;
  few = omega arith;
  places = refl;
  noted = record { places = refl; each = λ p h. sym (keeping_none (note_of old p)) };
  marked = record {
    places = ap length e ∙ length-replicate (length old) false;
    each = λ p h. ap (λ (l : List Bool). get_or l p false) e ∙ get_or-replicate (length old) p false false h;
  };
}
  where
    keeping_none : (n : Note) → keeping n no_kinds ≡ n
    keeping_none n = ap (λ (k : Kinds). let m : Note = record { wanted = n.wanted; kept = k } in m) (without_none n.kept n.wanted)

-- ---- one event more

-- a place waits as before
waits_as_before : (old : List Note) (es : List Ready) (new : List Note) → AreNoted old es new → (p : ℕ) → (note_of new p).wanted ≡ (note_of old p).wanted
waits_as_before old es new noted p = by_place (cases_lt p (length old))
  where
    by_place : (p < length old) ⊎ (length old ≤ p) → (note_of new p).wanted ≡ (note_of old p).wanted
    by_place (inl h) = ap (λ (n : Note). n.wanted) (noted.each p h)
    by_place (inr h) =
        ap (λ (n : Note). n.wanted) (get_or_past new p no_note (let e = noted.places in omega (arith, e)) ∙ sym (get_or_past old p no_note h))

-- what is kept of some kinds and then of others
keeping_twice : (n : Note) (first second : Kinds) → keeping (keeping n first) second ≡ keeping n (with_kinds first second)
keeping_twice n first second = ap (λ (k : Kinds). let m : Note = record { wanted = n.wanted; kept = k } in m) (kept_twice n.kept first second n.wanted)

noted_more : (old : List Note) (es : List Ready) (new : List Note) (e : Ready) → AreNoted old es new → AreNoted old (es ++ e ∷ []) (set new e.place (keeping (note_of new e.place) (kinds_in e)))
noted_more old es new e noted = record {
  places = length-set new e.place (keeping (note_of new e.place) (kinds_in e)) ∙ noted.places;
  each = λ p h. by_place p h (cases_eq p e.place);
}
  where
    by_place : (p : ℕ) → p < length old → (p ≡ e.place) ⊎ (p ≡ e.place → ⊥) → note_of (set new e.place (keeping (note_of new e.place) (kinds_in e))) p ≡ keeping (note_of old p) (came p (es ++ e ∷ []))
    by_place p h (inl same) =
        let below : e.place < length new = (let f = noted.places in omega (arith, f, same, h)) in
        let more : came p (es ++ e ∷ []) ≡ with_kinds (came p es) (kinds_in e) = came-push p es e ∙ ap (λ (b : Bool). cond b (with_kinds (came p es) (kinds_in e)) (came p es)) (eq-eqb e.place p (sym same)) in
        get_or-set_at new e.place p (keeping (note_of new e.place) (kinds_in e)) no_note same below
        ∙ ap (λ (q : ℕ). keeping (note_of new q) (kinds_in e)) (sym same)
        ∙ ap (λ (n : Note). keeping n (kinds_in e)) (noted.each p h)
        ∙ keeping_twice (note_of old p) (came p es) (kinds_in e)
        ∙ ap (λ (k : Kinds). keeping (note_of old p) k) (sym more)
    by_place p h (inr other) =
        let more : came p (es ++ e ∷ []) ≡ came p es = came-push p es e ∙ ap (λ (b : Bool). cond b (with_kinds (came p es) (kinds_in e)) (came p es)) (ne_eqb e.place p (λ f. other (sym f))) in
        get_or-set_other new e.place p (keeping (note_of new e.place) (kinds_in e)) no_note other
        ∙ noted.each p h
        ∙ ap (λ (k : Kinds). keeping (note_of old p) k) (sym more)

-- an event that is wanted is of a place in the table
wanted_is_there : (old : List Note) (e : Ready) → is_wanted old e ≡ true → e.place < length old
wanted_is_there old e wanted = by_place (cases_lt e.place (length old))
  where
    by_place : (e.place < length old) ⊎ (length old ≤ e.place) → e.place < length old
    by_place (inl h) = h
    by_place (inr h) = absurd (false≢true (sym (ap (λ (n : Note). meets n.wanted (kinds_in e)) (get_or_past old e.place no_note h)) ∙ wanted))

-- whether a place is given by an event, by the notes and marks so far
given_by : (old : List Note) (es : List Ready) (new : List Note) (marks : List Bool) (e : Ready) → AreNoted old es new → AreMarks (length old) (given old es) marks
    → (is_wanted new e && not (get_or marks e.place false)) ≡ (is_wanted old e && not (holds (given old es) e.place))
given_by old es new marks e noted marked =
    ap (λ (w : Kinds). meets w (kinds_in e) && not (get_or marks e.place false)) (waits_as_before old es new noted e.place) ∙ by_place (cases_lt e.place (length old))
  where
    by_place : (e.place < length old) ⊎ (length old ≤ e.place) → (is_wanted old e && not (get_or marks e.place false)) ≡ (is_wanted old e && not (holds (given old es) e.place))
    by_place (inl h) = ap (λ (b : Bool). is_wanted old e && not b) (marked.each e.place h)
    by_place (inr h) =
        let unwanted : is_wanted old e ≡ false = ap (λ (n : Note). meets n.wanted (kinds_in e)) (get_or_past old e.place no_note h) in
        and_left (is_wanted old e) (not (get_or marks e.place false)) unwanted ∙ sym (and_left (is_wanted old e) (not (holds (given old es) e.place)) unwanted)

marked_more : (count : ℕ) (ns : List ℕ) (marks : List Bool) (n : ℕ) → n < count → AreMarks count ns marks → AreMarks count (ns ++ n ∷ []) (set marks n true)
marked_more count ns marks n h m = record {
  places = length-set marks n true ∙ m.places;
  each = λ p below. by_place p below (cases_eq p n);
}
  where
    by_place : (p : ℕ) → p < count → (p ≡ n) ⊎ (p ≡ n → ⊥) → get_or (set marks n true) p false ≡ holds (ns ++ n ∷ []) p
    by_place p below (inl same) =
        get_or-set_at marks n p true false same (let e = m.places in omega (arith, e, h))
        ∙ sym (holds-push ns n p ∙ or_right (holds ns p) (eqb n p) (eq-eqb n p (sym same)))
    by_place p below (inr other) =
        get_or-set_other marks n p true false other ∙ m.each p below
        ∙ sym (holds-push ns n p ∙ ap (λ (b : Bool). holds ns p || b) (ne_eqb n p (λ e. other (sym e))) ∙ or-false (holds ns p))

-- one place more is written behind those that were given
place_more : (ns room : List ℕ) (n : ℕ) → length ns < length room → set (ns ++ drop (length ns) room) (length ns) n ≡ (ns ++ n ∷ []) ++ drop (length ns + 1) room
place_more ns room n h =
    ap (λ (l : List ℕ). set (ns ++ l) (length ns) n) (drop-cons room (length ns) 0 h)
    ∙ set-append_seam ns (get_or room (length ns) 0) (drop (suc (length ns)) room) n
    ∙ ap (λ (k : ℕ). ns ++ n ∷ drop k room) (let e : suc (length ns) ≡ length ns + 1 = omega arith in e)
    ∙ sym (append_assoc ns (n ∷ []) (drop (length ns + 1) room))

pub given_noted : (old : List Note) (es : List Ready) (room : List ℕ) (new : List Note) (marks : List Bool) (into : List ℕ) (count : ℕ) (e : Ready) → NotedSoFar old es room new marks into count → length es < length room
    → (is_wanted new e && not (get_or marks e.place false)) ≡ true
    → NotedSoFar old (es ++ e ∷ []) room (set new e.place (keeping (note_of new e.place) (kinds_in e))) (set marks e.place true) (set into count e.place) (count + 1)
given_noted old es room new marks into count e so less gives =
    let g : List ℕ = given old es in
    let yes : (is_wanted old e && not (holds g e.place)) ≡ true = sym (given_by old es new marks e so.noted so.marked) ∙ gives in
    let more : given old (es ++ e ∷ []) ≡ g ++ e.place ∷ [] = given-push old es e ∙ ap (λ (b : Bool). cond b (g ++ e.place ∷ []) g) yes in
    let below : e.place < length old = wanted_is_there old e (and_parts (is_wanted old e) (not (holds g e.place)) yes).0 in
    record {
      counted = (let f = ap length more in let k = length-append g (e.place ∷ []) in let n = so.counted in omega (arith, f, k, n));
      few = (let k = length-append es (e ∷ []) in let f = so.few in omega (arith, k, f));
      places = places_more g so.counted so.places more;
      noted = noted_more old es new e so.noted;
      marked = subst (λ (l : List ℕ). AreMarks (length old) l (set marks e.place true)) (sym more) (marked_more (length old) g marks e.place below so.marked);
    }
  where
    places_more : (g : List ℕ) → count ≡ length g → into ≡ g ++ drop count room → given old (es ++ e ∷ []) ≡ g ++ e.place ∷ [] → set into count e.place ≡ given old (es ++ e ∷ []) ++ drop (count + 1) room
    places_more g counted written more =
        ap (λ (l : List ℕ). set l count e.place) written
        ∙ ap (λ (k : ℕ). set (g ++ drop k room) k e.place) counted
        ∙ place_more g room e.place (let f = so.few in omega (arith, f, counted, less))
        ∙ ap (λ (k : ℕ). (g ++ e.place ∷ []) ++ drop (k + 1) room) (sym counted)
        ∙ ap (λ (l : List ℕ). l ++ drop (count + 1) room) (sym more)

pub kept_noted : (old : List Note) (es : List Ready) (room : List ℕ) (new : List Note) (marks : List Bool) (into : List ℕ) (count : ℕ) (e : Ready) → NotedSoFar old es room new marks into count
    → (is_wanted new e && not (get_or marks e.place false)) ≡ false
    → NotedSoFar old (es ++ e ∷ []) room (set new e.place (keeping (note_of new e.place) (kinds_in e))) marks into count
kept_noted old es room new marks into count e so gives =
    let g : List ℕ = given old es in
    let no_place : (is_wanted old e && not (holds g e.place)) ≡ false = sym (given_by old es new marks e so.noted so.marked) ∙ gives in
    let same : given old (es ++ e ∷ []) ≡ g = given-push old es e ∙ ap (λ (b : Bool). cond b (g ++ e.place ∷ []) g) no_place in
    record {
      counted = so.counted ∙ ap length (sym same);
      few = (let k = length-append es (e ∷ []) in let f = so.few in omega (arith, k, f));
      places = so.places ∙ ap (λ (l : List ℕ). l ++ drop count room) (sym same);
      noted = noted_more old es new e so.noted;
      marked = subst (λ (l : List ℕ). AreMarks (length old) l marks) (sym same) so.marked;
    }
