-- No event is lost, none is missed and none is told twice; who is given waits.
use Rattle.std.proofs.Common.{◌≡◌, ℕ, ◌<◌, ◌≤◌, Bool, true, false, cond, ◌||◌, ◌&&◌, not, eqb, List, [], ◌∷◌, ◌++◌, length, map, filter, refl, ap, sym, ◌∙◌, subst, arith, inl, inr, ◌⊎◌}
use Rattle.std.proofs.lemmas.Bool.{cases_lt, false≢true, or_from, or_parts}
use Rattle.std.proofs.lemmas.List.{append_assoc, get_or_past}
use Rattle.cy_poll.specs.declared.kinds.Kinds.{Kinds}
use Rattle.cy_poll.specs.declared.kinds.Note.{Note}
use Rattle.cy_poll.specs.Kinds.{meets}
use Rattle.cy_poll.specs.Notes.{no_note, note_of}
use Rattle.cy_poll.specs.Noting.{holds}
use Rattle.cy_poll.specs.Sorts.{came, firsts, is_wanted}
use Rattle.cy_poll.specs.Runs.{Kind, Turn, brings, forgets, has, is_settled, is_untold, reading, sorted, tells, writing}
use Rattle.cy_poll.specs.Laws.{EventsGiveWhoWaits, IsDistinct, NoEventIsLost, WantMissesNothing}
use Rattle.cy_poll.proofs.Givens.{holds-given}
use Rattle.cy_poll.proofs.Untold.{holds_along}

-- ---- an event is kept, told or forgotten

first_bits : (u x f : Bool) → ((((u || true) && not x) && not f) ≡ true) ⊎ (((x || f) || false) ≡ true)
first_bits true true f = inr refl
first_bits true false true = inr refl
first_bits true false false = inl refl
first_bits false true f = inr refl
first_bits false false true = inr refl
first_bits false false false = inl refl

more_bits : (u b x f r : Bool) → (u ≡ true) ⊎ (r ≡ true) → ((((u || b) && not x) && not f) ≡ true) ⊎ (((x || f) || r) ≡ true)
more_bits u b true f r e = inr refl
more_bits u b false true r e = inr refl
more_bits true b false false r e = inl refl
more_bits false b false false true e = inr refl
more_bits false b false false false (inl e) = absurd (false≢true e)
more_bits false b false false false (inr e) = absurd (false≢true e)

untold_or_settled : (after before : List Turn) (t : Turn) (p : ℕ) (k : Kind) → brings t p k ≡ true → (is_untold (after ++ t ∷ before) p k ≡ true) ⊎ (is_settled (after ++ t ∷ []) before p k ≡ true)
untold_or_settled [] before t p k b = by_brought (brings t p k) b
  where
    by_brought : (b : Bool) → b ≡ true → ((((is_untold before p k || b) && not (tells t before p k)) && not (forgets t p)) ≡ true) ⊎ (((tells t before p k || forgets t p) || false) ≡ true)
    by_brought true e = first_bits (is_untold before p k) (tells t before p k) (forgets t p)
    by_brought false e = absurd (false≢true e)
untold_or_settled (s ∷ after) before t p k b = along (untold_or_settled after before t p k b)
  where
    along : (is_untold (after ++ t ∷ before) p k ≡ true) ⊎ (is_settled (after ++ t ∷ []) before p k ≡ true) → (is_untold (s ∷ (after ++ t ∷ before)) p k ≡ true) ⊎ (is_settled (s ∷ (after ++ t ∷ [])) before p k ≡ true)
    along e =
        rw (append_assoc after (t ∷ []) before)
        (more_bits (is_untold (after ++ t ∷ before) p k) (brings s p k) (tells s (after ++ t ∷ before) p k) (forgets s p) (is_settled (after ++ t ∷ []) before p k) e)

pub none_lost : NoEventIsLost
none_lost size after before es places notes p k run below came =
    by_case (untold_or_settled after before (sorted es places) p k came)
  where
    by_case : (is_untold (after ++ sorted es places ∷ before) p k ≡ true) ⊎ (is_settled (after ++ sorted es places ∷ []) before p k ≡ true) → (has (note_of notes p).kept k ≡ true) ⊎ (is_settled (after ++ sorted es places ∷ []) before p k ≡ true)
    by_case (inl e) = inl ((holds_along size (after ++ sorted es places ∷ before) notes run).kept p k below ∙ e)
    by_case (inr e) = inr e

-- ---- a place that asks

pub none_missed : WantMissesNothing
none_missed size before p kinds told notes run =
    let all = holds_along size before run.0 run.1 in
    let below : p < size = (let e = all.size_is in let h = run.2.0 in omega (arith, e, h)) in
    run.2.1
    ∙ ap (λ (b : Bool). (b && kinds.read) || ((note_of run.0 p).kept.write && kinds.write)) (all.kept p reading below)
    ∙ ap (λ (b : Bool). (is_untold before p reading && kinds.read) || (b && kinds.write)) (all.kept p writing below)

-- ---- places that are given

not-held : (q : ℕ → Bool) (n : ℕ) (ns : List ℕ) → holds ns n ≡ false → holds (filter q ns) n ≡ false
not-held q n [] h = refl
not-held q n (m ∷ ns) h = by_case (q m) (or_parts (eqb m n) (holds ns n) h).0 (not-held q n ns (or_parts (eqb m n) (holds ns n) h).1)
  where
    by_case : (b : Bool) → eqb m n ≡ false → holds (filter q ns) n ≡ false → holds (cond b (m ∷ filter q ns) (filter q ns)) n ≡ false
    by_case true e rest = or_from (eqb m n) (holds (filter q ns) n) e rest
    by_case false e rest = rest

distinct-filter : (q : ℕ → Bool) (ns : List ℕ) → IsDistinct ns → IsDistinct (filter q ns)
distinct-filter q [] d = tt
distinct-filter q (n ∷ ns) d = by_case (q n) (distinct-filter q ns d.1)
  where
    by_case : (b : Bool) → IsDistinct (filter q ns) → IsDistinct (cond b (n ∷ filter q ns) (filter q ns))
    by_case true rest = (not-held q n ns d.0, rest)
    by_case false rest = rest

left_out : (n : ℕ) (ns : List ℕ) → holds (filter (λ m. not (eqb m n)) ns) n ≡ false
left_out n [] = refl
left_out n (m ∷ ns) = by_case (eqb m n) refl (left_out n ns)
  where
    by_case : (b : Bool) → eqb m n ≡ b → holds (filter (λ m. not (eqb m n)) ns) n ≡ false → holds (cond (not b) (m ∷ filter (λ m. not (eqb m n)) ns) (filter (λ m. not (eqb m n)) ns)) n ≡ false
    by_case true e rest = rest
    by_case false e rest = or_from (eqb m n) (holds (filter (λ m. not (eqb m n)) ns) n) e rest

distinct-firsts : (ns : List ℕ) → IsDistinct (firsts ns)
distinct-firsts [] = tt
distinct-firsts (n ∷ ns) = (left_out n (firsts ns), distinct-filter (λ m. not (eqb m n)) (firsts ns) (distinct-firsts ns))

pub who_waits : EventsGiveWhoWaits
who_waits size before es places notes run =
    let all = holds_along size before run.0 run.1 in
    let is = run.2.0 in
    record {
      once = subst IsDistinct (sym is) (distinct-firsts (map (λ e. e.place) (filter (is_wanted run.0) es)));
      below = λ p h. by_order p all.size_is (sym (ap (λ (l : List ℕ). holds l p) is ∙ holds-given run.0 es p) ∙ h) (cases_lt p size);
      exact = λ p h. ap (λ (l : List ℕ). holds l p) is ∙ holds-given run.0 es p ∙ ap (λ (w : Kinds). meets w (came p es)) (all.waits p h);
    }
  where
    by_order : (p : ℕ) → length run.0 ≡ size → meets (note_of run.0 p).wanted (came p es) ≡ true → (p < size) ⊎ (size ≤ p) → p < size
    by_order p e waits (inl h) = h
    by_order p e waits (inr h) =
        absurd (false≢true (sym (ap (λ (n : Note). meets n.wanted (came p es)) (get_or_past run.0 p no_note (omega (arith, e, h)))) ∙ waits))
