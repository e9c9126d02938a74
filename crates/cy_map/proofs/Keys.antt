-- Maps whose keys are read as bytes: what an insert leaves at any bytes.
use Rattle.std.proofs.Common.{◌≡◌, ℕ, Bool, true, false, cond, List, Option, HashMap, sym, ◌∙◌, subst, ⊎_elim}
use Rattle.std.specs.HashMap.{UpdatesBy, get_by}
use Rattle.std.specs.Map.{KeepsOthers, IsKeyTest, AreApart, lookup}
use Rattle.std.specs.Str.{bytes_eq}
use Rattle.std.specs.Cmp.Lexicographic.{nat_list_eq_equiv}
use Rattle.std.proofs.lemmas.Bool.{cases_Bool, cond-true, cond-false}
use Rattle.std.proofs.lemmas.Slice.Eq.{bytes_eq-Decides}

apart : (text other key : List ℕ) → bytes_eq text other ≡ false → bytes_eq text key ≡ true → bytes_eq other key ≡ false
apart text other key differ same = nat_list_eq_equiv.symm other key ∙ sym (nat_list_eq_equiv.congr text key other same) ∙ differ

kept : {K X : Type 0} (eq : K → K → Bool) (test : K → Bool) (old new : List (K × X)) → KeepsOthers eq test old new
    → (other : K → Bool) → IsKeyTest eq other → AreApart test other → lookup other new ≡ lookup other old
unfolding KeepsOthers
kept eq test old new keeps = keeps

-- after a change at a text the map has there what was put, and at every other text what it had
pub changed_at : {K X S : Type 0} (read : K → List ℕ) (text : List ℕ) (old new : HashMap K X S) (value : Option X)
    → UpdatesBy (λ x y. bytes_eq (read x) (read y)) (λ k. bytes_eq text (read k)) old new value
    → (other : List ℕ) → get_by (λ k. bytes_eq other (read k)) new ≡ cond (bytes_eq text other) value (get_by (λ k. bytes_eq other (read k)) old)
changed_at read text old new value updates other =
    ⊎_elim
    (λ same. subst (λ t. get_by (λ k. bytes_eq t (read k)) new ≡ value) ((bytes_eq-Decides text other).0 same) updates.1 ∙ sym (cond-true (bytes_eq text other) value _ same))
    (λ differ. kept _ _ _ _ updates.3 _ (λ x y. nat_list_eq_equiv.congr other (read x) (read y)) (λ k. apart text other (read k) differ) ∙ sym (cond-false (bytes_eq text other) value _ differ))
    (cases_Bool (bytes_eq text other))
