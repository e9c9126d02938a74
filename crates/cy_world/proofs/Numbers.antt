-- The report goes by rising number, as a book does: what is told by the one is told by the other.
use Rattle.std.proofs.Common.{◌≡◌, ◌≢◌, ◌<◌, ◌≤◌, ℕ, Bool, true, false, ◌==◌, List, [], ◌∷◌, ◌++◌, map, Option, Some, None, is_some, option_map, unwrap_or, flat_map, refl, sym, ap, ◌∙◌, subst, arith, ◌⊎◌, inl, inr, if◌then◌else◌}
use Rattle.std.specs.Prelude.{nat_lt}
use Rattle.std.specs.BTreeMap.{is_at}
use Rattle.std.specs.Cmp.{eq_by_cmp_equiv, nat_cmp_is}
use Rattle.std.specs.List.Sorted.{IsStrictlySortedBy}
use Rattle.std.specs.Map.{keys_of, lookup}
use Rattle.std.specs.Ordering.{is_eq, nat_cmp}
use Rattle.std.specs.declared.cmp.Ordering.TheVariants.{Less, Equal}
use Rattle.std.proofs.lemmas.Bool.{cases_eq, cases_lt, eq-eqb, eqb-true, lt-ltb, ltb-true, ne_eqb}
use Rattle.std.proofs.lemmas.Cmp.{nat_cmp_total}
use Rattle.std.proofs.lemmas.List.Folds.{flat_map-map}
use Rattle.std.proofs.lemmas.Map.{lookup-none}
use Rattle.std.proofs.lemmas.Map.Entries.{none_below_head, none_past_head}
use Rattle.std.proofs.lemmas.Map.Keys.{IsDistinct-from_sorted, sorted_tail}
use Rattle.cy_event.specs.declared.limits.Limits.{Limits}
use Rattle.cy_map.specs.declared.rule.Rule.{Rule}
use Rattle.cy_model.specs.Connections.{History, find_own}
use Rattle.cy_model.specs.Entries.{Entry, trace_of}
use Rattle.cy_model.specs.Reports.{by_number, history_text, put_by_number, trace_text}
use Rattle.cy_world.specs.Worlds.{AreDistinct}
use Rattle.cy_world.proofs.Elements.{put_down_other, put_down_same}

-- ---- rising numbers

-- all have a greater number
abbrev pub AreAbove : ℕ → List History → Type 0
AreAbove n [] = Unit {0}
AreAbove n (h ∷ hs) = (n < h.number) × AreAbove n hs

abbrev pub AreRising : List History → Type 0
AreRising [] = Unit {0}
AreRising (h ∷ hs) = AreAbove h.number hs × AreRising hs

-- one that isn't found is not the first, nor among the others
other_first : (c : ℕ) (h : History) (hs : List History) → find_own c (h ∷ hs) ≡ None → (h.number ≢ c) × (find_own c hs ≡ None)
other_first c h hs none =
    elim (h.number == c) as (λ v. h.number == c ≡ v → (if v then Some h.entries else find_own c hs) ≡ None → (h.number ≢ c) × (find_own c hs ≡ None)) [
      | true ↦ λ q n. cc
      | false ↦ λ q n. (differ q, n)
    ] refl none
  where
    differ : h.number == c ≡ false → h.number ≢ c
    differ q e = let same : h.number == c ≡ true = eq-eqb h.number c e in cc

above_less : (m n : ℕ) (hs : List History) → m < n → AreAbove n hs → AreAbove m hs
above_less m n [] less above = tt
above_less m n (h ∷ hs) less above = (omega (arith, less, above.0), above_less m n hs less above.1)

above_put : (n : ℕ) (h : History) (hs : List History) → AreAbove n hs → n < h.number → AreAbove n (put_by_number h hs)
above_put n h [] above less = (less, tt)
above_put n h (g ∷ gs) above less =
    elim (nat_lt h.number g.number) as (λ v. AreAbove n (if v then h ∷ g ∷ gs else g ∷ put_by_number h gs)) [
      | true ↦ (less, above)
      | false ↦ (above.0, above_put n h gs above.1 less)
    ]

greater : (h g : ℕ) → nat_lt h g ≡ false → g ≢ h → g < h
greater h g below other = by_order (cases_lt h g)
  where
    above : g ≤ h → (g ≡ h) ⊎ (g ≡ h → ⊥) → g < h
    above within (inl e) = absurd (other e)
    above within (inr e) = omega (arith, within, e)

    by_order : (h < g) ⊎ (g ≤ h) → g < h
    by_order (inl less) = let clash : true ≡ false = sym (lt-ltb h g less) ∙ below in cc
    by_order (inr within) = above within (cases_eq g h)

rising_put : (h : History) (hs : List History) → AreRising hs → find_own h.number hs ≡ None → AreRising (put_by_number h hs)
rising_put h [] rising none = (tt, tt)
rising_put h (g ∷ gs) rising none =
    let other = other_first h.number g gs none in
    elim (nat_lt h.number g.number) as (λ v. nat_lt h.number g.number ≡ v → AreRising (if v then h ∷ g ∷ gs else g ∷ put_by_number h gs)) [
      | true ↦ λ q.
          let less : h.number < g.number = ltb-true h.number g.number q in
          ((less, above_less h.number g.number gs less rising.0), rising)
      | false ↦ λ q. (above_put g.number h gs rising.0 (greater h.number g.number q other.0), rising_put h gs rising.1 other.1)
    ] refl

-- ---- what is found by number

-- two that have different numbers may change places
changed_places : (c : ℕ) (h g : History) (rest : Option (List (ℕ × Entry))) → g.number ≢ h.number
    → (if g.number == c then Some g.entries else (if h.number == c then Some h.entries else rest)) ≡ (if h.number == c then Some h.entries else (if g.number == c then Some g.entries else rest))
changed_places c h g rest other =
    elim (g.number == c) as (λ v. g.number == c ≡ v → (if v then Some g.entries else (if h.number == c then Some h.entries else rest)) ≡ (if h.number == c then Some h.entries else (if v then Some g.entries else rest))) [
      | true ↦ λ q. sym (ap (λ (v : Bool). if v then Some h.entries else Some g.entries) (ne_eqb h.number c (λ e. other (eqb-true g.number c q ∙ sym e))))
      | false ↦ λ q. refl
    ] refl

found_put : (c : ℕ) (h : History) (hs : List History) → find_own h.number hs ≡ None → find_own c (put_by_number h hs) ≡ find_own c (h ∷ hs)
found_put c h [] none = refl
found_put c h (g ∷ gs) none =
    let other = other_first h.number g gs none in
    elim (nat_lt h.number g.number) as (λ v. find_own c (if v then h ∷ g ∷ gs else g ∷ put_by_number h gs) ≡ find_own c (h ∷ g ∷ gs)) [
      | true ↦ refl
      | false ↦
          ap (λ (o : Option (List (ℕ × Entry))). if g.number == c then Some g.entries else o) (found_put c h gs other.1)
          ∙ changed_places c h g (find_own c gs) other.0
    ]

found_by_number : (c : ℕ) (hs : List History) → AreDistinct hs → find_own c (by_number hs) ≡ find_own c hs
found_by_number c [] distinct = refl
found_by_number c (h ∷ hs) distinct =
    found_put c h (by_number hs) (found_by_number h.number hs distinct.1 ∙ distinct.0)
    ∙ ap (λ (o : Option (List (ℕ × Entry))). if h.number == c then Some h.entries else o) (found_by_number c hs distinct.1)

rising_by_number : (hs : List History) → AreDistinct hs → AreRising (by_number hs)
rising_by_number [] distinct = tt
rising_by_number (h ∷ hs) distinct =
    rising_put h (by_number hs) (rising_by_number hs distinct.1) (found_by_number h.number hs distinct.1 ∙ distinct.0)

first_found : (h : History) (hs : List History) → find_own h.number (h ∷ hs) ≡ Some h.entries
first_found h hs = ap (λ (v : Bool). if v then Some h.entries else find_own h.number hs) (eq-eqb h.number h.number refl)

none_where_above : (n : ℕ) (hs : List History) → AreAbove n hs → find_own n hs ≡ None
none_where_above n [] above = refl
none_where_above n (h ∷ hs) above =
    ap (λ (v : Bool). if v then Some h.entries else find_own n hs) (ne_eqb h.number n (λ e. absurd (omega (arith, above.0, e))))
    ∙ none_where_above n hs above.1

-- ---- the numbers of a book

some_or_none : {X : Type 0} (o : Option X) (x : X) → o ≡ Some x → is_some o ≡ false → ⊥
some_or_none o x one none = let clash : true ≡ false = ap is_some (sym one) ∙ none in cc

module _ {A : Type 0} where
  abbrev find : ℕ → List (ℕ × A) → Option A
  find c es = lookup (is_at (nat_cmp c)) es

  find_first : (e : ℕ × A) (es : List (ℕ × A)) → find e.0 (e ∷ es) ≡ Some e.1
  find_first e es = put_down_same e.0 (Some e.1) (find e.0 es)

  find_later : (c : ℕ) (e : ℕ × A) (es : List (ℕ × A)) → e.0 ≢ c → find c (e ∷ es) ≡ find c es
  find_later c e es other = put_down_other c e.0 (Some e.1) (find c es) other

  none_before : (c : ℕ) (e : ℕ × A) (es : List (ℕ × A)) → IsStrictlySortedBy nat_cmp (keys_of (e ∷ es)) → c < e.0 → find c (e ∷ es) ≡ None
  none_before c e es sorted less =
      lookup-none (is_at (nat_cmp c)) (e ∷ es) (none_below_head nat_cmp_total c e es sorted (sym (nat_cmp_is c e.0 Less less)))

  none_again : (e : ℕ × A) (es : List (ℕ × A)) → IsStrictlySortedBy nat_cmp (keys_of (e ∷ es)) → find e.0 es ≡ None
  none_again e es sorted =
      lookup-none (is_at (nat_cmp e.0)) es
      (none_past_head (eq_by_cmp_equiv nat_cmp_total) e.0 e es (IsDistinct-from_sorted nat_cmp (keys_of (e ∷ es)) sorted) (ap is_eq (sym (nat_cmp_is e.0 e.0 Equal refl))))

  module _ (e : ℕ × A) (es : List (ℕ × A)) (g : History) (gs : List History) (sorted : IsStrictlySortedBy nat_cmp (keys_of (e ∷ es))) (rising : AreRising (g ∷ gs))
      (alike : (c : ℕ) → is_some (find c (e ∷ es)) ≡ is_some (find_own c (g ∷ gs))) where
    same_first : e.0 ≡ g.number
    same_first = by_order (cases_lt e.0 g.number)
      where
        not_above : g.number ≤ e.0 → (e.0 ≡ g.number) ⊎ (e.0 ≡ g.number → ⊥) → e.0 ≡ g.number
        not_above within (inl same) = same
        not_above within (inr other) =
            absurd (some_or_none (find_own g.number (g ∷ gs)) g.entries (first_found g gs)
            (sym (alike g.number) ∙ ap is_some (none_before g.number e es sorted (omega (arith, within, other)))))

        by_order : (e.0 < g.number) ⊎ (g.number ≤ e.0) → e.0 ≡ g.number
        by_order (inl less) =
            absurd (some_or_none (find e.0 (e ∷ es)) e.1 (find_first e es)
            (alike e.0 ∙ ap is_some (none_where_above e.0 (g ∷ gs) (less, above_less e.0 g.number gs less rising.0))))
        by_order (inr within) = not_above within (cases_eq e.0 g.number)

    alike_behind : (c : ℕ) → is_some (find c es) ≡ is_some (find_own c gs)
    alike_behind c = by_number_of (cases_eq e.0 c)
      where
        by_number_of : (e.0 ≡ c) ⊎ (e.0 ≡ c → ⊥) → is_some (find c es) ≡ is_some (find_own c gs)
        by_number_of (inl same) =
            ap is_some (subst (λ (n : ℕ). find n es ≡ None) same (none_again e es sorted))
            ∙ sym (ap is_some (subst (λ (n : ℕ). find_own n gs ≡ None) (sym same_first ∙ same) (none_where_above g.number gs rising.0)))
        by_number_of (inr other) =
            ap is_some (sym (find_later c e es other))
            ∙ alike c
            ∙ ap (λ (v : Bool). is_some (if v then Some g.entries else find_own c gs)) (ne_eqb g.number c (λ same. other (same_first ∙ same)))

  same_numbers : (es : List (ℕ × A)) (gs : List History) → IsStrictlySortedBy nat_cmp (keys_of es) → AreRising gs
      → ((c : ℕ) → is_some (find c es) ≡ is_some (find_own c gs)) → keys_of es ≡ map (λ (h : History). h.number) gs
  same_numbers [] [] sorted rising alike = refl
  same_numbers [] (g ∷ gs) sorted rising alike =
      absurd (some_or_none (find_own g.number (g ∷ gs)) g.entries (first_found g gs) (sym (alike g.number)))
  same_numbers (e ∷ es) [] sorted rising alike = absurd (some_or_none (find e.0 (e ∷ es)) e.1 (find_first e es) (alike e.0))
  same_numbers (e ∷ es) (g ∷ gs) sorted rising alike =
      let later = same_numbers es gs (sorted_tail nat_cmp e.0 (keys_of es) sorted) rising.1 (alike_behind e es g gs sorted rising alike) in
      λ i. same_first e es g gs sorted rising alike i ∷ later i

-- ---- what is told by number

-- each of these histories is found by its number, so what is told of all is told by the numbers
told_by_found : (told : ℕ → Option (List (ℕ × Entry)) → List ℕ) (hs gs : List History) → AreRising gs
    → ((c : ℕ) (entries : List (ℕ × Entry)) → find_own c gs ≡ Some entries → find_own c hs ≡ Some entries)
    → flat_map (λ (c : ℕ). told c (find_own c hs)) (map (λ (h : History). h.number) gs) ≡ flat_map (λ (h : History). told h.number (Some h.entries)) gs
told_by_found told hs [] rising all = refl
told_by_found told hs (g ∷ gs) rising all =
    let first = all g.number g.entries (first_found g gs) in
    let later = told_by_found told hs gs rising.1 (λ c entries f. all c entries (behind c entries f)) in
    λ i. told g.number (first i) ++ later i
  where
    behind : (c : ℕ) (entries : List (ℕ × Entry)) → find_own c gs ≡ Some entries → find_own c (g ∷ gs) ≡ Some entries
    behind c entries f =
        elim (g.number == c) as (λ v. g.number == c ≡ v → (if v then Some g.entries else find_own c gs) ≡ Some entries) [
          | true ↦ λ q.
              let none : find_own c gs ≡ None = subst (λ (n : ℕ). find_own n gs ≡ None) (eqb-true g.number c q) (none_where_above g.number gs rising.0) in
              let clash : None ≡ Some entries = sym none ∙ f in cc
          | false ↦ λ q. f
        ] refl

-- what is told of the connection of a number
abbrev pub told_to : Limits → List Rule → ℕ → Option (List (ℕ × Entry)) → List ℕ
told_to limits rules c o = unwrap_or (option_map (λ (entries : List (ℕ × Entry)). trace_text c (trace_of limits rules entries)) o) []

-- a book that has the numbers of the connections tells of them what the report does
pub told_by_book : {A : Type 0} (limits : Limits) (rules : List Rule) (hs : List History) (es : List (ℕ × A)) → AreDistinct hs → IsStrictlySortedBy nat_cmp (keys_of es)
    → ((c : ℕ) → is_some (lookup (is_at (nat_cmp c)) es) ≡ is_some (find_own c hs))
    → flat_map (λ (e : ℕ × A). told_to limits rules e.0 (find_own e.0 hs)) es ≡ flat_map (history_text limits rules) (by_number hs)
told_by_book {A} limits rules hs es distinct sorted alike =
    let gs = by_number hs in
    let rising = rising_by_number hs distinct in
    let numbers : keys_of es ≡ map (λ (h : History). h.number) gs =
    same_numbers es gs sorted rising (λ c. alike c ∙ ap is_some (sym (found_by_number c hs distinct))) in
    sym (flat_map-map (λ (c : ℕ). told_to limits rules c (find_own c hs)) (λ (e : ℕ × A). e.0) es)
    ∙ ap (flat_map (λ (c : ℕ). told_to limits rules c (find_own c hs))) numbers
    ∙ told_by_found (told_to limits rules) hs gs rising (λ c entries f. sym (found_by_number c hs distinct) ∙ f)
