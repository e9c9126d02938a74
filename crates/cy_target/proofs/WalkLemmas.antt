-- The walk over a path's segments: the text that is written is that of the names that the definition keeps.
use Rattle.std.proofs.Common.{◌≡◌, ℕ, ◌+◌, Bool, true, false, not, cond, List, [], ◌∷◌, ◌++◌, length, refl, sym, ap, ◌∙◌, subst, take, drop, ◌-◌, length-append, length-drop, Ok, arith, eqb, Option, Some, None, append_assoc}
use Rattle.std.specs.Prelude.{option_map, option_and_then}
use Rattle.std.specs.List.{All}
use Rattle.std.proofs.lemmas.Bool.{cond-false, ne_eqb, or_right}
use Rattle.std.proofs.lemmas.List.{take_all, take_at, drop_at}
use Rattle.std.proofs.lemmas.List.Elements.{All-head, All-tail, All-cons, All-nil}
use Rattle.cy_event.specs.Heads.{cut_at, is_empty, parts_at}
use Rattle.cy_event.specs.Targets.{before_cut, ends_at_slash, is_dot, is_dot_dot, is_ordinary, parent, path_of, path_through, place_of, place_text, plain_segments, step, unescaped, with_segment, with_slash, without_parameters}
use Rattle.cy_event.proofs.Cuts.{Lacks, front_lacks, join-cut_at, parts_at-cut, parts_at-some, parts_at-uncut, uncut_lacks}
use Rattle.cy_target.specs.Reading.{Appends, after_plain, after_segment, move_of, onto_parent, parent_text, step_text}
use Rattle.cy_target.specs.declared.segments.Move.{Move}
use Rattle.cy_target.specs.declared.segments.Move.TheVariants.{Stay, Leave, Enter}
use Rattle.cy_target.proofs.EscapeLemmas.{unescaped_lacks}

-- ---- the text before the last slash

parent_text-none : (text : List ℕ) → Lacks 47 text → parent_text text ≡ None
parent_text-none [] lacks = refl
parent_text-none (b ∷ text) lacks =
    ap (onto_parent b) (parent_text-none text (All-tail (λ v. eqb v 47 ≡ false) b text lacks))
    ∙ cond-false _ _ _ (All-head (λ v. eqb v 47 ≡ false) b text lacks)

pub parent_text-at : (text name : List ℕ) → Lacks 47 name → parent_text (text ++ 47 ∷ name) ≡ Some text
parent_text-at [] name lacks = ap (onto_parent 47) (parent_text-none name lacks)
parent_text-at (b ∷ text) name lacks = ap (onto_parent b) (parent_text-at text name lacks)

-- a byte at the end that is no slash changes nothing
pub parent_text-other : (text : List ℕ) (b : ℕ) → eqb b 47 ≡ false → parent_text (text ++ b ∷ []) ≡ parent_text text
parent_text-other [] b other = cond-false _ _ _ other
parent_text-other (c ∷ text) b other = ap (onto_parent c) (parent_text-other text b other)

-- ---- one step

-- no name has a slash
abbrev pub Apart : List (List ℕ) → Type 0
Apart names = All (Lacks 47) names

step_by_tests : (names : List (List ℕ)) (segment : List ℕ) → Apart names → (up ordinary : Bool)
    → cond up (parent_text (place_text names)) (Some (cond ordinary (place_text names ++ 47 ∷ segment) (place_text names)))
    ≡ option_map place_text (cond up (parent names) (Some (cond ordinary (segment ∷ names) names)))
step_by_tests [] segment apart true ordinary = refl
step_by_tests (name ∷ names) segment apart true ordinary = parent_text-at (place_text names) name (All-head (Lacks 47) name names apart)
step_by_tests names segment apart false true = refl
step_by_tests names segment apart false false = refl

step_is : (names : List (List ℕ)) (segment : List ℕ) → Apart names → step_text (place_text names) segment ≡ option_map place_text (step names segment)
step_is names segment apart = step_by_tests names segment apart (is_dot_dot segment) (is_ordinary segment)

apart_by_tests : (names there : List (List ℕ)) (segment : List ℕ) → Apart names → Lacks 47 segment → (up ordinary : Bool)
    → cond up (parent names) (Some (cond ordinary (segment ∷ names) names)) ≡ Some there → Apart there
apart_by_tests [] there segment apart lacks true ordinary e = absurd (cc)
apart_by_tests (name ∷ names) there segment apart lacks true ordinary e =
    let same : names ≡ there = cc in subst Apart same (All-tail (Lacks 47) name names apart)
apart_by_tests names there segment apart lacks false true e =
    let same : segment ∷ names ≡ there = cc in subst Apart same (All-cons (Lacks 47) segment names lacks apart)
apart_by_tests names there segment apart lacks false false e =
    let same : names ≡ there = cc in subst Apart same apart

-- ---- the rest of a path, from the place of these names on

abbrev pub path_from : List (List ℕ) → List ℕ → Option (List ℕ)
path_from names raw = option_and_then (path_through names) (plain_segments (parts_at 47 raw))

-- what a segment as it was sent does to the names
abbrev pub named_step : List (List ℕ) → Option (List ℕ) → Option (List (List ℕ))
named_step names plain = option_and_then (step names) plain

-- the parts are never none, so their segments aren't
pub with-some : (first : Option (List ℕ)) (rest : Option (List (List ℕ))) (segments : List (List ℕ)) → with_segment first rest ≡ Some segments
    → (segment : List ℕ) × (more : List (List ℕ)) × (segments ≡ segment ∷ more) × (first ≡ Some segment) × (rest ≡ Some more)
with-some None rest segments e = absurd (cc)
with-some (Some segment) None segments e = absurd (cc)
with-some (Some segment) (Some more) segments e = (segment, more, cc, refl, refl)

pub rest_is_some : (parts : List (List ℕ)) (segments : List (List ℕ)) → (parts ≡ [] → ⊥) → plain_segments parts ≡ Some segments → segments ≡ [] → ⊥
rest_is_some [] segments some e none = some refl
rest_is_some (part ∷ parts) segments some e none =
    let w = with-some (unescaped (without_parameters part)) (plain_segments parts) segments e in
    let two : (w.0 ∷ w.1) ≡ [] = sym w.2 ∙ none in
    cc

-- ---- through a segment that isn't the last

-- the end of a path is decided by its last segment
ends_later : (segment : List ℕ) (segments : List (List ℕ)) → (segments ≡ [] → ⊥) → ends_at_slash (segment ∷ segments) ≡ ends_at_slash segments
ends_later segment [] some = absurd (some refl)
ends_later segment (next ∷ segments) some = refl

through_by_step : (names : List (List ℕ)) (segment : List ℕ) (segments : List (List ℕ)) (stepped : Option (List (List ℕ))) → (segments ≡ [] → ⊥)
    → option_map (λ there. with_slash (ends_at_slash (segment ∷ segments)) (place_text there)) (option_and_then (λ there. place_of there segments) stepped)
    ≡ option_and_then (λ there. path_through there segments) stepped
through_by_step names segment segments None some = refl
through_by_step names segment segments (Some there) some =
    ap (λ (t : Bool). option_map (λ place. with_slash t (place_text place)) (place_of there segments)) (ends_later segment segments some)

nothing_on : (stepped : Option (List (List ℕ))) → let none : Option (List ℕ) = None in none ≡ option_and_then (λ there. none) stepped
nothing_on None = refl
nothing_on (Some there) = refl

on_by_rest : (names : List (List ℕ)) (first : Option (List ℕ)) (rest : Option (List (List ℕ)))
    → ((segments : List (List ℕ)) → rest ≡ Some segments → segments ≡ [] → ⊥)
    → option_and_then (path_through names) (with_segment first rest)
    ≡ option_and_then (λ there. option_and_then (path_through there) rest) (named_step names first)
on_by_rest names None rest some = refl
on_by_rest names (Some segment) None some = nothing_on (step names segment)
on_by_rest names (Some segment) (Some segments) some =
    through_by_step names segment segments (step names segment) (some segments refl)

-- a segment and then the rest
through : (names : List (List ℕ)) (raw segment more : List ℕ) → cut_at 47 raw ≡ Some (segment, more)
    → path_from names raw ≡ option_and_then (λ there. path_from there more) (named_step names (unescaped (without_parameters segment)))
through names raw segment more e =
    ap (λ (parts : List (List ℕ)). option_and_then (path_through names) (plain_segments parts)) (parts_at-cut 47 raw segment more e)
    ∙ on_by_rest names (unescaped (without_parameters segment)) (plain_segments (parts_at 47 more))
    (λ segments is. rest_is_some (parts_at 47 more) segments (parts_at-some 47 more) is)

-- ---- at the last segment

last_by_plain : (names : List (List ℕ)) (plain : Option (List ℕ))
    → option_and_then (path_through names) (with_segment plain (Some []))
    ≡ option_and_then (λ segment. option_map (λ there. with_slash (not (is_ordinary segment)) (place_text there)) (step names segment)) plain
last_by_plain names None = refl
last_by_plain names (Some segment) = placed (step names segment)
  where
    placed : (stepped : Option (List (List ℕ)))
        → option_map (λ there. with_slash (not (is_ordinary segment)) (place_text there)) (option_and_then (λ there. Some there) stepped)
        ≡ option_map (λ there. with_slash (not (is_ordinary segment)) (place_text there)) stepped
    placed None = refl
    placed (Some there) = refl

at_last : (names : List (List ℕ)) (raw : List ℕ) → cut_at 47 raw ≡ None
    → path_from names raw
    ≡ option_and_then (λ segment. option_map (λ there. with_slash (not (is_ordinary segment)) (place_text there)) (step names segment)) (unescaped (without_parameters raw))
at_last names raw e =
    ap (λ (parts : List (List ℕ)). option_and_then (path_through names) (plain_segments parts)) (parts_at-uncut 47 raw e)
    ∙ last_by_plain names (unescaped (without_parameters raw))

-- ---- the text of the walk

-- the text is that of names, and the rest leads from there where the whole leads
pub record Walks (text rest whole : List ℕ) : Type 0 where
  pub names : List (List ℕ)
  pub apart : Apart names
  pub is_text : text ≡ place_text names
  pub same : path_from names rest ≡ path_of whole

pub walk_begins : (text whole : List ℕ) → text ≡ [] → Walks text whole whole
walk_begins text whole e = record { names = []; apart = All-nil (Lacks 47); is_text = e; same = refl }

lacks_left : (xs ys : List ℕ) → Lacks 47 (xs ++ ys) → Lacks 47 xs
lacks_left [] ys lacks = All-nil (λ v. eqb v 47 ≡ false)
lacks_left (x ∷ xs) ys lacks =
    All-cons (λ v. eqb v 47 ≡ false) x xs (All-head (λ v. eqb v 47 ≡ false) x (xs ++ ys) lacks) (lacks_left xs ys (All-tail (λ v. eqb v 47 ≡ false) x (xs ++ ys) lacks))

plain_by_cut : (raw : List ℕ) (cut : Option (List ℕ × List ℕ)) → cut_at 59 raw ≡ cut → Lacks 47 raw → Lacks 47 (before_cut raw cut)
plain_by_cut raw None is lacks = lacks
plain_by_cut raw (Some parts) is lacks = lacks_left parts.0 (59 ∷ parts.1) (subst (Lacks 47) (join-cut_at 59 raw parts.0 parts.1 is) lacks)

pub plain_lacks : (raw plain : List ℕ) → Lacks 47 raw → unescaped (without_parameters raw) ≡ Some plain → Lacks 47 plain
plain_lacks raw plain lacks e =
    unescaped_lacks (without_parameters raw) plain (plain_by_cut raw (cut_at 59 raw) refl lacks) e

pair_of : Option (Bool × List ℕ) → Bool × List ℕ
pair_of None = (false, [])
pair_of (Some p) = p

some_pair : (s t : Bool) (a b : List ℕ) → let one : Option (Bool × List ℕ) = Some (s, a) in one ≡ Some (t, b) → (s ≡ t) × (a ≡ b)
unfolding pair_of
some_pair s t a b e = let same = ap pair_of e in (ap (λ (p : Bool × List ℕ). p.0) same, ap (λ (p : Bool × List ℕ). p.1) same)

-- the text after a segment is that of the names after it
text_is : (names : List (List ℕ)) (segment text : List ℕ) (unnamed : Bool) (stepped : Option (List (List ℕ)))
    → option_map place_text stepped ≡ step_text (place_text names) segment
    → after_plain (place_text names) segment ≡ Some (unnamed, text)
    → (there : List (List ℕ)) × (stepped ≡ Some there) × (text ≡ place_text there) × (not (is_ordinary segment) ≡ unnamed)
text_is names segment text unnamed None is e =
    absurd (let none : None ≡ Some (unnamed, text) = ap (λ (o : Option (List ℕ)). option_map (λ new. (not (is_ordinary segment), new)) o) is ∙ e in cc)
text_is names segment text unnamed (Some there) is e =
    let p = some_pair (not (is_ordinary segment)) unnamed (place_text there) text (ap (λ (o : Option (List ℕ)). option_map (λ new. (not (is_ordinary segment), new)) o) is ∙ e) in
    (there, refl, sym p.1, p.0)

text_is_none : (names : List (List ℕ)) (segment : List ℕ) (stepped : Option (List (List ℕ)))
    → option_map place_text stepped ≡ step_text (place_text names) segment
    → after_plain (place_text names) segment ≡ None → stepped ≡ None
text_is_none names segment None is e = refl
text_is_none names segment (Some there) is e =
    absurd (let some : Some (not (is_ordinary segment), place_text there) ≡ None = ap (λ (o : Option (List ℕ)). option_map (λ new. (not (is_ordinary segment), new)) o) is ∙ e in cc)

-- what a segment as it was sent does, from the place of these names
sent_is : (names : List (List ℕ)) (raw text : List ℕ) (unnamed : Bool) (plain : Option (List ℕ)) → Apart names → unescaped (without_parameters raw) ≡ plain → Lacks 47 raw
    → option_and_then (after_plain (place_text names)) plain ≡ Some (unnamed, text)
    → (segment : List ℕ) × (there : List (List ℕ)) × (plain ≡ Some segment) × (step names segment ≡ Some there) × Apart there × (text ≡ place_text there) × (not (is_ordinary segment) ≡ unnamed)
sent_is names raw text unnamed None apart is lacks e = absurd (cc)
sent_is names raw text unnamed (Some segment) apart is lacks e =
    let w = text_is names segment text unnamed (step names segment) (sym (step_is names segment apart)) e in (
      segment,
      w.0,
      refl,
      w.1,
      apart_by_tests names w.0 segment apart (plain_lacks raw segment lacks is) (is_dot_dot segment) (is_ordinary segment) w.1,
      w.2,
      w.3,
    )

sent_is_none : (names : List (List ℕ)) (plain : Option (List ℕ)) → Apart names
    → option_and_then (after_plain (place_text names)) plain ≡ None → named_step names plain ≡ None
sent_is_none names None apart e = refl
sent_is_none names (Some segment) apart e = text_is_none names segment (step names segment) (sym (step_is names segment apart)) e

pub walk_goes_on : (text rest whole segment more new : List ℕ) (unnamed : Bool) → Walks text rest whole → cut_at 47 rest ≡ Some (segment, more)
    → after_segment text segment ≡ Some (unnamed, new) → Walks new more whole
walk_goes_on text rest whole segment more new unnamed walks cut after =
    let after' : after_segment (place_text walks.names) segment ≡ Some (unnamed, new) = subst (λ (t : List ℕ). after_segment t segment ≡ Some (unnamed, new)) walks.is_text after in
    let w = sent_is walks.names segment new unnamed (unescaped (without_parameters segment)) walks.apart refl (front_lacks 47 rest segment more cut) after' in
    record {
      names = w.1;
      apart = w.4;
      is_text = w.5;
      same =
          sym (through walks.names rest segment more cut
          ∙ ap (λ (plain : Option (List ℕ)). option_and_then (λ there. path_from there more) (named_step walks.names plain)) w.2
          ∙ ap (λ (stepped : Option (List (List ℕ))). option_and_then (λ there. path_from there more) stepped) w.3)
          ∙ walks.same;
    }

pub walk_fails : (text rest whole segment more : List ℕ) → Walks text rest whole → cut_at 47 rest ≡ Some (segment, more)
    → after_segment text segment ≡ None → path_of whole ≡ None
walk_fails text rest whole segment more walks cut after =
    let after' : after_segment (place_text walks.names) segment ≡ None = subst (λ (t : List ℕ). after_segment t segment ≡ None) walks.is_text after in
    sym walks.same ∙ through walks.names rest segment more cut
    ∙ ap (λ (stepped : Option (List (List ℕ))). option_and_then (λ there. path_from there more) stepped) (sent_is_none walks.names (unescaped (without_parameters segment)) walks.apart after')

pub walk_ends : (text rest whole new : List ℕ) (unnamed : Bool) → Walks text rest whole → cut_at 47 rest ≡ None
    → after_segment text rest ≡ Some (unnamed, new) → path_of whole ≡ Some (with_slash unnamed new)
walk_ends text rest whole new unnamed walks cut after =
    let after' : after_segment (place_text walks.names) rest ≡ Some (unnamed, new) = subst (λ (t : List ℕ). after_segment t rest ≡ Some (unnamed, new)) walks.is_text after in
    let w = sent_is walks.names rest new unnamed (unescaped (without_parameters rest)) walks.apart refl (uncut_lacks 47 rest cut) after' in
    let end : Bool → List (List ℕ) → List ℕ = λ t there. with_slash t (place_text there) in
    sym walks.same ∙ at_last walks.names rest cut
    ∙ ap (λ (plain : Option (List ℕ)). option_and_then (λ segment. option_map (end (not (is_ordinary segment))) (step walks.names segment)) plain) w.2
    ∙ ap (λ (stepped : Option (List (List ℕ))). option_map (end (not (is_ordinary w.0))) stepped) w.3
    ∙ ap (λ (t : Bool). Some (end t w.1)) w.6
    ∙ ap (λ (t : List ℕ). Some (with_slash unnamed t)) (sym w.5)

last_is_none : (names : List (List ℕ)) (plain : Option (List ℕ)) → named_step names plain ≡ None
    → option_and_then (λ segment. option_map (λ there. with_slash (not (is_ordinary segment)) (place_text there)) (step names segment)) plain ≡ None
last_is_none names None e = refl
last_is_none names (Some segment) e = ap (λ (stepped : Option (List (List ℕ))). option_map (λ there. with_slash (not (is_ordinary segment)) (place_text there)) stepped) e

pub walk_fails_last : (text rest whole : List ℕ) → Walks text rest whole → cut_at 47 rest ≡ None → after_segment text rest ≡ None → path_of whole ≡ None
walk_fails_last text rest whole walks cut after =
    let after' : after_segment (place_text walks.names) rest ≡ None = subst (λ (t : List ℕ). after_segment t rest ≡ None) walks.is_text after in
    sym walks.same ∙ at_last walks.names rest cut ∙ last_is_none walks.names (unescaped (without_parameters rest)) (sent_is_none walks.names (unescaped (without_parameters rest)) walks.apart after')

-- ---- bytes taken from the end

pub ends_there : (text old new : List ℕ) (b : ℕ) → parent_text text ≡ parent_text old → text ≡ new ++ b ∷ [] → b ≡ 47 → parent_text old ≡ Some new
ends_there text old new b same is slash =
    sym same ∙ ap parent_text is ∙ ap (λ (c : ℕ). parent_text (new ++ c ∷ [])) slash ∙ parent_text-at new [] (All-nil (λ v. eqb v 47 ≡ false))

pub goes_on : (text old new : List ℕ) (b : ℕ) → parent_text text ≡ parent_text old → text ≡ new ++ b ∷ [] → (b ≡ 47 → ⊥) → parent_text new ≡ parent_text old
goes_on text old new b same is other = sym (parent_text-other new b (ne_eqb b 47 other)) ∙ ap parent_text (sym is) ∙ same

-- ---- a segment, as the code goes through it

-- what was written behind the slash
appended_is : (old new : List ℕ) (plain : Option (List ℕ)) → Appends old plain new (Ok tt) → (segment : List ℕ) × (plain ≡ Some segment) × (new ≡ old ++ segment)
appended_is old new None e = absurd e
appended_is old new (Some segment) e = (segment, refl, e)

written : (old segment x : List ℕ) (start : ℕ) → x ≡ (old ++ 47 ∷ []) ++ segment → start ≡ length old → take (length x - (start + 1)) (drop (start + 1) x) ≡ segment
written old segment x start is from =
    let all : take (length x - (start + 1)) (drop (start + 1) x) ≡ drop (start + 1) x = take_all _ (drop (start + 1) x) (omega (arith, length-drop (start + 1) x)) in
    let behind : start + 1 ≡ length (old ++ 47 ∷ []) = omega (arith, length-append old (47 ∷ [])) in
    all ∙ ap (λ (n : ℕ). drop n x) behind ∙ ap (drop (length (old ++ 47 ∷ []))) is ∙ drop_at (old ++ 47 ∷ []) segment _ refl

-- what is known of the segment that was written
pub record Written (old pushed raw sent new x : List ℕ) (start : ℕ) (m : Move) : Type 0 where
  pub slash : pushed ≡ old ++ 47 ∷ []
  pub sent_is : sent ≡ without_parameters raw
  pub plain : Appends pushed (unescaped sent) new (Ok tt)
  pub x_is : x ≡ new
  pub from : start ≡ length old
  pub moved : m ≡ move_of (take (length x - (start + 1)) (drop (start + 1) x))

segment_is : (old pushed raw sent new x : List ℕ) (start : ℕ) (m : Move) → Written old pushed raw sent new x start m
    → (segment : List ℕ) × (unescaped (without_parameters raw) ≡ Some segment) × (new ≡ old ++ 47 ∷ segment) × (move_of segment ≡ m)
segment_is old pushed raw sent new x start m w =
    let a = appended_is pushed new (unescaped sent) w.plain in
    let whole : new ≡ (old ++ 47 ∷ []) ++ a.0 = a.2 ∙ ap (λ (t : List ℕ). t ++ a.0) w.slash in (
      a.0,
      ap unescaped (sym w.sent_is) ∙ a.1,
      whole ∙ append_assoc old (47 ∷ []) a.0,
      ap move_of (sym (written old a.0 x start (w.x_is ∙ whole) w.from)) ∙ sym w.moved,
    )

entered_by_tests : (up ordinary : Bool) → cond up Leave (cond ordinary Enter Stay) ≡ Enter → (up ≡ false) × (ordinary ≡ true)
entered_by_tests true ordinary e = absurd (cc)
entered_by_tests false true e = (refl, refl)
entered_by_tests false false e = absurd (cc)

stayed_by_tests : (up ordinary : Bool) → cond up Leave (cond ordinary Enter Stay) ≡ Stay → (up ≡ false) × (ordinary ≡ false)
stayed_by_tests true ordinary e = absurd (cc)
stayed_by_tests false true e = absurd (cc)
stayed_by_tests false false e = (refl, refl)

left_by_tests : (up ordinary : Bool) → cond up Leave (cond ordinary Enter Stay) ≡ Leave → up ≡ true
left_by_tests true ordinary e = refl
left_by_tests false true e = absurd (cc)
left_by_tests false false e = absurd (cc)

abbrev pair : Bool → Option (List ℕ) → Option (Bool × List ℕ)
pair t text = option_map (λ new. (t, new)) text

plain_step : (old segment : List ℕ) (up ordinary : Bool) → is_dot_dot segment ≡ up → is_ordinary segment ≡ ordinary
    → after_plain old segment ≡ pair (not ordinary) (cond up (parent_text old) (Some (cond ordinary (old ++ 47 ∷ segment) old)))
plain_step old segment up ordinary u o =
    ap (λ (t : Bool). pair (not t) (cond (is_dot_dot segment) (parent_text old) (Some (cond t (old ++ 47 ∷ segment) old)))) o
    ∙ ap (λ (t : Bool). pair (not ordinary) (cond t (parent_text old) (Some (cond ordinary (old ++ 47 ∷ segment) old)))) u

pub enters : (old pushed raw sent new x : List ℕ) (start : ℕ) (m : Move) → Written old pushed raw sent new x start m → m ≡ Enter → after_segment old raw ≡ Some (false, new)
enters old pushed raw sent new x start m w is =
    let s = segment_is old pushed raw sent new x start m w in
    let t = entered_by_tests (is_dot_dot s.0) (is_ordinary s.0) (s.3 ∙ is) in
    ap (option_and_then (after_plain old)) s.1 ∙ plain_step old s.0 false true t.0 t.1 ∙ ap (λ (text : List ℕ). pair false (Some text)) (sym s.2)

pub stays : (old pushed raw sent new x : List ℕ) (start : ℕ) (m : Move) (cut : List ℕ) → Written old pushed raw sent new x start m → m ≡ Stay → cut ≡ take start new → after_segment old raw ≡ Some (true, cut)
stays old pushed raw sent new x start m cut w is back =
    let s = segment_is old pushed raw sent new x start m w in
    let t = stayed_by_tests (is_dot_dot s.0) (is_ordinary s.0) (s.3 ∙ is) in
    let old_is : cut ≡ old = back ∙ ap (take start) s.2 ∙ take_at old (47 ∷ s.0) start (sym w.from) in
    ap (option_and_then (after_plain old)) s.1 ∙ plain_step old s.0 false false t.0 t.1 ∙ ap (λ (text : List ℕ). pair true (Some text)) (sym old_is)

pub dots_are_not_ordinary : (segment : List ℕ) → is_dot_dot segment ≡ true → is_ordinary segment ≡ false
dots_are_not_ordinary segment up =
    ap not (or_right (is_empty segment) _ (or_right (is_dot segment) (is_dot_dot segment) up))

leaves_to : (old pushed raw sent new x : List ℕ) (start : ℕ) (m : Move) (cut : List ℕ) → Written old pushed raw sent new x start m → m ≡ Leave → cut ≡ take start new
    → after_segment old raw ≡ pair true (parent_text cut)
leaves_to old pushed raw sent new x start m cut w is back =
    let s = segment_is old pushed raw sent new x start m w in
    let up = left_by_tests (is_dot_dot s.0) (is_ordinary s.0) (s.3 ∙ is) in
    let old_is : cut ≡ old = back ∙ ap (take start) s.2 ∙ take_at old (47 ∷ s.0) start (sym w.from) in
    ap (option_and_then (after_plain old)) s.1 ∙ plain_step old s.0 true false up (dots_are_not_ordinary s.0 up)
    ∙ ap (λ (text : List ℕ). pair true (parent_text text)) (sym old_is)

pub leaves : (old pushed raw sent new x : List ℕ) (start : ℕ) (m : Move) (cut left : List ℕ) → Written old pushed raw sent new x start m → m ≡ Leave → cut ≡ take start new
    → parent_text cut ≡ Some left → after_segment old raw ≡ Some (true, left)
leaves old pushed raw sent new x start m cut left w is back e = leaves_to old pushed raw sent new x start m cut w is back ∙ ap (pair true) e

pub leaves_root : (old pushed raw sent new x : List ℕ) (start : ℕ) (m : Move) (cut : List ℕ) → Written old pushed raw sent new x start m → m ≡ Leave → cut ≡ take start new
    → parent_text cut ≡ None → after_segment old raw ≡ None
leaves_root old pushed raw sent new x start m cut w is back e = leaves_to old pushed raw sent new x start m cut w is back ∙ ap (pair true) e

pub ends_in_slash : (whole text pushed : List ℕ) (unnamed : Bool) → path_of whole ≡ Some (with_slash unnamed text) → unnamed ≡ true → pushed ≡ text ++ 47 ∷ [] → path_of whole ≡ Some pushed
ends_in_slash whole text pushed unnamed e at_slash is =
    e ∙ ap (λ (t : Bool). Some (with_slash t text)) at_slash ∙ ap (λ (t : List ℕ). Some t) (sym is)

pub ends_in_name : (whole text : List ℕ) (unnamed : Bool) → path_of whole ≡ Some (with_slash unnamed text) → unnamed ≡ false → path_of whole ≡ Some text
ends_in_name whole text unnamed e named = e ∙ ap (λ (t : Bool). Some (with_slash t text)) named
