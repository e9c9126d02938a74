-- How bytes lead from one stage of a body to another, with their content.
use Rattle.std.proofs.Common.{◌≡◌, ℕ, ◌+◌, subst, Bool, true, false, List, [], ◌∷◌, ◌++◌, length, refl, ap, ◌∙◌, arith, length-append}
use Rattle.cy_event.specs.Bodies.{byte_before, content_in, is_bad, is_content, is_over, next_stage, scan_byte, scan_bytes}
use Rattle.cy_event.specs.declared.body.BodyMark.{BodyMark}
use Rattle.cy_event.specs.declared.body.BodyStage.{BodyStage}
use Rattle.cy_in.proofs.Joins.{scan_join, content_join}

abbrev pub mark_at : ℕ → ℕ → BodyStage → BodyMark
mark_at raw n s = record { raw = raw; content = n; stage = s }

-- the bytes lead from the one stage to the other, all belong to the body, and this is their content
pub record Reaches (max : ℕ) (s : BodyStage) (bytes held : List ℕ) (next : BodyStage) : Type 0 where
  pub mark : (raw n : ℕ) → scan_bytes max (mark_at raw n s) bytes ≡ mark_at (raw + length bytes) (n + length held) next
  pub content : (raw n : ℕ) → content_in max (mark_at raw n s) bytes ≡ held

pub same_mark : (raw raw' n n' : ℕ) (s : BodyStage) → raw ≡ raw' → n ≡ n' → mark_at raw n s ≡ mark_at raw' n' s
same_mark raw raw' n n' s p q = cc

pub stay : (max : ℕ) (s : BodyStage) → Reaches max s [] [] s
stay max s = record { mark = λ raw n. same_mark _ _ _ _ s (omega arith) (omega arith); content = λ raw n. refl }

pub join : (max : ℕ) (s : BodyStage) (xs c : List ℕ) (s' : BodyStage) (ys d : List ℕ) (s'' : BodyStage) →
    Reaches max s xs c s' → Reaches max s' ys d s'' → Reaches max s (xs ++ ys) (c ++ d) s''
join max s xs c s' ys d s'' first second = record {
  mark = λ raw n. scan_join max (mark_at raw n s) xs ys
      ∙ (ap (λ (m : BodyMark). scan_bytes max m ys) (first.mark raw n)
      ∙ (second.mark (raw + length xs) (n + length c)
      ∙ same_mark _ _ _ _ s'' (omega (arith, length-append xs ys)) (omega (arith, length-append c d))));
  content = λ raw n. content_join max (mark_at raw n s) xs ys
      ∙ (ap (λ (m : BodyMark). content_in max (mark_at raw n s) xs ++ content_in max m ys) (first.mark raw n)
      ∙ (ap (λ (e : List ℕ). e ++ content_in max (mark_at (raw + length xs) (n + length c) s') ys) (first.content raw n)
      ∙ ap (λ (e : List ℕ). c ++ e) (second.content (raw + length xs) (n + length c))));
}

one_step : (max : ℕ) (s : BodyStage) (b : ℕ) (next : BodyStage) → next_stage max s b ≡ next → is_over s ≡ false → is_bad next ≡ false →
    is_content s ≡ false → (raw n : ℕ) → scan_byte max (mark_at raw n s) b ≡ mark_at (raw + 1) (n + 0) next
one_step max s b next e going good other raw n = rw (going, e, good, other)

-- one byte that is no content
pub one : (max : ℕ) (s : BodyStage) (b : ℕ) (next : BodyStage) → next_stage max s b ≡ next → is_over s ≡ false → is_bad next ≡ false →
    is_content s ≡ false → Reaches max s (b ∷ []) [] next
one max s b next e going good other = record {
  mark = λ raw n. one_step max s b next e going good other raw n;
  content = λ raw n. ap (λ (t : Bool). byte_before t b []) other;
}

-- a byte, and then the rest
pub cons : (max : ℕ) (s : BodyStage) (b : ℕ) (s' : BodyStage) (ys d : List ℕ) (s'' : BodyStage) →
    Reaches max s (b ∷ []) [] s' → Reaches max s' ys d s'' → Reaches max s (b ∷ ys) d s''
cons max s b s' ys d s'' first second = join max s (b ∷ []) [] s' ys d s'' first second

content_step : (max : ℕ) (s : BodyStage) (b : ℕ) (next : BodyStage) → next_stage max s b ≡ next → is_over s ≡ false → is_bad next ≡ false →
    is_content s ≡ true → (raw n : ℕ) → scan_byte max (mark_at raw n s) b ≡ mark_at (raw + 1) (n + 1) next
content_step max s b next e going good held raw n = rw (going, e, good, held)

-- one byte of content
pub one_content : (max : ℕ) (s : BodyStage) (b : ℕ) (next : BodyStage) → next_stage max s b ≡ next → is_over s ≡ false → is_bad next ≡ false →
    is_content s ≡ true → Reaches max s (b ∷ []) (b ∷ []) next
one_content max s b next e going good held = record {
  mark = λ raw n. content_step max s b next e going good held raw n;
  content = λ raw n. ap (λ (t : Bool). byte_before t b []) held;
}

pub to_stage : (max : ℕ) (s : BodyStage) (xs c : List ℕ) (a b : BodyStage) → Reaches max s xs c a → a ≡ b → Reaches max s xs c b
to_stage max s xs c a b r e = subst (λ (x : BodyStage). Reaches max s xs c x) e r

pub from_stage : (max : ℕ) (s s' : BodyStage) (xs c : List ℕ) (a : BodyStage) → Reaches max s xs c a → s ≡ s' → Reaches max s' xs c a
from_stage max s s' xs c a r e = subst (λ (x : BodyStage). Reaches max x xs c a) e r

pub of_bytes : (max : ℕ) (s : BodyStage) (xs ys c : List ℕ) (a : BodyStage) → Reaches max s xs c a → xs ≡ ys → Reaches max s ys c a
of_bytes max s xs ys c a r e = subst (λ (x : List ℕ). Reaches max s x c a) e r

pub of_content : (max : ℕ) (s : BodyStage) (xs c d : List ℕ) (a : BodyStage) → Reaches max s xs c a → c ≡ d → Reaches max s xs d a
of_content max s xs c d a r e = subst (λ (x : List ℕ). Reaches max s xs x a) e r
