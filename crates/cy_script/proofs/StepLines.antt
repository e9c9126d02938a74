-- The lines of steps, as they are read and as they are written.
use Rattle.std.proofs.Common.{◌≡◌, ℕ, ◌<◌, ◌≤◌, ◌^◌, inl, inr, Bool, true, cond, leb, ltb, List, [], ◌∷◌, ◌++◌, length, Option, Some, None, refl, sym, ap, subst, ◌∙◌}
use Rattle.std.specs.Prelude.{codes, option_map, bytes_eq}
use Rattle.std.specs.Option.{option_and_then}
use Rattle.std.proofs.lemmas.Bool.{leb-true, le-leb, ltb-true, lt-ltb}
use Rattle.std.proofs.lemmas.List.{append-nil}
use Rattle.std.proofs.lemmas.Slice.Eq.{bytes_eq-Decides}
use Rattle.cy_event.specs.declared.steps.Act.TheVariants as act
use Rattle.cy_event.specs.declared.steps.Event.TheVariants as event
use Rattle.cy_event.specs.declared.steps.Step.{Step}
use Rattle.cy_event.specs.declared.steps.Step.TheVariants as step
use Rattle.cy_event.specs.declared.steps.TheConstants.{GREATEST_READ}
use Rattle.cy_script.specs.declared.statements.Statement.TheVariants as statement
use Rattle.cy_script.specs.TextLines.{HasNumber, IsNumber, IsQuoted, IsStepLine}
use Rattle.cy_script.specs.Reading.{act_of, alone, came_of, number_field, quoted_field, read_of, statement_of, step_line, step_of_word, taken_of, word_field, write_of}
use Rattle.cy_script.proofs.FieldsRead.{alone_is, bind_some, cond_cases, map_some, number_field_is, number_field_last, number_field_then, quoted_field_is, quoted_field_again, word_field_is}
use Rattle.cy_script.proofs.Words.{some_then}

pub same_bytes : (s t : List ℕ) → bytes_eq s t ≡ true → s ≡ t
same_bytes s t h = (bytes_eq-Decides s t).0 h

-- ---- a word, a number, and what may follow

-- a word, a number's digits behind a space, and the rest
abbrev number_line : List ℕ → List ℕ → List ℕ → List ℕ
number_line word digits rest = word ++ 32 ∷ (digits ++ rest)

pub at_end_of : (word digits rest : List ℕ) (n : ℕ) → IsNumber digits n → rest ≡ [] → HasNumber (number_line word digits rest) (word ∷ []) n []
at_end_of word digits rest n number ends =
    (digits, number, ap (λ (r : List ℕ). number_line word digits r) ends ∙ ap (λ (t : List ℕ). word ++ 32 ∷ t) (append-nil digits))

before_field : (word digits rest field : List ℕ) (n : ℕ) → IsNumber digits n → rest ≡ 32 ∷ field → HasNumber (number_line word digits rest) (word ∷ []) n (field ∷ [])
before_field word digits rest field n number follows = (digits, number, ap (λ (r : List ℕ). number_line word digits r) follows)

before_fields : (word digits rest field last : List ℕ) (n : ℕ) → IsNumber digits n → rest ≡ 32 ∷ (field ++ 32 ∷ last) → HasNumber (number_line word digits rest) (word ∷ []) n (field ∷ last ∷ [])
before_fields word digits rest field last n number follows = (digits, number, ap (λ (r : List ℕ). number_line word digits r) follows)

-- ---- what is read is written so

admit_is : (digits rest : List ℕ) (conn : ℕ) (s : Step) → IsNumber digits conn → alone (step.Admit conn) rest ≡ Some s → IsStepLine (number_line (codes "admit") digits rest) s
admit_is digits rest conn s number h =
    let ends = alone_is (step.Admit conn) s rest h in
    subst (λ (t : Step). IsStepLine (number_line (codes "admit") digits rest) t) ends.1 (at_end_of (codes "admit") digits rest conn number ends.0)

run_is : (digits rest : List ℕ) (conn : ℕ) (s : Step) → IsNumber digits conn → alone (step.Run conn) rest ≡ Some s → IsStepLine (number_line (codes "run") digits rest) s
run_is digits rest conn s number h =
    let ends = alone_is (step.Run conn) s rest h in
    subst (λ (t : Step). IsStepLine (number_line (codes "run") digits rest) t) ends.1 (at_end_of (codes "run") digits rest conn number ends.0)

end_is : (digits rest : List ℕ) (conn : ℕ) (s : Step) → IsNumber digits conn → alone (step.On conn event.End []) rest ≡ Some s → IsStepLine (number_line (codes "end") digits rest) s
end_is digits rest conn s number h =
    let ends = alone_is (step.On conn event.End []) s rest h in
    subst (λ (t : Step). IsStepLine (number_line (codes "end") digits rest) t) ends.1 (at_end_of (codes "end") digits rest conn number ends.0, refl)

return_is : (digits rest : List ℕ) (conn : ℕ) (s : Step) → IsNumber digits conn → alone (step.Act conn act.Return []) rest ≡ Some s → IsStepLine (number_line (codes "return") digits rest) s
return_is digits rest conn s number h =
    let ends = alone_is (step.Act conn act.Return []) s rest h in
    subst (λ (t : Step). IsStepLine (number_line (codes "return") digits rest) t) ends.1 (at_end_of (codes "return") digits rest conn number ends.0, refl)

in_is : (digits rest : List ℕ) (conn : ℕ) (s : Step) → IsNumber digits conn → came_of conn rest ≡ Some s → IsStepLine (number_line (codes "in") digits rest) s
in_is digits rest conn s number h =
    let came = map_some (quoted_field rest) (λ bytes. step.On conn event.In bytes) s h in
    let field = quoted_field_is rest came.0 came.1 in
    subst (λ (t : Step). IsStepLine (number_line (codes "in") digits rest) t) came.2 (field.quoted, field.quotes, before_field (codes "in") digits rest field.quoted conn number field.parts)

out_is : (digits rest : List ℕ) (conn : ℕ) (s : Step) → IsNumber digits conn → taken_of conn rest ≡ Some s → IsStepLine (number_line (codes "out") digits rest) s
out_is digits rest conn s number h =
    let count = bind_some (number_field rest) (λ c. alone (step.On conn (event.Took c.0) []) c.1) s h in
    let field = number_field_is rest count.0 count.1 in
    let ends = alone_is (step.On conn (event.Took count.0.0) []) s count.0.1 count.2 in
    let follows : rest ≡ 32 ∷ field.digits = field.parts ∙ ap (λ (r : List ℕ). 32 ∷ (field.digits ++ r)) ends.0 ∙ ap (λ (t : List ℕ). 32 ∷ t) (append-nil field.digits) in
    subst (λ (t : Step). IsStepLine (number_line (codes "out") digits rest) t) ends.1 (field.digits, field.number, before_field (codes "out") digits rest field.digits conn number follows, refl)

-- an act of this word, with what follows it
abbrev act_field : List ℕ → List ℕ → List ℕ
act_field word rest = 32 ∷ (word ++ rest)

write_is : (digits rest more : List ℕ) (conn : ℕ) (s : Step) → IsNumber digits conn → rest ≡ act_field (codes "write") more
    → option_and_then (write_of conn) (quoted_field more) ≡ Some s → IsStepLine (number_line (codes "act") digits rest) s
write_is digits rest more conn s number parts h =
    let write = bind_some (quoted_field more) (write_of conn) s h in
    let field = quoted_field_is more write.0 write.1 in
    let fits = some_then (ltb (length write.0) (2 ^ 32)) (Some (step.Act conn (act.Write (length write.0)) write.0)) s write.2 in
    let made : step.Act conn (act.Write (length write.0)) write.0 ≡ s = cc fits.1 in
    let follows : rest ≡ act_field (codes "write") (32 ∷ field.quoted) = parts ∙ ap (act_field (codes "write")) field.parts in
    subst (λ (t : Step). IsStepLine (number_line (codes "act") digits rest) t) made
    (field.quoted, field.quotes, before_fields (codes "act") digits rest (codes "write") field.quoted conn number follows, refl, ltb-true _ _ fits.0)

read_is : (digits rest more : List ℕ) (conn : ℕ) (s : Step) → IsNumber digits conn → rest ≡ act_field (codes "read") more → read_of conn more ≡ Some s
    → IsStepLine (number_line (codes "act") digits rest) s
read_is digits rest more conn s number parts h =
    let count = bind_some (number_field more) (λ c. cond (leb c.0 GREATEST_READ) (alone (step.Act conn (act.Read c.0) []) c.1) None) s h in
    let field = number_field_is more count.0 count.1 in
    let fits = some_then (leb count.0.0 GREATEST_READ) (alone (step.Act conn (act.Read count.0.0) []) count.0.1) s count.2 in
    let ends = alone_is (step.Act conn (act.Read count.0.0) []) s count.0.1 fits.1 in
    let last : more ≡ 32 ∷ field.digits = field.parts ∙ ap (λ (r : List ℕ). 32 ∷ (field.digits ++ r)) ends.0 ∙ ap (λ (t : List ℕ). 32 ∷ t) (append-nil field.digits) in
    let follows : rest ≡ act_field (codes "read") (32 ∷ field.digits) = parts ∙ ap (act_field (codes "read")) last in
    subst (λ (t : Step). IsStepLine (number_line (codes "act") digits rest) t) ends.1
    (field.digits, field.number, before_fields (codes "act") digits rest (codes "read") field.digits conn number follows, leb-true _ _ fits.0, refl)

act_is : (digits rest : List ℕ) (conn : ℕ) (s : Step) → IsNumber digits conn → act_of conn rest ≡ Some s → IsStepLine (number_line (codes "act") digits rest) s
act_is digits rest conn s number h =
    let word = bind_some (word_field rest) (λ a. cond (bytes_eq a.0 (codes "write")) (option_and_then (write_of conn) (quoted_field a.1))
    (cond (bytes_eq a.0 (codes "read")) (read_of conn a.1) None)) s h in
    let parts = (word_field_is rest word.0 word.1).parts in
    elim (cond_cases (bytes_eq word.0.0 (codes "write")) _ _ s word.2) as (λ _. IsStepLine (number_line (codes "act") digits rest) s) [
      | inl writes ↦ write_is digits rest word.0.1 conn s number (parts ∙ ap (λ (w : List ℕ). act_field w word.0.1) (same_bytes word.0.0 (codes "write") writes.0)) writes.1
      | inr other ↦
          let reads = some_then (bytes_eq word.0.0 (codes "read")) (read_of conn word.0.1) s other.1 in
          read_is digits rest word.0.1 conn s number (parts ∙ ap (λ (w : List ℕ). act_field w word.0.1) (same_bytes word.0.0 (codes "read") reads.0)) reads.1
    ]

-- the line begins with another word
abbrev of_word : List ℕ → List ℕ → Step → List ℕ → Type 0
of_word digits rest s word = IsStepLine (number_line word digits rest) s

step_word_is : (word digits rest : List ℕ) (conn : ℕ) (s : Step) → IsNumber digits conn → step_of_word word conn rest ≡ Some s → IsStepLine (number_line word digits rest) s
step_word_is word digits rest conn s number h =
    elim (cond_cases (bytes_eq word (codes "admit")) _ _ s h) as (λ _. of_word digits rest s word) [
      | inl admit ↦ subst (of_word digits rest s) (sym (same_bytes word (codes "admit") admit.0)) (admit_is digits rest conn s number admit.1)
      | inr other ↦ elim (cond_cases (bytes_eq word (codes "in")) _ _ s other.1) as (λ _. of_word digits rest s word) [
        | inl came ↦ subst (of_word digits rest s) (sym (same_bytes word (codes "in") came.0)) (in_is digits rest conn s number came.1)
        | inr other ↦ elim (cond_cases (bytes_eq word (codes "end")) _ _ s other.1) as (λ _. of_word digits rest s word) [
          | inl ends ↦ subst (of_word digits rest s) (sym (same_bytes word (codes "end") ends.0)) (end_is digits rest conn s number ends.1)
          | inr other ↦ elim (cond_cases (bytes_eq word (codes "out")) _ _ s other.1) as (λ _. of_word digits rest s word) [
            | inl took ↦ subst (of_word digits rest s) (sym (same_bytes word (codes "out") took.0)) (out_is digits rest conn s number took.1)
            | inr other ↦ elim (cond_cases (bytes_eq word (codes "run")) _ _ s other.1) as (λ _. of_word digits rest s word) [
              | inl run ↦ subst (of_word digits rest s) (sym (same_bytes word (codes "run") run.0)) (run_is digits rest conn s number run.1)
              | inr other ↦ elim (cond_cases (bytes_eq word (codes "act")) _ _ s other.1) as (λ _. of_word digits rest s word) [
                | inl acts ↦ subst (of_word digits rest s) (sym (same_bytes word (codes "act") acts.0)) (act_is digits rest conn s number acts.1)
                | inr other ↦
                    let returns = some_then (bytes_eq word (codes "return")) (alone (step.Act conn act.Return []) rest) s other.1 in
                    subst (of_word digits rest s) (sym (same_bytes word (codes "return") returns.0)) (return_is digits rest conn s number returns.1)
              ]
            ]
          ]
        ]
      ]
    ]

-- A step that is read is written so.
pub step_line_is : (word fields : List ℕ) (s : Step) → step_line word fields ≡ Some s → IsStepLine (word ++ fields) s
step_line_is word fields s h =
    let conn = bind_some (number_field fields) (λ c. step_of_word word c.0 c.1) s h in
    let field = number_field_is fields conn.0 conn.1 in
    subst (λ (f : List ℕ). IsStepLine (word ++ f) s) (sym field.parts) (step_word_is word field.digits conn.0.1 conn.0.0 s field.number conn.2)

-- ---- what is written so is read

-- what a line says where this number and its rest follow the word
abbrev behind_number : List ℕ → Option (ℕ × List ℕ) → Option Step
behind_number word o = option_and_then (λ c. step_of_word word c.0 c.1) o

-- The line is one of steps, and is read as this step.
pub record IsReadFrom (line : List ℕ) (s : Step) : Type 0 where
  pub word : List ℕ
  pub fields : List ℕ
  pub parts : line ≡ word ++ 32 ∷ fields
  pub of_steps : statement_of (word ++ 32 ∷ fields) ≡ option_map statement.Step (step_line word (32 ∷ fields))
  pub read : step_line word (32 ∷ fields) ≡ Some s

write_again : (quoted bytes : List ℕ) (conn : ℕ) → IsQuoted quoted bytes → length bytes < 2 ^ 32 → act_of conn (32 ∷ (codes "write" ++ 32 ∷ quoted)) ≡ Some (step.Act conn (act.Write (length bytes)) bytes)
write_again quoted bytes conn quotes fits =
    ap (λ (o : Option (List ℕ)). option_and_then (write_of conn) o) (quoted_field_again quoted bytes quotes)
    ∙ ap (λ (t : Bool). cond t (Some (step.Act conn (act.Write (length bytes)) bytes)) None) (lt-ltb _ _ fits)

read_again : (digits : List ℕ) (n conn : ℕ) → IsNumber digits n → n ≤ GREATEST_READ → act_of conn (32 ∷ (codes "read" ++ 32 ∷ digits)) ≡ Some (step.Act conn (act.Read n) [])
read_again digits n conn number few =
    ap (λ (o : Option (ℕ × List ℕ)). option_and_then (λ c. cond (leb c.0 GREATEST_READ) (alone (step.Act conn (act.Read c.0) []) c.1) None) o) (number_field_last digits n number)
    ∙ ap (λ (t : Bool). cond t (Some (step.Act conn (act.Read n) [])) None) (le-leb _ _ few)

pub step_again : (line : List ℕ) (s : Step) → IsStepLine line s → IsReadFrom line s
step_again line (step.At moment) h = absurd h
step_again line (step.Admit conn) h = record {
  word = codes "admit";
  fields = h.0;
  parts = h.2;
  of_steps = refl;
  read = ap (behind_number (codes "admit")) (number_field_last h.0 conn h.1);
}
step_again line (step.On conn event.In bytes) h = record {
  word = codes "in";
  fields = h.2.0 ++ 32 ∷ h.0;
  parts = h.2.2;
  of_steps = refl;
  read = ap (behind_number (codes "in")) (number_field_then h.2.0 conn h.0 h.2.1) ∙ ap (λ (o : Option (List ℕ)). option_map (λ b. step.On conn event.In b) o) (quoted_field_again h.0 bytes h.1);
}
step_again line (step.On conn event.End bytes) h = record {
  word = codes "end";
  fields = h.0.0;
  parts = h.0.2;
  of_steps = refl;
  read = ap (behind_number (codes "end")) (number_field_last h.0.0 conn h.0.1) ∙ ap (λ (b : List ℕ). Some (step.On conn event.End b)) (sym h.1);
}
step_again line (step.On conn (event.Took n) bytes) h = record {
  word = codes "out";
  fields = h.2.0 ++ 32 ∷ h.0;
  parts = h.2.2;
  of_steps = refl;
  read = ap (behind_number (codes "out")) (number_field_then h.2.0 conn h.0 h.2.1)
      ∙ ap (λ (o : Option (ℕ × List ℕ)). option_and_then (λ c. alone (step.On conn (event.Took c.0) []) c.1) o) (number_field_last h.0 n h.1)
      ∙ ap (λ (b : List ℕ). Some (step.On conn (event.Took n) b)) (sym h.3);
}
step_again line (step.Run conn) h = record {
  word = codes "run";
  fields = h.0;
  parts = h.2;
  of_steps = refl;
  read = ap (behind_number (codes "run")) (number_field_last h.0 conn h.1);
}
step_again line (step.Act conn (act.Read n) bytes) h = record {
  word = codes "act";
  fields = h.2.0 ++ 32 ∷ (codes "read" ++ 32 ∷ h.0);
  parts = h.2.2;
  of_steps = refl;
  read = ap (behind_number (codes "act")) (number_field_then h.2.0 conn (codes "read" ++ 32 ∷ h.0) h.2.1)
      ∙ read_again h.0 n conn h.1 h.3
      ∙ ap (λ (b : List ℕ). Some (step.Act conn (act.Read n) b)) (sym h.4);
}
step_again line (step.Act conn (act.Write n) bytes) h =
    let fits : length bytes < 2 ^ 32 = subst (λ (k : ℕ). k < 2 ^ 32) h.3 h.4 in
    record {
      word = codes "act";
      fields = h.2.0 ++ 32 ∷ (codes "write" ++ 32 ∷ h.0);
      parts = h.2.2;
      of_steps = refl;
      read = ap (behind_number (codes "act")) (number_field_then h.2.0 conn (codes "write" ++ 32 ∷ h.0) h.2.1)
          ∙ write_again h.0 bytes conn h.1 fits
          ∙ ap (λ (k : ℕ). Some (step.Act conn (act.Write k) bytes)) (sym h.3);
    }
step_again line (step.Act conn act.Return bytes) h = record {
  word = codes "return";
  fields = h.0.0;
  parts = h.0.2;
  of_steps = refl;
  read = ap (behind_number (codes "return")) (number_field_last h.0.0 conn h.0.1) ∙ ap (λ (b : List ℕ). Some (step.Act conn act.Return b)) (sym h.1);
}
