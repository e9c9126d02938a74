-- Bytes that lead to the end of a body are a written body.
use Rattle.std.proofs.Common.{◌≡◌, ℕ, ◌+◌, ◌-◌, ◌≤◌, Bool, true, false, List, [], ◌∷◌, ◌++◌, length, refl, sym, ap, ◌∙◌, subst, arith, leb, ltb, eqb, length-append, append_assoc}
use Rattle.std.specs.List.{flat_map, list_all}
use Rattle.std.proofs.lemmas.Bool.{leb-true, leb-false, eqb-true, and_from, lt-ltb}
use Rattle.std.proofs.lemmas.List.Elements.{All-cons}
use Rattle.cy_event.specs.Heads.{Field, is_name_byte}
use Rattle.cy_event.specs.Bodies.{byte_before, in_name, is_content, is_over, is_trailer_byte, next_stage}
use Rattle.cy_event.specs.BodyGrammar.{IsTrailer, line_end, trailer_text, trailers_text, IsLine, SizeLine, extension_text, size_with}
use Rattle.std.specs.Char.{is_digit}
use Rattle.cy_event.specs.declared.body.BodyStage.{BodyStage}
use Rattle.cy_event.specs.declared.body.BodyStage.TheVariants as stage
use Rattle.cy_in.proofs.Ending.{AfterDigits, AfterName, AfterReturn, AfterValue, Body, Data, Fields, Rest, after_line, behind_back, by_size, consed, digit_back, due_back, line_of, size_back, split, text_back, under}

byte_first : (n b : ℕ) (c : List ℕ) → 1 ≤ n → byte_before (ltb 0 n) b c ≡ b ∷ c
byte_first n b c some = ap (λ (t : Bool). byte_before t b c) (lt-ltb 0 n some)

counted_back : (max n b : ℕ) (bytes c : List ℕ) → Rest max (next_stage max (stage.Counted n) b) bytes c →
    Rest max (stage.Counted n) (b ∷ bytes) (byte_before (ltb 0 n) b c)
counted_back max n b bytes c r some =
    split (leb n 1) _ _ (λ x. Rest max x bytes c) ((length (b ∷ bytes) ≡ n) × (byte_before (ltb 0 n) b c ≡ b ∷ bytes)) r
    (λ e p. let none : length bytes ≡ 0 = ap length p.0 in
    (omega (arith, leb-true n 1 e, none), byte_first n b c some ∙ ap (λ (xs : List ℕ). b ∷ xs) (p.1 ∙ sym p.0)))
    (λ e p. let q = p (omega (arith, leb-false n 1 e)) in
    (omega (arith, leb-false n 1 e, q.0), byte_first n b c some ∙ ap (λ (xs : List ℕ). b ∷ xs) q.1))

chunk_back : (max n b : ℕ) (bytes c : List ℕ) → Rest max (next_stage max (stage.InChunk n) b) bytes c →
    Rest max (stage.InChunk n) (b ∷ bytes) (byte_before (ltb 0 n) b c)
chunk_back max n b bytes c r some =
    split (leb n 1) _ _ (λ x. Rest max x bytes c) (Data max n (b ∷ bytes) (byte_before (ltb 0 n) b c)) r
    (λ e p. record {
      data' = b ∷ [];
      tail = p.0;
      later = c;
      size = omega (arith, leb-true n 1 e);
      text = ap (λ (xs : List ℕ). b ∷ xs) p.1.0;
      held = byte_first n b c some;
      body = p.1.1;
    })
    (λ e p. more (p (omega (arith, leb-false n 1 e))))
  where
    more : Data max (n - 1) bytes c → Data max n (b ∷ bytes) (byte_before (ltb 0 n) b c)
    more q = record {
      data' = b ∷ q.data';
      tail = q.tail;
      later = q.later;
      size = omega (arith, q.size);
      text = ap (λ (xs : List ℕ). b ∷ xs) q.text;
      held = byte_first n b c some ∙ ap (λ (xs : List ℕ). b ∷ xs) q.held;
      body = q.body;
    }

size_due_back : (max b : ℕ) (bytes c : List ℕ) → Rest max (next_stage max stage.SizeDue b) bytes c → Body max (b ∷ bytes) c
size_due_back max b bytes c r =
    split (is_digit b 16) _ _ (λ x. Rest max x bytes c) (Body max (b ∷ bytes) c) r
    (λ hex p. digit_back max 0 0 b bytes c (Body max (b ∷ bytes) c) p (λ less fits q. whole_line hex (q (omega arith) fits)))
    (λ other p. absurd p)
  where
    whole_line : is_digit b 16 ≡ true → AfterDigits max 1 (size_with 0 b) bytes c → Body max (b ∷ bytes) c
    whole_line hex q =
        let l : SizeLine = record { digits = b ∷ q.digits; extension = q.extension } in
        let right : IsLine l = line_of max b q.digits q.extension (and_from (is_digit b 16) (list_all (λ x. is_digit x 16) q.digits) hex q.hex)
        (omega (arith, q.few)) q.size q.right (omega (arith, q.short)) in
        subst (λ (xs : List ℕ). Body max xs c)
        (append_assoc (b ∷ q.digits) (extension_text q.extension ++ line_end) q.tail ∙ ap (λ (xs : List ℕ). b ∷ xs) (sym q.is))
        (by_size max l q.tail c right q.next)

-- ---- trailers

name_back : (max t b : ℕ) (bytes c : List ℕ) (Q : Type 0) → Rest max (in_name max t b) bytes c → (is_name_byte b ≡ true → AfterName max (t + 1) bytes c → Q) → Q
name_back max t b bytes c Q r f =
    split (is_name_byte b) _ _ (λ x. Rest max x bytes c) Q r
    (λ name p. under max (t + 6) bytes c (stage.InName (t + 1)) Q p (λ short q. f name q))
    (λ other p. absurd p)

field_back : (max t b : ℕ) (bytes c : List ℕ) → Rest max (next_stage max (stage.FieldDue t) b) bytes c → Fields max t (b ∷ bytes) c
field_back max t b bytes c r =
    split (eqb b 13) _ _ (λ x. Rest max x bytes c) (Fields max t (b ∷ bytes) c) r
    (λ e p. under max (t + 2) bytes c stage.LastEnds (Fields max t (b ∷ bytes) c) p (λ short q. ends (eqb-true b 13 e) short q))
    (λ other p. name_back max t b bytes c (Fields max t (b ∷ bytes) c) p first)
  where
    ends : b ≡ 13 → t + 2 ≤ max → (bytes ≡ 10 ∷ []) × (c ≡ []) → Fields max t (b ∷ bytes) c
    ends e short q = record { fields = []; right = λ k d lt. absurd (omega arith); short = omega (arith, short); text = consed b 13 bytes _ e q.0; held = q.1 }

    first : is_name_byte b ≡ true → AfterName max (t + 1) bytes c → Fields max t (b ∷ bytes) c
    first name q =
        let f : Field = record { name = b ∷ q.name; value = q.value } in
        let this : IsTrailer f = record { name = and_from (is_name_byte b) (list_all is_name_byte q.name) name q.names; value = q.values } in
        record {
          fields = f ∷ q.fields;
          right = All-cons IsTrailer f q.fields this q.right;
          short = omega (
            arith,
            q.short,
            length-append (trailer_text f ++ flat_map trailer_text q.fields) line_end,
            length-append (trailer_text f) (flat_map trailer_text q.fields),
            length-append (flat_map trailer_text q.fields) line_end,
            length-append f.name (58 ∷ (f.value ++ line_end)),
            length-append f.value line_end,
          );
          text = ap (λ (xs : List ℕ). b ∷ xs) q.text ∙ sym (append_assoc (trailer_text f) (flat_map trailer_text q.fields) line_end
              ∙ (append_assoc f.name (58 ∷ (f.value ++ line_end)) (trailers_text q.fields)
              ∙ ap (λ (xs : List ℕ). f.name ++ (58 ∷ xs)) (append_assoc f.value line_end (trailers_text q.fields))));
          held = q.held;
        }

in_name_back : (max t b : ℕ) (bytes c : List ℕ) → Rest max (next_stage max (stage.InName t) b) bytes c → AfterName max t (b ∷ bytes) c
in_name_back max t b bytes c r =
    split (eqb b 58) _ _ (λ x. Rest max x bytes c) (AfterName max t (b ∷ bytes) c) r
    (λ e p. under max (t + 5) bytes c (stage.InValue (t + 1)) (AfterName max t (b ∷ bytes) c) p (λ short q. colon_first (eqb-true b 58 e) q))
    (λ other p. name_back max t b bytes c (AfterName max t (b ∷ bytes) c) p more)
  where
    colon_first : b ≡ 58 → AfterValue max (t + 1) bytes c → AfterName max t (b ∷ bytes) c
    colon_first e q = record {
      name = [];
      value = q.value;
      fields = q.fields;
      names = refl;
      values = q.values;
      right = q.right;
      short = omega (arith, q.short);
      text = consed b 58 bytes _ e q.text;
      held = q.held;
    }

    more : is_name_byte b ≡ true → AfterName max (t + 1) bytes c → AfterName max t (b ∷ bytes) c
    more name q = record {
      name = b ∷ q.name;
      value = q.value;
      fields = q.fields;
      names = and_from (is_name_byte b) (list_all is_name_byte q.name) name q.names;
      values = q.values;
      right = q.right;
      short = omega (arith, q.short);
      text = ap (λ (xs : List ℕ). b ∷ xs) q.text;
      held = q.held;
    }

value_back : (max t b : ℕ) (bytes c : List ℕ) → Rest max (next_stage max (stage.InValue t) b) bytes c → AfterValue max t (b ∷ bytes) c
value_back max t b bytes c r =
    split (eqb b 13) _ _ (λ x. Rest max x bytes c) (AfterValue max t (b ∷ bytes) c) r
    (λ e p. under max (t + 4) bytes c (stage.FieldEnds (t + 1)) (AfterValue max t (b ∷ bytes) c) p (λ short q. ends (eqb-true b 13 e) q))
    (λ other p. split (is_trailer_byte b) _ _ (λ x. Rest max x bytes c) (AfterValue max t (b ∷ bytes) c) p
    (λ right q. under max (t + 5) bytes c (stage.InValue (t + 1)) (AfterValue max t (b ∷ bytes) c) q (λ short u. more right u))
    (λ wrong q. absurd q))
  where
    ends : b ≡ 13 → AfterReturn max (t + 1) bytes c → AfterValue max t (b ∷ bytes) c
    ends e q = record { value = []; fields = q.fields; values = refl; right = q.right; short = omega (arith, q.short); text = consed b 13 bytes _ e q.text; held = q.held }

    more : is_trailer_byte b ≡ true → AfterValue max (t + 1) bytes c → AfterValue max t (b ∷ bytes) c
    more right q = record {
      value = b ∷ q.value;
      fields = q.fields;
      values = and_from (is_trailer_byte b) (list_all is_trailer_byte q.value) right q.values;
      right = q.right;
      short = omega (arith, q.short);
      text = ap (λ (xs : List ℕ). b ∷ xs) q.text;
      held = q.held;
    }

return_back : (max t b : ℕ) (bytes c : List ℕ) → Rest max (next_stage max (stage.FieldEnds t) b) bytes c → AfterReturn max t (b ∷ bytes) c
return_back max t b bytes c r =
    due_back max 10 b bytes c _ (AfterReturn max t (b ∷ bytes) c) r
    (λ e p. under max (t + 3) bytes c (stage.FieldDue (t + 1)) (AfterReturn max t (b ∷ bytes) c) p (λ short q. ends e q))
  where
    ends : b ≡ 10 → Fields max (t + 1) bytes c → AfterReturn max t (b ∷ bytes) c
    ends e q = record { fields = q.fields; right = q.right; short = omega (arith, q.short); text = consed b 10 bytes _ e q.text; held = q.held }

-- ---- any stage

pub back : (max : ℕ) (s : BodyStage) (b : ℕ) (bytes c : List ℕ) → is_over s ≡ false → Rest max (next_stage max s b) bytes c →
    Rest max s (b ∷ bytes) (byte_before (is_content s) b c)
back max stage.Whole b bytes c going r = cc
back max (stage.Counted n) b bytes c going r = counted_back max n b bytes c r
back max stage.SizeDue b bytes c going r = size_due_back max b bytes c r
back max (stage.InSize d v) b bytes c going r = size_back max d v b bytes c r
back max (stage.InBlanks l v) b bytes c going r = λ room. behind_back max l v b bytes c r
back max (stage.InExtension l v) b bytes c going r = text_back max l v b bytes c r
back max (stage.LineEnds v) b bytes c going r =
    due_back max 10 b bytes c _ (Rest max (stage.LineEnds v) (b ∷ bytes) c) r (λ e p. (bytes, (consed b 10 bytes bytes e refl, after_line max v bytes c p)))
back max (stage.InChunk n) b bytes c going r = chunk_back max n b bytes c r
back max stage.ChunkEnds b bytes c going r =
    due_back max 13 b bytes c _ (Rest max stage.ChunkEnds (b ∷ bytes) c) r (λ e p. (p.0, (consed b 13 bytes _ e p.1.0, p.1.1)))
back max stage.ChunkEnded b bytes c going r =
    due_back max 10 b bytes c _ (Rest max stage.ChunkEnded (b ∷ bytes) c) r (λ e p. (bytes, (consed b 10 bytes bytes e refl, p)))
back max (stage.FieldDue t) b bytes c going r = field_back max t b bytes c r
back max (stage.InName t) b bytes c going r = in_name_back max t b bytes c r
back max (stage.InValue t) b bytes c going r = value_back max t b bytes c r
back max (stage.FieldEnds t) b bytes c going r = return_back max t b bytes c r
back max stage.LastEnds b bytes c going r =
    due_back max 10 b bytes c _ (Rest max stage.LastEnds (b ∷ bytes) c) r (λ e p. (consed b 10 bytes [] e p.0, p.1))
back max stage.Malformed b bytes c going r = cc
back max stage.TooLong b bytes c going r = cc

-- all of the bytes belong to the body, and lead to its end
abbrev pub Leads : ℕ → BodyStage → List ℕ → Type 0
Leads max s [] = s ≡ stage.Whole
Leads max s (b ∷ bytes) = (is_over s ≡ false) × Leads max (next_stage max s b) bytes

abbrev pub contents : ℕ → BodyStage → List ℕ → List ℕ
contents max s [] = []
contents max s (b ∷ bytes) = byte_before (is_content s) b (contents max (next_stage max s b) bytes)

pub rest_of : (max : ℕ) (s : BodyStage) (bytes : List ℕ) → Leads max s bytes → Rest max s bytes (contents max s bytes)
rest_of max s [] leads = subst (λ (x : BodyStage). Rest max x [] []) (sym leads) (refl, refl)
rest_of max s (b ∷ bytes) leads = back max s b bytes (contents max (next_stage max s b) bytes) leads.0 (rest_of max (next_stage max s b) bytes leads.1)
