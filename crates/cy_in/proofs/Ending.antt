-- What leads to the end of a body is the rest of a written one.
use Rattle.std.proofs.Common.{◌≡◌, ℕ, ◌+◌, ◌≤◌, ◌<◌, Bool, true, false, Option, Some, None, List, [], ◌∷◌, ◌++◌, length, refl, sym, ap, ◌∙◌, arith, cond, leb, ltb, eqb, length-append, append_assoc}
use Rattle.std.specs.Prelude.{◌&&◌, All, fold}
use Rattle.std.specs.List.{flat_map, list_all}
use Rattle.std.specs.Char.{is_digit, digit_value}
use Rattle.std.proofs.lemmas.Bool.{leb-true, leb-false, ltb-true, eqb-true, and_parts, and_from}
use Rattle.std.proofs.lemmas.List.Elements.{All-cons}
use Rattle.cy_event.specs.Heads.{Field, is_blank, is_name_byte}
use Rattle.cy_event.specs.Bodies.{behind_line, behind_size, is_extension_byte, is_trailer_byte, next_stage, with_digit}
use Rattle.cy_event.specs.BodyGrammar.{Chunk, ChunkedBody, Extension, IsBody, IsChunk, IsExtension, IsLine, IsTrailer, SizeLine, body_text, chunk_text, extension_text, line_end, line_text, size_of, size_with, trailers_text}
use Rattle.cy_event.specs.declared.framing.Framing.TheVariants as framing
use Rattle.cy_event.specs.declared.body.TheConstants.{GREATEST_CHUNK, GREATEST_LINE, MOST_DIGITS}
use Rattle.cy_event.specs.declared.body.BodyStage.{BodyStage}
use Rattle.cy_event.specs.declared.body.BodyStage.TheVariants as stage

-- ---- the rest of a body, from each stage on

abbrev pub Body : ℕ → List ℕ → List ℕ → Type 0
Body max bytes content = IsBody max framing.Chunked bytes content

pub record Data (max n : ℕ) (bytes content : List ℕ) : Type 0 where
  pub data' : List ℕ
  pub tail : List ℕ
  pub later : List ℕ
  pub size : length data' ≡ n
  pub text : bytes ≡ data' ++ (line_end ++ tail)
  pub held : content ≡ data' ++ later
  pub body : Body max tail later

pub record Fields (max t : ℕ) (bytes content : List ℕ) : Type 0 where
  pub fields : List Field
  pub right : All IsTrailer fields
  pub short : t + length (trailers_text fields) ≤ max
  pub text : bytes ≡ trailers_text fields
  pub held : content ≡ []

pub record AfterLine (max v : ℕ) (bytes content : List ℕ) : Type 0 where
  pub at_end : v ≡ 0 → Fields max 0 bytes content
  pub at_chunk : 1 ≤ v → Data max v bytes content

pub record AfterText (max l v : ℕ) (bytes content : List ℕ) : Type 0 where
  pub text : List ℕ
  pub tail : List ℕ
  pub right : list_all is_extension_byte text ≡ true
  pub short : l + length text + 2 ≤ GREATEST_LINE
  pub is : bytes ≡ text ++ (line_end ++ tail)
  pub next : AfterLine max v tail content

pub record AfterBlanks (max l v : ℕ) (bytes content : List ℕ) : Type 0 where
  pub blanks : List ℕ
  pub text : List ℕ
  pub tail : List ℕ
  pub blank : list_all is_blank blanks ≡ true
  pub right : list_all is_extension_byte text ≡ true
  pub short : l + length blanks + 1 + length text + 2 ≤ GREATEST_LINE
  pub is : bytes ≡ blanks ++ (59 ∷ (text ++ (line_end ++ tail)))
  pub next : AfterLine max v tail content

pub record AfterDigits (max d v : ℕ) (bytes content : List ℕ) : Type 0 where
  pub digits : List ℕ
  pub extension : Option Extension
  pub tail : List ℕ
  pub hex : list_all (λ b. is_digit b 16) digits ≡ true
  pub few : d + length digits ≤ MOST_DIGITS
  pub size : fold size_with v digits ≤ GREATEST_CHUNK
  pub right : IsExtension extension
  pub short : d + length digits + length (extension_text extension ++ line_end) ≤ GREATEST_LINE
  pub is : bytes ≡ digits ++ ((extension_text extension ++ line_end) ++ tail)
  pub next : AfterLine max (fold size_with v digits) tail content

pub record AfterValue (max t : ℕ) (bytes content : List ℕ) : Type 0 where
  pub value : List ℕ
  pub fields : List Field
  pub values : list_all is_trailer_byte value ≡ true
  pub right : All IsTrailer fields
  pub short : t + length value + 2 + length (trailers_text fields) ≤ max
  pub text : bytes ≡ value ++ (line_end ++ trailers_text fields)
  pub held : content ≡ []

pub record AfterName (max t : ℕ) (bytes content : List ℕ) : Type 0 where
  pub name : List ℕ
  pub value : List ℕ
  pub fields : List Field
  pub names : list_all is_name_byte name ≡ true
  pub values : list_all is_trailer_byte value ≡ true
  pub right : All IsTrailer fields
  pub short : t + length name + 1 + length value + 2 + length (trailers_text fields) ≤ max
  pub text : bytes ≡ name ++ (58 ∷ (value ++ (line_end ++ trailers_text fields)))
  pub held : content ≡ []

pub record AfterReturn (max t : ℕ) (bytes content : List ℕ) : Type 0 where
  pub fields : List Field
  pub right : All IsTrailer fields
  pub short : t + 1 + length (trailers_text fields) ≤ max
  pub text : bytes ≡ 10 ∷ trailers_text fields
  pub held : content ≡ []

abbrev pub Rest : ℕ → BodyStage → List ℕ → List ℕ → Type 0
Rest max stage.Whole bytes content = (bytes ≡ []) × (content ≡ [])
Rest max (stage.Counted n) bytes content = 1 ≤ n → (length bytes ≡ n) × (content ≡ bytes)
Rest max stage.SizeDue bytes content = Body max bytes content
Rest max (stage.InSize d v) bytes content = d ≤ MOST_DIGITS → v ≤ GREATEST_CHUNK → AfterDigits max d v bytes content
Rest max (stage.InBlanks l v) bytes content = l + 3 ≤ GREATEST_LINE → AfterBlanks max l v bytes content
Rest max (stage.InExtension l v) bytes content = l + 2 ≤ GREATEST_LINE → AfterText max l v bytes content
Rest max (stage.LineEnds v) bytes content = (tail : List ℕ) × ((bytes ≡ 10 ∷ tail) × AfterLine max v tail content)
Rest max (stage.InChunk n) bytes content = 1 ≤ n → Data max n bytes content
Rest max stage.ChunkEnds bytes content = (tail : List ℕ) × ((bytes ≡ line_end ++ tail) × Body max tail content)
Rest max stage.ChunkEnded bytes content = (tail : List ℕ) × ((bytes ≡ 10 ∷ tail) × Body max tail content)
Rest max (stage.FieldDue t) bytes content = Fields max t bytes content
Rest max (stage.InName t) bytes content = AfterName max t bytes content
Rest max (stage.InValue t) bytes content = AfterValue max t bytes content
Rest max (stage.FieldEnds t) bytes content = AfterReturn max t bytes content
Rest max stage.LastEnds bytes content = (bytes ≡ 10 ∷ []) × (content ≡ [])
Rest max stage.Malformed bytes content = ⊥
Rest max stage.TooLong bytes content = ⊥

-- ---- one byte back

pub split : (t : Bool) (x y : BodyStage) (P : BodyStage → Type 0) (Q : Type 0) → P (cond t x y) → (t ≡ true → P x → Q) → (t ≡ false → P y → Q) → Q
split true x y P Q p f g = f refl p
split false x y P Q p f g = g refl p

within : (max l : ℕ) (bytes c : List ℕ) (limit : ℕ) (s : BodyStage) (Q : Type 0) →
    Rest max (cond (leb l limit) s stage.Malformed) bytes c → (l ≤ limit → Rest max s bytes c → Q) → Q
within max l bytes c limit s Q r f =
    split (leb l limit) s stage.Malformed (λ x. Rest max x bytes c) Q r (λ e p. f (leb-true l limit e) p) (λ e p. absurd p)

pub under : (max l : ℕ) (bytes c : List ℕ) (s : BodyStage) (Q : Type 0) →
    Rest max (cond (leb l max) s stage.TooLong) bytes c → (l ≤ max → Rest max s bytes c → Q) → Q
under max l bytes c s Q r f =
    split (leb l max) s stage.TooLong (λ x. Rest max x bytes c) Q r (λ e p. f (leb-true l max e) p) (λ e p. absurd p)

pub due_back : (max byte b : ℕ) (bytes c : List ℕ) (s : BodyStage) (Q : Type 0) →
    Rest max (cond (eqb b byte) s stage.Malformed) bytes c → (b ≡ byte → Rest max s bytes c → Q) → Q
due_back max byte b bytes c s Q r f =
    split (eqb b byte) s stage.Malformed (λ x. Rest max x bytes c) Q r (λ e p. f (eqb-true b byte e) p) (λ e p. absurd p)

pub consed : (b b' : ℕ) (xs ys : List ℕ) → b ≡ b' → xs ≡ ys → b ∷ xs ≡ b' ∷ ys
consed b b' xs ys p q = cc

pub after_line : (max v : ℕ) (bytes c : List ℕ) → Rest max (behind_line v) bytes c → AfterLine max v bytes c
after_line max v bytes c r =
    split (leb v 0) (stage.FieldDue 0) (stage.InChunk v) (λ x. Rest max x bytes c) (AfterLine max v bytes c) r
    (λ e p. record { at_end = λ z. p; at_chunk = λ some. absurd (omega (arith, leb-true v 0 e)) })
    (λ e p. record { at_end = λ z. absurd (omega (arith, leb-false v 0 e)); at_chunk = λ some. p some })

pub digit_back : (max d v b : ℕ) (bytes c : List ℕ) (Q : Type 0) → Rest max (with_digit d v (digit_value b)) bytes c →
    (d < MOST_DIGITS → size_with v b ≤ GREATEST_CHUNK → Rest max (stage.InSize (d + 1) (size_with v b)) bytes c → Q) → Q
digit_back max d v b bytes c Q r f =
    split (ltb d MOST_DIGITS && leb (size_with v b) GREATEST_CHUNK) (stage.InSize (d + 1) (size_with v b)) stage.Malformed
    (λ x. Rest max x bytes c) Q r
    (λ e p. let parts = and_parts (ltb d MOST_DIGITS) (leb (size_with v b) GREATEST_CHUNK) e in
    f (ltb-true d MOST_DIGITS parts.0) (leb-true (size_with v b) GREATEST_CHUNK parts.1) p)
    (λ e p. absurd p)

more_digits : (max d v b : ℕ) (bytes c : List ℕ) → is_digit b 16 ≡ true → AfterDigits max (d + 1) (size_with v b) bytes c → AfterDigits max d v (b ∷ bytes) c
more_digits max d v b bytes c hex r = record {
  digits = b ∷ r.digits;
  extension = r.extension;
  tail = r.tail;
  hex = and_from (is_digit b 16) (list_all (λ x. is_digit x 16) r.digits) hex r.hex;
  few = omega (arith, r.few);
  size = r.size;
  right = r.right;
  short = omega (arith, r.short);
  is = ap (λ (xs : List ℕ). b ∷ xs) r.is;
  next = r.next;
}

pub behind_back : (max l v b : ℕ) (bytes c : List ℕ) → Rest max (behind_size l v b) bytes c → AfterBlanks max l v (b ∷ bytes) c
behind_back max l v b bytes c r =
    split (is_blank b) _ _ (λ x. Rest max x bytes c) (AfterBlanks max l v (b ∷ bytes) c) r
    (λ blank p. within max (l + 4) bytes c GREATEST_LINE (stage.InBlanks (l + 1) v) (AfterBlanks max l v (b ∷ bytes) c) p
    (λ short q. more_blanks (q (omega arith)) blank))
    (λ other p. due_back max 59 b bytes c _ (AfterBlanks max l v (b ∷ bytes) c) p
    (λ e q. within max (l + 3) bytes c GREATEST_LINE (stage.InExtension (l + 1) v) (AfterBlanks max l v (b ∷ bytes) c) q
    (λ short t. semicolon_first e (t (omega arith)))))
  where
    more_blanks : AfterBlanks max (l + 1) v bytes c → is_blank b ≡ true → AfterBlanks max l v (b ∷ bytes) c
    more_blanks r blank = record {
      blanks = b ∷ r.blanks;
      text = r.text;
      tail = r.tail;
      blank = and_from (is_blank b) (list_all is_blank r.blanks) blank r.blank;
      right = r.right;
      short = omega (arith, r.short);
      is = ap (λ (xs : List ℕ). b ∷ xs) r.is;
      next = r.next;
    }

    semicolon_first : b ≡ 59 → AfterText max (l + 1) v bytes c → AfterBlanks max l v (b ∷ bytes) c
    semicolon_first e r = record {
      blanks = [];
      text = r.text;
      tail = r.tail;
      blank = refl;
      right = r.right;
      short = omega (arith, r.short);
      is = consed b 59 bytes _ e r.is;
      next = r.next;
    }

as_extension : (max d v : ℕ) (bytes c : List ℕ) → d ≤ MOST_DIGITS → v ≤ GREATEST_CHUNK → AfterBlanks max d v bytes c → AfterDigits max d v bytes c
as_extension max d v bytes c few small r = record {
  digits = [];
  extension = Some (record { blanks = r.blanks; text = r.text });
  tail = r.tail;
  hex = refl;
  few = omega (arith, few);
  size = small;
  right = (r.blank, r.right);
  short = omega (arith, r.short, length-append (r.blanks ++ (59 ∷ r.text)) line_end, length-append r.blanks (59 ∷ r.text));
  is = r.is ∙ (sym (append_assoc r.blanks (59 ∷ r.text) (line_end ++ r.tail)) ∙ sym (append_assoc (r.blanks ++ (59 ∷ r.text)) line_end r.tail));
  next = r.next;
}

pub size_back : (max d v b : ℕ) (bytes c : List ℕ) → Rest max (next_stage max (stage.InSize d v) b) bytes c → Rest max (stage.InSize d v) (b ∷ bytes) c
size_back max d v b bytes c r few small =
    split (is_digit b 16) _ _ (λ x. Rest max x bytes c) (AfterDigits max d v (b ∷ bytes) c) r
    (λ hex p. digit_back max d v b bytes c (AfterDigits max d v (b ∷ bytes) c) p
    (λ less fits q. more_digits max d v b bytes c hex (q (omega arith) fits)))
    (λ other p. split (eqb b 13) _ _ (λ x. Rest max x bytes c) (AfterDigits max d v (b ∷ bytes) c) p
    (λ e q. ends (eqb-true b 13 e) q)
    (λ e q. as_extension max d v (b ∷ bytes) c few small (behind_back max d v b bytes c q)))
  where
    ends : b ≡ 13 → (tail : List ℕ) × ((bytes ≡ 10 ∷ tail) × AfterLine max v tail c) → AfterDigits max d v (b ∷ bytes) c
    ends e q = record {
      digits = [];
      extension = None;
      tail = q.0;
      hex = refl;
      few = omega (arith, few);
      size = small;
      right = tt;
      short = omega (arith, few);
      is = consed b 13 bytes _ e q.1.0;
      next = q.1.1;
    }

pub text_back : (max l v b : ℕ) (bytes c : List ℕ) → Rest max (next_stage max (stage.InExtension l v) b) bytes c → Rest max (stage.InExtension l v) (b ∷ bytes) c
text_back max l v b bytes c r room =
    split (eqb b 13) _ _ (λ x. Rest max x bytes c) (AfterText max l v (b ∷ bytes) c) r
    (λ e p. ends (eqb-true b 13 e) p)
    (λ other p. split (is_extension_byte b) _ _ (λ x. Rest max x bytes c) (AfterText max l v (b ∷ bytes) c) p
    (λ right q. within max (l + 3) bytes c GREATEST_LINE (stage.InExtension (l + 1) v) (AfterText max l v (b ∷ bytes) c) q
    (λ short t. more right (t (omega arith))))
    (λ wrong q. absurd q))
  where
    ends : b ≡ 13 → (tail : List ℕ) × ((bytes ≡ 10 ∷ tail) × AfterLine max v tail c) → AfterText max l v (b ∷ bytes) c
    ends e q = record { text = []; tail = q.0; right = refl; short = omega (arith, room); is = consed b 13 bytes _ e q.1.0; next = q.1.1 }

    more : is_extension_byte b ≡ true → AfterText max (l + 1) v bytes c → AfterText max l v (b ∷ bytes) c
    more right r = record {
      text = b ∷ r.text;
      tail = r.tail;
      right = and_from (is_extension_byte b) (list_all is_extension_byte r.text) right r.right;
      short = omega (arith, r.short);
      is = ap (λ (xs : List ℕ). b ∷ xs) r.is;
      next = r.next;
    }

-- ---- a body from its parts

pub line_of : (max : ℕ) (b : ℕ) (ds : List ℕ) (e : Option Extension) → list_all (λ x. is_digit x 16) (b ∷ ds) ≡ true → length (b ∷ ds) ≤ MOST_DIGITS →
    size_of (b ∷ ds) ≤ GREATEST_CHUNK → IsExtension e → length (b ∷ ds) + length (extension_text e ++ line_end) ≤ GREATEST_LINE →
    IsLine (record { digits = b ∷ ds; extension = e })
line_of max b ds e hex few size right short = record {
  some = omega arith;
  few = few;
  digits = hex;
  size = size;
  extension = right;
  short = omega (arith, short, length-append (b ∷ ds) (extension_text e ++ line_end));
}

with_trailers : (max : ℕ) (l : SizeLine) (tail content : List ℕ) → IsLine l → size_of l.digits ≡ 0 → Fields max 0 tail content →
    Body max (line_text l ++ tail) content
with_trailers max l tail content right zero_size r = (
  record { chunks = []; last = l; trailers = r.fields },
  record { chunks = λ k d lt. absurd (omega arith); last = right; end = zero_size; trailers = r.right; short = omega (arith, r.short) },
  ap (λ (xs : List ℕ). line_text l ++ xs) (sym r.text),
  sym r.held,
)

with_chunk : (max : ℕ) (l : SizeLine) (tail content : List ℕ) → IsLine l → 1 ≤ size_of l.digits → Data max (size_of l.digits) tail content →
    Body max (line_text l ++ tail) content
with_chunk max l tail content right some r =
    let chunk : Chunk = record { line = l; bytes = r.data' } in
    let later : ChunkedBody = r.body.0 in (
      record { chunks = chunk ∷ later.chunks; last = later.last; trailers = later.trailers },
      record {
        chunks = All-cons IsChunk chunk later.chunks (record { line = right; size = sym r.size; some = omega (arith, some, r.size) }) r.body.1.chunks;
        last = r.body.1.last;
        end = r.body.1.end;
        trailers = r.body.1.trailers;
        short = r.body.1.short;
      },
      append_assoc (chunk_text chunk) (flat_map chunk_text later.chunks) (line_text later.last ++ trailers_text later.trailers)
          ∙ (append_assoc (line_text l) (r.data' ++ line_end) (body_text later)
          ∙ ap (λ (xs : List ℕ). line_text l ++ xs) (append_assoc r.data' line_end (body_text later)
          ∙ (ap (λ (xs : List ℕ). r.data' ++ (line_end ++ xs)) r.body.2 ∙ sym r.text))),
      ap (λ (xs : List ℕ). r.data' ++ xs) r.body.3 ∙ sym r.held,
    )

pub by_size : (max : ℕ) (l : SizeLine) (tail content : List ℕ) → IsLine l → AfterLine max (size_of l.digits) tail content → Body max (line_text l ++ tail) content
by_size max l tail content right r =
    split_size (leb (size_of l.digits) 0) refl
  where
    split_size : (t : Bool) → leb (size_of l.digits) 0 ≡ t → Body max (line_text l ++ tail) content
    split_size true e = let z : size_of l.digits ≡ 0 = omega (arith, leb-true (size_of l.digits) 0 e) in with_trailers max l tail content right z (r.at_end z)
    split_size false e = let s : 1 ≤ size_of l.digits = omega (arith, leb-false (size_of l.digits) 0 e) in with_chunk max l tail content right s (r.at_chunk s)
