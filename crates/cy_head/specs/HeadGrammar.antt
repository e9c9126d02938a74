-- What the head at the front of the bytes has to do with the grammar of the kit's `httparse`.
use Rattle.std.specs.Prelude.{◌≡◌, ◌≢◌, ◌↔◌, ℕ, ◌<◌, ◌≤◌, IsTrue, IsFalse, List, [], ◌∷◌, ◌++◌, length, take, map, None, Some}
use Rattle.std.specs.List.{All, flat_map}
use Rattle.httparse.specs.Grammar.{LineEnd, print_end, RequestHead, ReadsRequest, field_value, Field as FieldLine}
use Rattle.cy_event.specs.Heads.{line_feed, is_empty_line, Field, Head, awaited, found, front_length, head_of, host_fits}

-- a field line's name, and its value without the blanks
abbrev pub field_of_line : FieldLine → Field
field_of_line f = record { name = f.name; value = field_value f }

-- the parts of a request head of the grammar
abbrev pub head_of_tree : RequestHead → Head
head_of_tree g = record {
  method = g.method;
  target = g.target;
  minor = g.minor;
  fields = map field_of_line g.fields;
}

-- the front has n bytes and is within its limit, and the grammar reads all of it as a head with these
-- parts, within the limit of fields, whose Host is right
abbrev pub IsHeadAtFront : ℕ → ℕ → List ℕ → ℕ → Head → Type 0
IsHeadAtFront max_head max_fields bytes n h =
    (front_length bytes ≡ Some n) × (n ≤ max_head)
    × (g : RequestHead) × ReadsRequest (take n bytes) g [] × (length g.fields ≤ max_fields)
    × (head_of_tree g ≡ h) × IsTrue (host_fits h)

-- a head is found exactly where the grammar has one
abbrev pub HeadsAreTheGrammar : Type 0
HeadsAreTheGrammar =
    (max_head max_fields : ℕ) (bytes : List ℕ) (n : ℕ) (h : Head)
    → (head_of max_head max_fields bytes ≡ found n h) ↔ IsHeadAtFront max_head max_fields bytes n h

-- a head is awaited exactly where there is no front and there are fewer bytes than a head may have
abbrev pub HeadsAreAwaited : Type 0
HeadsAreAwaited =
    (max_head max_fields : ℕ) (bytes : List ℕ)
    → (head_of max_head max_fields bytes ≡ awaited) ↔ ((front_length bytes ≡ None) × (length bytes < max_head))

-- a front of the first bytes is the front of all of them
abbrev pub FrontsStay : Type 0
FrontsStay =
    (bytes more : List ℕ) (n : ℕ) → front_length bytes ≡ Some n → front_length (bytes ++ more) ≡ Some n

-- where a head is found or none will come, more bytes change nothing
abbrev pub HeadsStay : Type 0
HeadsStay =
    (max_head max_fields : ℕ) (bytes more : List ℕ) → head_of max_head max_fields bytes ≢ awaited
    → head_of max_head max_fields (bytes ++ more) ≡ head_of max_head max_fields bytes

-- the lines, each with its LF
abbrev pub ended : List (List ℕ) → List ℕ
ended lines = flat_map (λ line. line ++ line_feed ∷ []) lines

-- the text ends in an empty line after a line that isn't empty
pub record EndsHead (text : List ℕ) : Type 0 where
  pub before : List (List ℕ)
  pub line : List ℕ
  pub between : List (List ℕ)
  pub last : LineEnd
  pub some : IsFalse (is_empty_line line)
  pub one : All (λ b. b ≢ line_feed) line
  pub printed : text ≡ ended before ++ (line ++ line_feed ∷ (ended between ++ print_end last))

-- the front is the shortest prefix that ends so
abbrev pub FrontsAreShortest : Type 0
FrontsAreShortest =
    (bytes : List ℕ) (n : ℕ) → (front_length bytes ≡ Some n)
    ↔ ((n ≤ length bytes) × EndsHead (take n bytes) × ((m : ℕ) → m < n → EndsHead (take m bytes) → ⊥))
