-- What stands between the quotation marks of a quoted text: how bytes are spelled there, and how a text is read.
use Rattle.std.specs.Prelude.{◌≡◌, ◌≢◌, ℕ, zero, suc, ◌+◌, ◌-◌, ◌*◌, ◌/◌, ◌%◌, ◌<◌, ◌≤◌, List, [], ◌∷◌, ◌++◌, length, codes, ◌&&◌, nat_le, ◌==◌, if◌then◌else◌, Option, Some, None, option_map, Result, Ok, Err}
use Rattle.std.specs.Char.{digit_value, digit_char, is_digit}
use Rattle.std.specs.List.{flat_map}
use Rattle.std.specs.Str.{byte}

abbrev pub backslash : ℕ
backslash = byte "\\"

abbrev pub quotation_mark : ℕ
quotation_mark = byte "\""

-- a byte from space to `~` stands as itself, but for the two above
abbrev pub StandsAsItself : ℕ → Type 0
StandsAsItself b = (byte " " ≤ b) × (b ≤ byte "~") × (b ≢ backslash) × (b ≢ quotation_mark)

-- the byte that a backslash and this letter stand for: a carriage return, a line feed, a tab, or the letter
abbrev pub escaped : ℕ → Option ℕ
escaped letter =
    if letter == byte "r" then Some 13
    else if letter == byte "n" then Some 10
    else if letter == byte "t" then Some 9
    else if letter == backslash then Some backslash
    else if letter == quotation_mark then Some quotation_mark
    else None

-- An item is a byte that stands as itself, a backslash and a letter, or `\x` and two hexadecimal digits.
pub data Item : Type 0 where
  Itself : ℕ → Item
  Escape : ℕ → Item
  HexEscape : ℕ → ℕ → Item

-- the item as it is written
abbrev pub item_text : Item → List ℕ
item_text (Itself b) = b ∷ []
item_text (Escape letter) = backslash ∷ letter ∷ []
item_text (HexEscape high low) = backslash ∷ byte "x" ∷ high ∷ low ∷ []

-- the item spells the byte
abbrev pub Spells : Item → ℕ → Type 0
Spells (Itself c) b = StandsAsItself c × (b ≡ c)
Spells (Escape letter) b = escaped letter ≡ Some b
Spells (HexEscape high low) b = (digit_value high < 16) × (digit_value low < 16) × (b ≡ digit_value high * 16 + digit_value low)

-- The text spells these bytes: an item for each, one after another.
abbrev pub IsSpelling : List ℕ → List ℕ → Type 0
IsSpelling text [] = text ≡ []
IsSpelling text (b ∷ bytes) = (item : Item) × (rest : List ℕ) × Spells item b × (text ≡ item_text item ++ rest) × IsSpelling rest bytes

-- The text goes on, and no item begins it.
pub record BeginsNoItem (text : List ℕ) : Type 0 where
  pub goes_on : text ≢ []
  pub no_item : (item : Item) (b : ℕ) (rest : List ℕ) → Spells item b → text ≢ item_text item ++ rest

-- In front of the place are whole items, and none begins at the place.
pub record HasFirstFault (text : List ℕ) (place : ℕ) : Type 0 where
  pub front : List ℕ
  pub bytes : List ℕ
  pub rest : List ℕ
  pub parts : text ≡ front ++ rest
  pub at_place : length front ≡ place
  pub whole : IsSpelling front bytes
  pub fault : BeginsNoItem rest

-- the spelling that is written
abbrev pub spelling_of : ℕ → List ℕ
spelling_of b =
    if b == 13 then codes "\\r"
    else if b == 10 then codes "\\n"
    else if b == 9 then codes "\\t"
    else if b == backslash then codes "\\\\"
    else if b == quotation_mark then codes "\\\""
    else if nat_le (byte " ") b && nat_le b (byte "~") then b ∷ []
    else codes "\\x" ++ digit_char (b / 16) ∷ digit_char (b % 16) ∷ []

-- the text that is written
unfoldable pub quoted : List ℕ → List ℕ
quoted bytes = flat_map spelling_of bytes

-- the byte of two hexadecimal digits, and what stands behind them
abbrev pub hex_at : List ℕ → Option (ℕ × List ℕ)
hex_at [] = None
hex_at (high ∷ []) = None
hex_at (high ∷ low ∷ rest) = if is_digit high 16 && is_digit low 16 then Some (digit_value high * 16 + digit_value low, rest) else None

-- the byte of what stands behind a backslash, and what follows
abbrev pub escape_at : List ℕ → Option (ℕ × List ℕ)
escape_at [] = None
escape_at (letter ∷ rest) = if letter == byte "x" then hex_at rest else option_map (λ b. (b, rest)) (escaped letter)

-- the byte of the item that begins the text, and what follows
abbrev pub item_at : List ℕ → Option (ℕ × List ℕ)
item_at [] = None
item_at (b ∷ rest) =
    if b == backslash then escape_at rest
    else if b == quotation_mark then None
    else if nat_le (byte " ") b && nat_le b (byte "~") then Some (b, rest)
    else None

-- a byte in front of the bytes that were read
abbrev pub with_byte : ℕ → Result (List ℕ) (List ℕ) → Result (List ℕ) (List ℕ)
with_byte b (Ok bytes) = Ok (b ∷ bytes)
with_byte b (Err rest) = Err rest

-- the item's byte before those of the rest; without an item, the text
abbrev pub read_next : (List ℕ → Result (List ℕ) (List ℕ)) → List ℕ → Option (ℕ × List ℕ) → Result (List ℕ) (List ℕ)
read_next read_rest text None = Err text
read_next read_rest text (Some item) = with_byte item.0 (read_rest item.1)

-- the bytes of the text's items, of which there are at most so many, or the text from its first fault on
abbrev pub read_items : ℕ → List ℕ → Result (List ℕ) (List ℕ)
read_items most [] = Ok []
read_items zero (b ∷ rest) = Err (b ∷ rest)
read_items (suc most) (b ∷ rest) = read_next (read_items most) (b ∷ rest) (item_at (b ∷ rest))

-- a fault by its place in the text
abbrev pub placed : List ℕ → Result (List ℕ) (List ℕ) → Result (List ℕ) ℕ
placed text (Ok bytes) = Ok bytes
placed text (Err rest) = Err (length text - length rest)

-- the bytes that the text spells, or the place of its first fault
unfoldable pub unquoted : List ℕ → Result (List ℕ) ℕ
unquoted text = placed text (read_items (length text) text)
