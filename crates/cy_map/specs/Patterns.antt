-- The patterns of mapping rules, and which paths each form of pattern serves (Servlet 3.1, 12.1 and 12.2).
use Rattle.std.specs.Prelude.{ℕ, ◌-◌, ◌==◌, Bool, true, ◌&&◌, ◌||◌, not, nat_eq, nat_lt, if◌then◌else◌, List, [], ◌∷◌, ◌++◌, length, take, drop, Option, None, Some, is_some, codes, bytes_eq, slice_get}
use Rattle.std.specs.Option.{option_map_or}
use Rattle.std.specs.List.{list_any, starts_with, ends_with, after_last}

abbrev pub slash : ℕ
slash = 47

abbrev pub dot : ℕ
dot = 46

abbrev pub star : ℕ
star = 42

-- the byte stands in the text
abbrev pub has_byte : ℕ → List ℕ → Bool
has_byte byte text = list_any (λ b. b == byte) text

-- ---- the forms of a pattern

-- `/` alone is the default
abbrev pub is_default : List ℕ → Bool
is_default pattern = bytes_eq pattern (codes "/")

-- Exact: it begins with a slash, isn't the default, and has no `*`. It is itself the path.
abbrev pub exact_path : List ℕ → Option (List ℕ)
exact_path pattern = if starts_with nat_eq pattern (codes "/") && (nat_lt 1 (length pattern) && not (has_byte star pattern)) then Some pattern else None

-- the base of a prefix is empty, or a slash and one or more bytes other than `*`
abbrev pub is_base : List ℕ → Bool
is_base [] = true
is_base (first ∷ rest) = (first == slash) && (nat_lt 0 (length rest) && not (has_byte star rest))

-- Prefix: a base, and `/*`. It is read as its base.
abbrev pub prefix_base : List ℕ → Option (List ℕ)
prefix_base pattern = let base = take (length pattern - 2) pattern in if ends_with nat_eq pattern (codes "/*") && is_base base then Some base else None

-- the name of an extension is one or more bytes other than `/`, `.` and `*`
abbrev pub is_name : List ℕ → Bool
is_name text = nat_lt 0 (length text) && (not (has_byte slash text) && (not (has_byte dot text) && not (has_byte star text)))

-- Extension: `*.` and a name. It is read as its name.
abbrev pub extension_name : List ℕ → Option (List ℕ)
extension_name pattern = let name = drop 2 pattern in if starts_with nat_eq pattern (codes "*.") && is_name name then Some name else None

-- every other text is a bad pattern
abbrev pub is_pattern : List ℕ → Bool
is_pattern pattern = is_default pattern || (is_some (exact_path pattern) || (is_some (prefix_base pattern) || is_some (extension_name pattern)))

-- ---- what they serve

-- a path is under a base where it goes on from it with a slash, or is the base and not empty
abbrev pub is_under : List ℕ → List ℕ → Bool
is_under base path = starts_with nat_eq path (base ++ codes "/") || (bytes_eq base path && nat_lt 0 (length path))

-- the last segment of a path
abbrev pub last_segment : List ℕ → List ℕ
last_segment path = after_last (λ b. b == slash) path

-- what stands after the last dot of the last segment, where that has one
abbrev pub extension_of : List ℕ → Option (List ℕ)
extension_of path = let segment = last_segment path in if has_byte dot segment then Some (after_last (λ b. b == dot) segment) else None

-- A base of a prefix ends at this place of a path that begins with it: a slash stands there, or it is the end of a path
-- that isn't empty.
abbrev pub ends_base : List ℕ → ℕ → Bool
ends_base path end = option_map_or (λ byte. byte == slash) (slice_get path end) (nat_lt 0 end)
