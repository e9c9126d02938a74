-- Laws of the definitions. Each is the contract of a public function without a body.
use Rattle.std.specs.Prelude.{◌≡◌, ◌≤◌, ◌↔◌, ℕ, Bool, false, ◌&&◌, ◌||◌, not, List, [], ◌∷◌, take, ◌==◌, Some, None, IsTrue, is_some, count_by}
use Rattle.std.specs.List.{list_all}
use Rattle.percent_encoding.specs.Percent.{percent_decode}
use Rattle.cy_event.specs.Heads.{parts_at, percent}
use Rattle.cy_event.specs.Targets.{PathAndQuery, slash, backslash, question_mark, number_sign, semicolon, is_asterisk, is_dot, is_dot_dot, is_ordinary, path_of, plain_segments, target_of, unescaped}

-- there is no dot segment, and no empty segment but the last
abbrev pub is_clean : List (List ℕ) → Bool
is_clean [] = false
is_clean (segment ∷ []) = not (is_dot segment || is_dot_dot segment)
is_clean (segment ∷ next ∷ segments) = is_ordinary segment && is_clean (next ∷ segments)

-- a slash, and such segments
abbrev pub is_clean_path : List ℕ → Bool
is_clean_path [] = false
is_clean_path (b ∷ rest) = b == slash && is_clean (parts_at slash rest)

-- a path that is read is clean
abbrev pub PathsAreClean : Type 0
PathsAreClean = (method target : List ℕ) (named : PathAndQuery) → is_asterisk method target ≡ false
    → target_of method target ≡ Some named → IsTrue (is_clean_path named.path)

-- in each front of the segments there are at least as many names as double dots
abbrev pub NeverLeavesRoot : List (List ℕ) → Type 0
NeverLeavesRoot segments = (n : ℕ) → count_by is_dot_dot (take n segments) ≤ count_by is_ordinary (take n segments)

-- a path whose escapes are right is read exactly where no segment leads above the root
abbrev pub PathsStayBelowRoot : Type 0
PathsStayBelowRoot = (raw : List ℕ) (segments : List (List ℕ)) → plain_segments (parts_at slash raw) ≡ Some segments
    → IsTrue (is_some (path_of raw)) ↔ NeverLeavesRoot segments

-- a byte that stands for itself in a path
abbrev pub is_plain_byte : ℕ → Bool
is_plain_byte b = not (b == percent || (b == semicolon || (b == question_mark || (b == number_sign || b == backslash))))

-- a clean path of such bytes, sent as a target, is the path that is read, and there is no query
abbrev pub OwnPathsAreReadBack : Type 0
OwnPathsAreReadBack = (method path : List ℕ) → IsTrue (is_clean_path path) → IsTrue (list_all is_plain_byte path)
    → target_of method path ≡ Some (record { path = path; query = None })

-- where the escapes are right, the bytes are those that percent-decoding gives
abbrev pub UnescapingIsDecoding : Type 0
UnescapingIsDecoding = (bytes plain : List ℕ) → unescaped bytes ≡ Some plain → percent_decode bytes ≡ plain
