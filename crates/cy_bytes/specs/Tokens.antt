-- The names of HTTP (RFC 9110, section 5.6.2).
use Rattle.std.specs.Prelude.{ℕ, Bool, true, false, ◌&&◌, ◌||◌, not, ◌==◌, List, [], ◌∷◌, codes}
use Rattle.std.specs.List.{list_all, list_any}
use Rattle.std.specs.Char.{is_ascii_alphanumeric}

-- a byte of a token (tchar)
unfoldable pub is_token_byte : ℕ → Bool
is_token_byte b = is_ascii_alphanumeric b || list_any (λ c. c == b) (codes "!#$%&'*+-.^_`|~")

abbrev pub is_empty : List ℕ → Bool
is_empty [] = true
is_empty (b ∷ bytes) = false

-- one or more such bytes
abbrev pub is_token : List ℕ → Bool
is_token bytes = not (is_empty bytes) && list_all is_token_byte bytes
