-- The numbers that texts write, up to 2^64 - 1.
use Rattle.std.specs.Prelude.{ℕ, ◌^◌, Bool, false, ◌||◌, ◌==◌, nat_lt, List, [], ◌∷◌, length, Option, Some, None, if◌then◌else◌}
use Rattle.std.specs.Char.{is_digit}
use Rattle.std.specs.List.{list_all}
use Rattle.std.specs.Str.{byte}
use Rattle.std.specs.Str.Parse.{digits_value_after}
use Rattle.cy_bytes.specs.Tokens.{is_empty}

-- a number of at most 64 bits
abbrev pub fitting : ℕ → Option ℕ
fitting n = if nat_lt n (2 ^ 64) then Some n else None

-- the number that the digits write when they follow those of n, where all are digits of the radix
abbrev pub number_after : ℕ → ℕ → List ℕ → Option ℕ
number_after radix n text =
    if list_all (λ b. is_digit b radix) text then fitting (digits_value_after radix n text) else None

-- the number that the digits write
abbrev pub number_of : ℕ → List ℕ → Option ℕ
number_of radix text = number_after radix 0 text

-- a zero and more
abbrev pub has_leading_zero : List ℕ → Bool
has_leading_zero [] = false
has_leading_zero (b ∷ []) = false
has_leading_zero (b ∷ c ∷ text) = b == byte "0"

-- one or more decimal digits, without a leading zero
unfoldable pub decimal_of : List ℕ → Option ℕ
decimal_of text = if is_empty text || has_leading_zero text then None else number_of 10 text

-- 1 to 16 hexadecimal digits of either case
unfoldable pub hex_of : List ℕ → Option ℕ
hex_of text = if is_empty text || nat_lt 16 (length text) then None else number_of 16 text
