-- What the items of a link in memory say.
use Rattle.std.specs.Prelude.{Bool, true, ◌==◌, nat_lt, ◌-◌, ℕ, List, [], ◌∷◌, ◌++◌, length, max, min}
use Rattle.cy_link.specs.declared.items.Input.{Input}
use Rattle.cy_link.specs.declared.items.Input.TheVariants as input
use Rattle.cy_link.specs.declared.items.Output.{Output}
use Rattle.cy_link.specs.declared.items.Output.TheVariants as output
use Rattle.cy_link.specs.declared.source.Read.{Read}
use Rattle.cy_link.specs.declared.source.Read.TheVariants as read
use Rattle.cy_link.specs.declared.sink.Write.{Write}
use Rattle.cy_link.specs.declared.sink.Write.TheVariants as write

-- the bytes of one item
abbrev pub piece_of : Input → List ℕ
piece_of (input.Piece bytes) = bytes.items
piece_of input.Pause = []

-- the bytes of all items, in order
abbrev pub bytes_of : List Input → List ℕ
bytes_of [] = []
bytes_of (i ∷ is) = piece_of i ++ bytes_of is

-- an item is no piece without bytes
abbrev pub is_filled : Input → Bool
is_filled (input.Piece bytes) = nat_lt 0 (length bytes.items)
is_filled input.Pause = true

-- a read may begin at this byte of the first item
abbrev pub is_in_first : ℕ → List Input → Bool
is_in_first position [] = position == 0
is_in_first position (input.Piece bytes ∷ is) = nat_lt position (length bytes.items)
is_in_first position (input.Pause ∷ is) = position == 0

-- what a read over a slice of this length answers that isn't told to fail, from this byte of the first item on
abbrev pub read_of : ℕ → List Input → ℕ → Read
read_of position [] len = read.End
read_of position (input.Piece bytes ∷ is) len = read.Got (min len (length bytes.items - position))
read_of position (input.Pause ∷ is) len = read.NotYet

-- what a write of so many bytes answers that isn't told to fail
abbrev pub write_of : List Output → ℕ → Write
write_of [] len = write.Took len
write_of (output.Room n ∷ os) len = write.Took (min (max n 1) len)
write_of (output.Pause ∷ os) len = write.NotYet
