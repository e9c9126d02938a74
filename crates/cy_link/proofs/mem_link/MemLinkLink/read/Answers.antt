-- What is left to show of `MemLinkLink::read`.
use Rattle.std.proofs.Common.{rules, ◌≡◌, ◌≤◌, ◌<◌, get_or, ◌+◌, length, Some, ap, ◌∙◌, sym, arith, refl}
use Rattle.std.specs.List.{slice_get}
use Rattle.std.proofs.lemmas.Grind.{common_steps}
use Rattle.std.proofs.lemmas.Option.{slice_get_read}
use Rattle.cy_link.specs.declared.items.Input.TheVariants.{Piece, Pause}
use Rattle.cy_link.specs.Items.{piece_of}
use Rattle.cy_link.proofs.Pieces.{starts_anywhere, paused_gave, within_item, IsGiven, IsPast, given_left, given_gave, given_begins}
use Rattle.cy_link.proofs.mem_link.MemLinkLink.read.Goals as goal

pub invariant_of-self-in-Pause : goal.invariant_of-self-in-Pause
invariant_of-self-in-Pause c = record { within = c.args.self.now.within; filled = c.args.self.now.filled; in_first = starts_anywhere c.args.self.now.inputs.items (c.args.self.now.cursor.item + 1) c.args.self.now.filled }

pub returns-in-Pause-clause-gives : goal.returns-in-Pause-clause-gives
returns-in-Pause-clause-gives c =
    let xs = c.args.self.now.inputs.items in
    let at = c.args.self.now.cursor in
    let below : at.item < length xs = search rules in
    let same : c.in-Some.input.now ≡ get_or xs at.item c.in-Some.input.now = search rules in
    let here : slice_get xs at.item ≡ Some Pause = slice_get_read xs (length xs) at.item c.in-Some.input.now refl below same ∙ ap Some c.in-Pause.is in
    paused_gave xs at.item at.byte here c.args.self.now.in_first

pub returns-in-Piece-clause-moves : goal.returns-in-Piece-clause-moves
returns-in-Piece-clause-moves c =
    let xs = c.args.self.now.inputs.items in
    let at = c.args.self.now.cursor in
    let i = Piece c.in-Piece.bytes in
    let n = c.min-count.result in
    let front = c.copy_from_slice.new.self in
    let len : c.len.result ≡ length (piece_of i) = search rules in
    let below : at.item < length xs = search rules in
    let same : c.in-Some.input.now ≡ get_or xs at.item c.in-Some.input.now = search rules in
    let here : slice_get xs at.item ≡ Some i = slice_get_read xs (length xs) at.item c.in-Some.input.now refl below same ∙ ap Some c.in-Piece.is in
    let begun : at.byte ≤ length (piece_of i) = within_item xs at.item at.byte i here c.args.self.now.in_first in
    let given : IsGiven xs i at.item at.byte n front = record { here = here; within = grind (arith, common_steps); front_is = grind (arith, common_steps) } in
    let past : IsPast (length (piece_of i)) at.item at.byte n c.past-self.result = record { whole = λ e. c.past-self.ensures.whole (e ∙ sym len); part = λ h. c.past-self.ensures.part (omega (arith, h, len)) } in
    given_left xs i at.item at.byte n front _ c.past-self.result given past

pub returns-in-Piece-clause-gives : goal.returns-in-Piece-clause-gives
returns-in-Piece-clause-gives c =
    let xs = c.args.self.now.inputs.items in
    let at = c.args.self.now.cursor in
    let i = Piece c.in-Piece.bytes in
    let n = c.min-count.result in
    let front = c.copy_from_slice.new.self in
    let len : c.len.result ≡ length (piece_of i) = search rules in
    let below : at.item < length xs = search rules in
    let same : c.in-Some.input.now ≡ get_or xs at.item c.in-Some.input.now = search rules in
    let here : slice_get xs at.item ≡ Some i = slice_get_read xs (length xs) at.item c.in-Some.input.now refl below same ∙ ap Some c.in-Piece.is in
    let begun : at.byte ≤ length (piece_of i) = within_item xs at.item at.byte i here c.args.self.now.in_first in
    let given : IsGiven xs i at.item at.byte n front = record { here = here; within = grind (arith, common_steps); front_is = grind (arith, common_steps) } in
    let past : IsPast (length (piece_of i)) at.item at.byte n c.past-self.result = record { whole = λ e. c.past-self.ensures.whole (e ∙ sym len); part = λ h. c.past-self.ensures.part (omega (arith, h, len)) } in
    given_gave xs i at.item at.byte n front _ c.past-self.result given past

pub invariant_of-self-in-Piece : goal.invariant_of-self-in-Piece
invariant_of-self-in-Piece c =
    let xs = c.args.self.now.inputs.items in
    let at = c.args.self.now.cursor in
    let i = Piece c.in-Piece.bytes in
    let n = c.min-count.result in
    let front = c.copy_from_slice.new.self in
    let len : c.len.result ≡ length (piece_of i) = search rules in
    let below : at.item < length xs = search rules in
    let same : c.in-Some.input.now ≡ get_or xs at.item c.in-Some.input.now = search rules in
    let here : slice_get xs at.item ≡ Some i = slice_get_read xs (length xs) at.item c.in-Some.input.now refl below same ∙ ap Some c.in-Piece.is in
    let begun : at.byte ≤ length (piece_of i) = within_item xs at.item at.byte i here c.args.self.now.in_first in
    let given : IsGiven xs i at.item at.byte n front = record { here = here; within = grind (arith, common_steps); front_is = grind (arith, common_steps) } in
    let past : IsPast (length (piece_of i)) at.item at.byte n c.past-self.result = record { whole = λ e. c.past-self.ensures.whole (e ∙ sym len); part = λ h. c.past-self.ensures.part (omega (arith, h, len)) } in
    record { within = c.args.self.now.within; filled = c.args.self.now.filled; in_first = given_begins xs i at.item at.byte n front c.past-self.result c.args.self.now.filled given past }
