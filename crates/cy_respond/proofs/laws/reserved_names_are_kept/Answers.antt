-- The law `reserved_names_are_kept`, by what is proved of it elsewhere.
use Rattle.cy_respond.proofs.ReservedNames as reserved
use Rattle.cy_respond.proofs.laws.reserved_names_are_kept.Goals as goal

pub returns : goal.returns
returns c = reserved.reserved_names_are_kept
