pub mod Bits
pub mod Givens
pub mod Noted
pub mod Ended
pub mod Untold
pub mod Lost
