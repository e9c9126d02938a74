pub mod Members
pub mod Kept
pub mod Meaning
pub mod Texts
pub mod Printing
pub mod Refusals
