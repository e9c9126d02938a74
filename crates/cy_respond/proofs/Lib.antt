pub mod LineLemmas
pub mod HeadSizes
pub mod Kept
pub mod ErrorFields
pub mod Without
pub mod HeadEnds
pub mod ReservedNames
