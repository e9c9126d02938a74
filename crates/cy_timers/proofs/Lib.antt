pub mod Before
pub mod Put
pub mod Moves
pub mod Sorted
pub mod Changes
pub mod Fronts
pub mod Members
