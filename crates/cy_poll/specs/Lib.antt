pub mod Kinds
pub mod Notes
pub mod Sorts
pub mod Noting
pub mod Runs
pub mod Laws
