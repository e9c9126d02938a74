pub mod Sets
pub mod Drawn
pub mod Counted
