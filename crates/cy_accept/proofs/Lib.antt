pub mod Counted
pub mod Again
