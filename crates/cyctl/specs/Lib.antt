pub mod Causes
pub mod Tool
pub mod Check
