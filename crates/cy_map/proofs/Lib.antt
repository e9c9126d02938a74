pub mod Keys
pub mod Members
pub mod Prefixes
pub mod Segments
pub mod Readings
pub mod Precedence
pub mod Repeats
pub mod Lookups
