pub mod Closes
pub mod InputEnds
pub mod Cuts
pub mod Prefixes
pub mod Walks
pub mod Held
pub mod GivenContent
pub mod ToldEnds
