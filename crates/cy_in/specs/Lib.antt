pub mod Moves
pub mod Scans
pub mod Intakes
pub mod Reads
pub mod Laws
pub mod GrammarLaws
pub mod Continuations
pub mod Courses
