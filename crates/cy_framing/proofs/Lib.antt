pub mod ElementLemmas
pub mod LengthLemmas
pub mod CodingLemmas
pub mod WordLemmas
pub mod BothLemmas
pub mod LawLemmas
pub mod VerdictLemmas
