pub mod EscapeLemmas
pub mod FormLemmas
pub mod WalkLemmas
pub mod TargetLemmas
pub mod LawLemmas
