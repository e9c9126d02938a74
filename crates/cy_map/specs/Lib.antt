pub mod Patterns
pub mod Mapping
pub mod Refusals
pub mod Indexes
pub mod Mappers
