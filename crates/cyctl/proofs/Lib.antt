pub mod OneWord
pub mod ReadSteps
pub mod Statuses
pub mod Streams
pub mod Checks
