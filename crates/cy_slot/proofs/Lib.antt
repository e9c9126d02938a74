pub mod Histories
pub mod Serving
pub mod Forgetting
