pub mod Limits
pub mod Settings
pub mod Rules
pub mod Laws
