pub mod Progress
pub mod Rules
pub mod Laws
