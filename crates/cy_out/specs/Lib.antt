pub mod Told
pub mod Kept
pub mod Pushing
pub mod Exchanges
pub mod Calls
pub mod Laws
pub mod Made
