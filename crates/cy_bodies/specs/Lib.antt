pub mod Handed
pub mod ContentLaws
pub mod Laws
