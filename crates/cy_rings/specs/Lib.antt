pub mod Rings
pub mod Lending
