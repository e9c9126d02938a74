pub mod Rule
pub mod Stocks
pub mod Laws
