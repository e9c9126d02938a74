pub mod Quoting
pub mod QuoteFault
pub mod Tokens
pub mod Numbers
