pub mod Items
pub mod Texts
pub mod Quoted
pub mod Loop
pub mod Answered
pub mod Digits
