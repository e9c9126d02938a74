pub mod Rests
pub mod LineInputs
pub mod Intakes
pub mod Given
pub mod ShortBodies
pub mod InRing
pub mod Built
pub mod Plain
pub mod Lines
mod Ends
pub mod Readings
pub mod Requests
mod TurnParts
mod ActParts
mod ReturnParts
mod ReadParts
mod Work
mod Openings
mod AnswerParts
