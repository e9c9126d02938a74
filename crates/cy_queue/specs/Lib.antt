pub mod Queues
pub mod Marks
pub mod Laws
