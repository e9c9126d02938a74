pub mod Due
pub mod Order
pub mod Queues
pub mod Laws
