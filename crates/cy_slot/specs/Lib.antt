pub mod Slots
pub mod Reaching
pub mod Runs
pub mod Courses
