pub mod Numbers
pub mod Free
pub mod Entering
pub mod Runs
