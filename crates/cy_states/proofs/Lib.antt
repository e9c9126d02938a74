pub mod Cells
pub mod Decisions
pub mod ChartsMore
pub mod Standing
