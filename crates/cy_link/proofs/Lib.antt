pub mod Fronts
mod Pieces
mod Moments
