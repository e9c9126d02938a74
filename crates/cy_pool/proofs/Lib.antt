mod Totals
mod Parts
mod Moves
mod Shelves
