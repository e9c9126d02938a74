mod Marks
mod Order
