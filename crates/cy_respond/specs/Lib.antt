pub mod HeadParts
pub mod Shapes
pub mod Fields
pub mod FieldLines
pub mod Laws
