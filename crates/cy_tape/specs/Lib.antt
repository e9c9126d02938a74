pub mod ChartTexts
pub mod Laws
