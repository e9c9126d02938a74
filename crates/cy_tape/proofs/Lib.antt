pub mod NumberedCharts
