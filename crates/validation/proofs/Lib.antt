pub mod Headings
pub mod Missing
pub mod Amounts
pub mod OpeningPasses
pub mod DayPasses
pub mod Parts
