pub mod Columns
pub mod RefusalRows
pub mod Outcomes
pub mod CallsSaid
