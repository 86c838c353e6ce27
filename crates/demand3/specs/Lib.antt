pub mod Made
pub mod Demand3
