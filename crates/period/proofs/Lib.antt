pub mod ByFields
pub mod Replies
pub mod InRange
pub mod Sizing
pub mod Reach
pub mod Simulation
