pub mod Openings
pub mod LinesDue
pub mod Whole
pub mod Reported
