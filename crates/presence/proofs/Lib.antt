pub mod Row10
pub mod AcceptedDays
pub mod Presence
pub mod Before
pub mod AsBefore
