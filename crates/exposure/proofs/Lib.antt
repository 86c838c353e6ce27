mod Decreases
mod Tallies
pub mod Bounds
pub mod Members
mod Parts
mod MemberPass
mod Tables
mod RowPass
mod Left
mod LossPass
mod Groups
mod MaxPass
mod Monotone
pub mod MaxTotal
pub mod Found
pub mod Admitted
