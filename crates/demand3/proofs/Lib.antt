pub mod Covering
pub mod EveryList
mod Fitting
pub mod RegisterFits
pub mod Facts
pub mod Returns
pub mod Demand3
pub mod Demand3Proved
