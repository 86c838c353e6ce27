pub mod Dailies
pub mod Contributions
pub mod RawCharge
mod Charges
pub mod Cover
