pub mod Put
pub mod Prints
