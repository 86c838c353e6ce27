pub mod Slices
pub mod Passing
