pub mod Signed
pub mod Lists
pub mod Sums
pub mod Fractions
pub mod Rounding
