pub mod Line
pub mod Stores
pub mod AcctLoop
