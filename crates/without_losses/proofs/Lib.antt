pub mod Accepted
pub mod PutIn
pub mod OnlyWithout
pub mod WithoutLosses
