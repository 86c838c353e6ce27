pub mod PutIn
pub mod WithoutLosses
