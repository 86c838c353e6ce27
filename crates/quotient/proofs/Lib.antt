pub mod DivCeil
pub mod QuotientBounds
