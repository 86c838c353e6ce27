mod SameEul
mod EveryOrder
pub mod AnyOrder
