pub mod NeverOccurs
pub mod NotBegun
