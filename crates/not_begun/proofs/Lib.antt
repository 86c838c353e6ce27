pub mod NeverOccurs
pub mod MonthText
pub mod NotBegun
