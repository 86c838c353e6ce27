pub mod Before
pub mod FinerShares
