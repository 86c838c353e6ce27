pub mod FinerShares
