pub mod HighestSoFar
