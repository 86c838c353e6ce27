pub mod ReadBack
pub mod PrintedLines
pub mod DaySums
pub mod DayShown
pub mod EveryReport
