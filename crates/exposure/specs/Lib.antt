pub mod AccountRanges
pub mod Scenario
pub mod Tally
pub mod GroupRows
pub mod MemberCut
pub mod AccountsIn
pub mod DayFigures
