-- Document 01, section by section, with the requests of document 02 that are in.
pub mod Account
pub mod Brought
pub mod Member
pub mod Day
pub mod Contribution
pub mod RowNumbers
pub mod Refusals
pub mod Register
pub mod Text
pub mod Lines
