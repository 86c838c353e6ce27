pub mod AcctLines
