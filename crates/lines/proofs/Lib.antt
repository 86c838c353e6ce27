pub mod Ends
pub mod RowOfLine
pub mod Ascii
pub mod FormsAsRows
pub mod Words
pub mod Readers
