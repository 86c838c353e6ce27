pub mod SameBytes
pub mod Fronts
pub mod DigitsRead
pub mod OneValue
pub mod Signs
pub mod KindLetters
pub mod RowRead
