pub mod AsPrinted
