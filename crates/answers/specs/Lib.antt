pub mod InStep
