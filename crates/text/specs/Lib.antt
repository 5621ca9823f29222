pub mod Numbers
pub mod Writing
pub mod Shape
pub mod Grammar
