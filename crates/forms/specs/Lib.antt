pub mod Fields
pub mod Reads
pub mod Moves
pub mod Judged
pub mod Rows
