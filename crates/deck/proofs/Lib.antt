pub mod Facts
pub mod Kept
pub mod Positions
