pub mod Cards
pub mod Checks
pub mod Halves
pub mod Judging
pub mod Refusals
