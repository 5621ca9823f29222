pub mod Passed
pub mod Places
pub mod Positions
pub mod Sizes
