pub mod Charged
pub mod Sizes
pub mod Times
pub mod Uncounted
