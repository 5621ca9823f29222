pub mod Found
pub mod Numbered
pub mod Reduced
