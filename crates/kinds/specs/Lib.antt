pub mod Filled
pub mod Formats
