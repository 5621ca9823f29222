pub mod Margins
pub mod Small
