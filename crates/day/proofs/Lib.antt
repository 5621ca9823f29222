pub mod Outcomes
pub mod FromFiles
