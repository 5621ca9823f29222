pub mod Families
pub mod Parts
pub mod Rows
pub mod Tables
pub mod Scenes
pub mod Outcomes
