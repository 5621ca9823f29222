pub mod Layers
pub mod Meanings
pub mod Outcomes
pub mod Soundness
pub mod Strips
pub mod Tables
