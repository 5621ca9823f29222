pub mod Answered
pub mod Bounded
