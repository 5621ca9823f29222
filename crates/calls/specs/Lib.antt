pub mod States
pub mod Accounts
pub mod Begun
pub mod Answers
pub mod Safety
pub mod Blockings
pub mod Told
