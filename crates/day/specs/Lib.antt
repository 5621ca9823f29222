pub mod Days
pub mod Told
pub mod Lent
pub mod Filled
pub mod Sessions
