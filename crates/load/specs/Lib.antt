pub mod Days
pub mod Reading
pub mod Loading
pub mod Used
pub mod Writing
pub mod Sessions
