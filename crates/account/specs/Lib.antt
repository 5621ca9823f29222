pub mod Orders
pub mod Account
pub mod Begin
pub mod Runs
pub mod Bounds
pub mod Figures
pub mod RefusedCalls
