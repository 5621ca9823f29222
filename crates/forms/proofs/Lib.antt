pub mod Fronts
pub mod Told
pub mod Turns
pub mod There
pub mod Heads
pub mod Written
pub mod RowTurns
pub mod WrittenRows
