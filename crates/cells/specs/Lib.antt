pub mod Books
pub mod Countings
pub mod Empty
pub mod Grids
pub mod Shares
