pub mod Items
pub mod Orders
