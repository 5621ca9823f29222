pub mod Bounded
pub mod Fields
pub mod Halved
pub mod Made
pub mod Products
pub mod Scaled
pub mod Stripped
pub mod Tabled
