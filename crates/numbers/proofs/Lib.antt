-- Laws on numbers.
pub mod Differences
pub mod Ranges
pub mod Tests
pub mod Tables
pub mod Products
pub mod Stores
pub mod Signs
pub mod Floors
pub mod Integers
pub mod FloorOrder
