-- What the theorems of `orders` cite.
pub mod Order
