pub mod Orders
pub mod Through
pub mod Parts
