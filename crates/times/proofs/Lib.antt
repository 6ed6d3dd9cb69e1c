pub mod Writing
pub mod Noting
pub mod Both
pub mod Spelled
