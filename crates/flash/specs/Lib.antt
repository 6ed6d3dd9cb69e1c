-- The flash's rules, as document 01 has them; then what its control keeps and tells.
pub mod Code
pub mod Frame
pub mod Cycle
pub mod Step
pub mod Side
pub mod Good
pub mod Told
