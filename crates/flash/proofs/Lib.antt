-- Theorems over the flash's rules.
pub mod Bounds
pub mod Worked
pub mod Written
pub mod Laws
pub mod Lost
pub mod Within
pub mod Compared
