-- The desk as the code holds it.
pub mod Desk
