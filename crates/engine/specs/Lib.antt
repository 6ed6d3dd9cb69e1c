-- What the second engine promises.
pub mod Playing
pub mod Straight
