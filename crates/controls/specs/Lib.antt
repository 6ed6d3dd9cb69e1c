-- The controls: both chips' and the two lines.
pub mod Play
pub mod Sides
