pub mod Reaching
pub mod Loop
pub mod Ends
