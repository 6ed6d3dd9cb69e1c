-- What feeds give, and several of them in one order.
pub mod Feeding
pub mod Weaving
