-- Records that share a stamp: their orders, and what a control is.
pub mod Orders
pub mod Control
