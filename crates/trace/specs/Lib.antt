-- What is said of the call of a printer.
pub mod Trace
