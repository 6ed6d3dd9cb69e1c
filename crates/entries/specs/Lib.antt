-- What `plan` prints, and what the code that prints it promises.
pub mod Printed
pub mod Lines
pub mod Reading
