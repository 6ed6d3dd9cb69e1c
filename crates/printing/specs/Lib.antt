-- What is printed of a text and of dumps, and of a capture with the logger's trace.
pub mod Printed
pub mod Joined
pub mod Lending
pub mod Example
pub mod MergePrinted
