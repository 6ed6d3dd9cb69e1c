-- What is claimed of trying the controls alone, and of the pages' times.
pub mod Enough
pub mod NoOwn
