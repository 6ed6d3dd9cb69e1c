-- What the callers of the merge and of the second engine get.
pub mod Raw
