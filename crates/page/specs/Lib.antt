-- Pages: the chips' geometry, and rolling inside a page.
pub mod Geometry
pub mod Rolling
pub mod Roll
pub mod Laws
