-- The last writing time of each page.
pub mod Times
pub mod Put
