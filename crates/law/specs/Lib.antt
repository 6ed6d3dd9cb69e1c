-- Laws that every floor cites; no domain.
pub mod Choice
pub mod Words
pub mod Deciding
pub mod Lists
pub mod Numbers
pub mod Places
pub mod Rest
pub mod Stretch
pub mod Order
pub mod Ordering
