-- Why doubt means doubt: of one bit, of a place, along an order, of the call.
pub mod Bits
pub mod OneBit
pub mod Places
pub mod Fetched
pub mod Along
pub mod Free
pub mod ReplyBytes
pub mod Recorded
pub mod Exact
