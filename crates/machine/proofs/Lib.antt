pub mod Playing
pub mod Memory
pub mod FlashWritten
pub mod EepromWritten
pub mod EachCycle
