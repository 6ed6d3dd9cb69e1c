-- Laws of each kind of line, of what is put together and written out, and what follows of them.
pub mod Put
pub mod Two
pub mod FlashLaws
pub mod EepromLaws
pub mod LineLaws
pub mod RecordLaws
pub mod BoardLaws
pub mod OutputLaws
pub mod Whole
pub mod Theorems
pub mod Here
pub mod Counted
pub mod Examples
