-- Laws of readers' answers, of a line's fields, of each kind of field, and of what is put together from fields.
pub mod Reading
pub mod Answers
pub mod FieldLaws
pub mod Sequence
pub mod DecimalLaws
pub mod HexLaws
pub mod WordLaws
pub mod DigitLaws
pub mod SpellingLaws
pub mod Theorems
