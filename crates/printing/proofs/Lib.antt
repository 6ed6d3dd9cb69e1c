-- Why what is printed is what the call left.
pub mod Front
pub mod Replies
pub mod Numbers
pub mod Pages
pub mod Shown
pub mod Says
pub mod Joined
pub mod Dumped
pub mod One
pub mod Lent
pub mod Some
pub mod MergeLaws
pub mod OneMerge
pub mod Example
pub mod StopExample
pub mod RefusedExample
pub mod WrittenExample
