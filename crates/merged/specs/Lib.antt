-- What the merge promises, and the merged text: its length, then its lines.
pub mod Merging
pub mod Writing
