-- What the caller of the replay gets: the demands as claims about the call's promise.
pub mod Bench
pub mod Worked
pub mod Grounds
pub mod Stops
pub mod Replies
pub mod Doubt
pub mod Lines
pub mod ShutOut
pub mod Verdict
pub mod Times
pub mod Demands
