-- Why a feed gives what is left, and why the first of the least heads is next.
pub mod FeedLaws
pub mod LeastLaws
pub mod PassLaws
pub mod WeaveLaws
pub mod StartLaws
pub mod WovenLaws
