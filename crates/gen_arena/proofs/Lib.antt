pub mod Places
pub mod Changes
pub mod FreeLemmas
pub mod CallLemmas
