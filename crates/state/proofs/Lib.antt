pub mod Standing
pub mod Counting
pub mod Places
pub mod Remaining
pub mod Files
pub mod Soundness
