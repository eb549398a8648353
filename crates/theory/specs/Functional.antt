-- Document 001's functional circuit of a statement keeps the rules' time and words.
pub mod Merges
pub mod Wiring
pub mod Calm
pub mod Runs
pub mod Sides
pub mod Loops
pub mod Timing
pub mod Structure
pub mod Idle
pub mod Whole
pub mod Promise
pub mod FullRuns
pub mod Refusals
