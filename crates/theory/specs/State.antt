-- The bytes of a state hold that solution.
pub mod Wires
pub mod Arrays
pub mod Holding
pub mod Counters
pub mod Flight
pub mod Step
pub mod Begin
pub mod Sound
pub mod Running
pub mod Past
pub mod OneRun
