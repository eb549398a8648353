-- What the engine's functions go by: what a state shows and how an instant moves it; then the engine's own structures; then how its buffers go with it.
pub mod View
pub mod Bytes
pub mod Chunks
pub mod Sets
pub mod Wheel
pub mod Lines
pub mod Fanout
pub mod Decoded
pub mod Idle
pub mod Buffers
pub mod Jumps
pub mod Words
pub mod Tables
pub mod Pulses
pub mod Sums
