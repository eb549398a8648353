-- Netlist files are read as they were written.
pub mod Uses
pub mod Passed
pub mod Arrays
pub mod CellBytes
pub mod RunningSum
pub mod Blocks
pub mod Files
pub mod ReadWrite
pub mod ByCells
pub mod Compiled
