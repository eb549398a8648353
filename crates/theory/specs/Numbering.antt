-- The published netlist is a circuit of its program, and keeps every rule of a netlist.
pub mod Levels
pub mod Ors
pub mod Structure
pub mod Roots
pub mod Whole
pub mod Flying
pub mod Given
pub mod Uses
pub mod Cellwise
