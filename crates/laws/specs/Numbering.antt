-- The published netlist is a circuit of its program, and keeps every rule of a netlist.
pub mod Cells
pub mod Lengths
pub mod Memories
pub mod Parts
pub mod Arrays
pub mod Count
pub mod Valid
pub mod Compiled
