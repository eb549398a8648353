-- A netlist's equations have one solution, and its values are words.
pub mod Exists
pub mod Bounds
