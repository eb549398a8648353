-- The functional netlist keeps every rule of a netlist, and fits.
pub mod Count
pub mod Rows
pub mod Valid
pub mod Compiled
pub mod Accepted
