-- Definitions that the contracts cite beside those of model.
pub mod Writes
pub mod Nodes
pub mod Walk
pub mod Ors
pub mod Whole
