-- Definitions that the contracts cite beside those of model and compiler.
pub mod Sets
pub mod Walk
