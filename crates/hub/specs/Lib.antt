-- Definitions that the contracts cite beside those of model.
pub mod Lent
pub mod Circuits
