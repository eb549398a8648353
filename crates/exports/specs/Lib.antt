-- Definitions that the contracts cite beside those of model.
pub mod Looks
pub mod Writes
