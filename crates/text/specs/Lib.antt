-- Definitions that the contracts cite beside those of model, and their laws.
pub mod Shown
pub mod Parsing
