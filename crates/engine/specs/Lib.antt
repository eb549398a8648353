-- Definitions that the contracts cite beside those of engine_laws.
pub mod Lent
