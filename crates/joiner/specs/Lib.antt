-- Definitions that the contracts cite beside those of model.
pub mod Lent
pub mod Moving
pub mod Kinds
pub mod Stands
pub mod Gates
