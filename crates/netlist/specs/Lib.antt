-- Definitions that the contracts cite beside those of model.
pub mod Offsets
pub mod Scans
pub mod Blocks
pub mod Headers
pub mod Compared
pub mod Left
