pub mod Fits
pub mod Keeping
pub mod Levels
