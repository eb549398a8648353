pub mod Table
pub mod Ends
pub mod Times
pub mod Ranges
pub mod Uses
pub mod Roots
pub mod Shape
pub mod Parts
