-- Laws of lists.
pub mod Writes
pub mod Same
