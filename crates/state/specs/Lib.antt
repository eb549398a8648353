pub mod Stands
pub mod Crowds
