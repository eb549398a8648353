pub mod Rooms
pub mod Reading
