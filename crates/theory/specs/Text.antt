-- Programs as text: the reader's steps, that it finds every reading and nothing else, that there is at most one, and what the calls promise.
pub mod Parts
pub mod Found
pub mod OneReading
pub mod Open
pub mod Stands
pub mod Sound
pub mod Bytes
pub mod Numerals
pub mod Limits
pub mod Order
pub mod Readings
