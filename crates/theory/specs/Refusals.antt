-- Refusals: laws of the first one, and demand 1.
pub mod Order
pub mod Crowding
pub mod Demand
