-- Refusals: laws of the first one, and demand 1.
pub mod Laws
pub mod Search
