-- The rules: laws of the budgeted run, that it computes the relation, to which variable a word belongs, and what a statement leaves alone.
pub mod Laws
pub mod Words
pub mod Uses
