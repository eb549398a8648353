-- The rules: the budgeted run computes the relations.
pub mod Relation
pub mod Calling
