-- Programs: the trees of their nodes, and what the check accepts.
pub mod Fit
pub mod Widths
pub mod Trees
pub mod Preorder
pub mod Grows
pub mod Whole
pub mod Passed
pub mod Enclosed
pub mod Inlined
pub mod Accepted
pub mod Admitted
pub mod Size
pub mod Sequence
pub mod Joining
pub mod NodeBytes
