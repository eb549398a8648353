pub mod Rings
pub mod Showing
pub mod ByKind
pub mod Cells
pub mod Evaluating
pub mod Ends
pub mod Collecting
pub mod Calling
