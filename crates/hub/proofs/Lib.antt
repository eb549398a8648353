pub mod Cells
pub mod OnTexts
