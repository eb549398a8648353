-- Definitions that the contracts cite beside those of model, and their laws.
pub mod Scanning
pub mod ScanningLaws
