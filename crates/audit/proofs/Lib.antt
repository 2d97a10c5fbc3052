pub mod Frames
pub mod Findings
pub mod Dependence
pub mod Confinement
pub mod Untouched
pub mod Calls
pub mod Telling
