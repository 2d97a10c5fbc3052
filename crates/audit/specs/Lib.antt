pub mod Audit
pub mod Confinement
pub mod Dependence
pub mod Untouched
pub mod Calls
