pub mod Hcr
pub mod Sctlr
pub mod Tcr
pub mod Vtcr
