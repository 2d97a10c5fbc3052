pub mod Ranges
pub mod Counts
pub mod Accesses
pub mod Calls
pub mod Openings
