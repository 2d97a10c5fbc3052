pub mod Refusals
pub mod Verdicts
pub mod Counts
pub mod Framing
pub mod Entries
pub mod Tried
