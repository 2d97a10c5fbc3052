pub mod Laws
pub mod Holds
pub mod Tally
pub mod Ran
pub mod Logs
