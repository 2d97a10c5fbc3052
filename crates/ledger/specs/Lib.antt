pub mod Ledger
pub mod Line
pub mod Calls
