pub mod Batch
pub mod Promises
pub mod Calls
