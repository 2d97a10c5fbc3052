pub mod Promises
pub mod Telling
