pub mod Stage1
pub mod Stages
pub mod Ranges
pub mod Ready
pub mod Calls
pub mod Prepared
