pub mod Settings
pub mod Roots
pub mod Ready
pub mod Narrowed
pub mod Starts
