pub mod Capture
pub mod Calls
pub mod Sparse
