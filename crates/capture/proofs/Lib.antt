pub mod Lesser
pub mod Searches
pub mod Sparse
pub mod Bytewise
pub mod Spelled
