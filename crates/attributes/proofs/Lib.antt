pub mod Classes
pub mod Ranks
