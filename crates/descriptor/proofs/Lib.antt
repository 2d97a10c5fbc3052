pub mod Masks
pub mod Imposed
pub mod Turns
