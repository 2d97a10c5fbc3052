pub mod Elf
pub mod Layout
pub mod Calls
