pub mod Figures
pub mod Page
pub mod Digits
pub mod Fields
