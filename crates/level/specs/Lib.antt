pub mod Granule
pub mod Level
