pub mod Granules
pub mod Rounded
pub mod Signed
