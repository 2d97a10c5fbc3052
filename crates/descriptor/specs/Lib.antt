pub mod Entry
pub mod Permission
pub mod Turn
