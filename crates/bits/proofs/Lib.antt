pub mod Tests
pub mod Shifts
