pub mod Answers
pub mod Refusals
pub mod Question
pub mod Counts
pub mod Framing
pub mod Entries
