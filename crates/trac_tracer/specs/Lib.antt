pub mod Last
pub mod Odd
pub mod Recorded
pub mod ShownCalls
pub mod ShownRuns
