pub mod FoundSoFar
pub mod Warned
pub mod WatchedRuns
pub mod WrittenBytes
pub mod Rows
