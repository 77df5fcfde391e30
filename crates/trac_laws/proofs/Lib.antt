pub mod Cases
pub mod CharactersCases
pub mod Deeds
pub mod Examples
pub mod Fitting
pub mod Following
pub mod FormsKept
pub mod FunctionsCases
pub mod FurtherInput
pub mod LimitsCases
pub mod Parentheses
pub mod Quoting
pub mod Reached
pub mod ReachedWhileReading
pub mod Rules
pub mod Runs
pub mod ScanningCases
pub mod Shape
pub mod Stepping
pub mod Stores
pub mod TakenInput
pub mod UnreadInput
pub mod Values
mod Imports
mod TableImports
