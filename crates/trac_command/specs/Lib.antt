pub mod Lines
pub mod Refusals
pub mod Ranges
pub mod CommandLine
