pub mod Blocks
pub mod Bytes
pub mod DigitCounts
pub mod PutTexts
mod Imports
