pub mod Depth
pub mod Failures
pub mod FirstComma
pub mod NextArgument
mod Imports
pub mod Sources
pub mod ArgumentLengths
pub mod Seen
mod Columns
mod SoughtBytes
pub mod Awaiting
