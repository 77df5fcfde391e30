pub mod BitResults
pub mod Calls
pub mod Flat
pub mod Taking
