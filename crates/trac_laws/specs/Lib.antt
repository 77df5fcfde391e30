pub mod Balance
pub mod Columns
pub mod Fitting
pub mod LastRead
pub mod Laws
pub mod StateAfter
pub mod Stepping
