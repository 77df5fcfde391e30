pub mod Found
mod Named
pub mod Placed
pub mod Rows
pub mod WatchedRows
pub mod Watching
