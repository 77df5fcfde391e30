pub mod ByteSearch
pub mod Places
pub mod Calls
pub mod Changes
pub mod Sources
