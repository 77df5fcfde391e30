pub mod Buffered
pub mod Characters
pub mod Counted
pub mod Devices
pub mod HeldBytes
pub mod Readers
pub mod Slices
pub mod SliceSinks
