pub mod Lines
pub mod Shown
pub mod CallLines
pub mod Faults
pub mod Largest
