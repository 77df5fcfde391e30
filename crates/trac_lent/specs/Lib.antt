pub mod Arenas
pub mod Units
