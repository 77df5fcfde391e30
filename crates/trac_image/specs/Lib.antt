pub mod Buffers
pub mod Fitting
pub mod Image
pub mod Items
pub mod Laws
pub mod Loading
pub mod Pages
pub mod Reading
