pub mod Buffers
pub mod Contents
pub mod Defining
pub mod Fitted
pub mod ImageLaws
pub mod LoadedImages
pub mod Pages
pub mod ReadBack
pub mod Stands
mod Imports
