pub mod ArgumentParts
pub mod DistinctForms
pub mod FilledParts
pub mod Filling
pub mod Finding
pub mod FlatLemmas
pub mod Gaps
pub mod HeadCells
pub mod IndexSearch
pub mod Items
pub mod TaggedBorders
pub mod Places
pub mod Searches
pub mod Segments
pub mod TableChanges
pub mod TextBorders
mod Imports
