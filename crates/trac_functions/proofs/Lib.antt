pub mod ArgumentLemmas
pub mod BitResults
pub mod CellRanges
pub mod CountLimits
pub mod DigitParts
pub mod FlatLemmas
pub mod FormLemmas
pub mod Fronts
pub mod LongNumbers
pub mod MadeValues
pub mod Names
pub mod PutCharacters
pub mod PutParts
pub mod Ranges
pub mod TakenItems
pub mod TakenParts
mod Imports
