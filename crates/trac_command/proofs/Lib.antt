pub mod OneLine
pub mod WrittenLines
pub mod PlaceReads
pub mod Commands
