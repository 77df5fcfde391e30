pub mod DigitBits
pub mod DigitsFromEnd
pub mod Forward
pub mod LongNumbers
pub mod OctalDigits
pub mod Shifts
pub mod SuffixCells
pub mod Suffixes
pub mod Texts
pub mod TwoParts
mod Imports
