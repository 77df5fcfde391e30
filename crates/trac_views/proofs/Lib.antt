pub mod Texts
pub mod ShownTexts
pub mod LargestTold
pub mod Folded
