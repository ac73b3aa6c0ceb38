pub mod Meaning
pub mod Answers
pub mod Checked
pub mod Sums
pub mod Filled
pub mod Plain
pub mod PlainLaws
