pub mod Leaves
pub mod Tree
pub mod Full
pub mod FullLaws
