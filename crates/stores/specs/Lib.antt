pub mod Holding
pub mod Waits
pub mod Rows
pub mod Loose
pub mod LooseLaws
