pub mod Refusals
pub mod Codes
pub mod Texts
pub mod Kinds
