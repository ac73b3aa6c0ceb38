pub mod Only
pub mod Cases
