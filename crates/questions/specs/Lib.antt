pub mod Checks
pub mod Looking
pub mod Asking
