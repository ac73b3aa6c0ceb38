pub mod Orders
pub mod Calls
pub mod Progress
