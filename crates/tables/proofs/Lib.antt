pub mod Extremes
pub mod Allowed
pub mod Counting
pub mod Plains
