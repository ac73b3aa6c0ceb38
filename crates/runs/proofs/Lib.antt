pub mod Stepping
pub mod Runs
pub mod Replaying
pub mod Ample
pub mod Outcome
