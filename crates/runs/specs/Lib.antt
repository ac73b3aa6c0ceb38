pub mod Law
pub mod Replay
