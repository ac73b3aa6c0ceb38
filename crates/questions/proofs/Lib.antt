pub mod Inside
pub mod Begun
pub mod Looks
pub mod Relaxing
pub mod Falls
pub mod Turns
