pub mod Files
pub mod Pouring
pub mod Short
pub mod Reporting
pub mod Taken
pub mod Alike
