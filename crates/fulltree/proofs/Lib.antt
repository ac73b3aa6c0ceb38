pub mod Powers
pub mod Rows
pub mod Mending
pub mod Walks
pub mod Stretches
pub mod Fulls
