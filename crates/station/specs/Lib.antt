pub mod Text
pub mod Edit
pub mod Report
pub mod Station
