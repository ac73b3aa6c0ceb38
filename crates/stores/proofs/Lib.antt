pub mod Waits
pub mod Earliest
pub mod Records
pub mod Outcomes
pub mod Shifts
pub mod Finding
