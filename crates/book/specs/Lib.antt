pub mod Refusals
pub mod Model
pub mod Limits
pub mod Checks
pub mod Runs
pub mod Views
