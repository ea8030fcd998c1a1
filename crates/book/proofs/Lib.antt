pub mod Bidding
pub mod Kept
pub mod Revalued
pub mod Stepping
pub mod Welfare
