pub mod Better
pub mod Filters
pub mod ShownBidders
pub mod TwoRules
