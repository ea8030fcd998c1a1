pub mod Own
pub mod FirstComers
