pub mod Unmoved
mod WaitingLists
mod Numbered
mod Taken
mod Midway
mod Serving
mod Growing
pub mod Extending
