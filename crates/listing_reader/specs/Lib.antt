pub mod Parts
pub mod Ends
pub mod Heads
pub mod Programs
pub mod Drafts
pub mod Entries
pub mod Taking
