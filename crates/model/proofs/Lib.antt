pub mod Basics
pub mod LogLaws
pub mod Follow
pub mod Cases
pub mod Views
pub mod Invariant
pub mod Acts
pub mod Corrections
pub mod Settling
pub mod Closing
mod Stopping
mod Uncorrected
pub mod Whole
pub mod Rows
pub mod Admission
pub mod Lifting
pub mod Calling
pub mod Joining
mod Hearing
pub mod Answering
