pub mod Lines
pub mod Scripts
pub mod Faults
pub mod Law
