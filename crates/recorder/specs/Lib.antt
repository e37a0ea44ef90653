pub mod Logs
pub mod Recording
