pub mod Lists
pub mod Records
