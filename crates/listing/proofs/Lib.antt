pub mod Written
pub mod Numbers
