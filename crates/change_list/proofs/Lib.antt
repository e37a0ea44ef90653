mod Counting
mod Kept
