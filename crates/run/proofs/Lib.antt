mod Reaching
mod Requested
mod Settling
