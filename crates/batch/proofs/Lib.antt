mod Playing
mod Reporting
mod Admitting
mod Counting
mod Determined
mod Fitting
mod Serially
mod Telling
