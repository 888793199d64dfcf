pub mod Numbers
pub mod Searches
pub mod Sums
pub mod Judging
pub mod Rows
