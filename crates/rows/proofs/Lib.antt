pub mod Truths
pub mod Found
pub mod Sizes
pub mod Figures
pub mod Totals
pub mod Meant
