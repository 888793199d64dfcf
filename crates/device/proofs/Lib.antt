pub mod Kindly
pub mod Below
pub mod Counted
pub mod Ordered
