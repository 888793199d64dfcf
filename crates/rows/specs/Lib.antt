pub mod Slots
pub mod Tables
pub mod Bindings
pub mod Lists
pub mod Pools
pub mod Holdings
