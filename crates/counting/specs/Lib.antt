pub mod Obstacles
pub mod Given
pub mod Counting
pub mod Steps
pub mod Reading
pub mod Runs
pub mod Fairly
pub mod Kept
