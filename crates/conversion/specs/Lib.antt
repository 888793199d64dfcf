pub mod Lists
pub mod Kinds
pub mod Stages
pub mod Counts
pub mod Layouts
pub mod Faults
pub mod Results
pub mod Cases
