pub mod Results
pub mod Meaning
pub mod Writes
pub mod Stored
pub mod Calls
pub mod Fair
pub mod Requests
pub mod Laws
