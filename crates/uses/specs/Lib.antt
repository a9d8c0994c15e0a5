pub mod Ipoib
pub mod Printing
pub mod Reading
pub mod Requests
pub mod Writing
