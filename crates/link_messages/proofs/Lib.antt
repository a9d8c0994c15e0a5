pub mod Messages
pub mod Walking
pub mod Listing
pub mod Visited
pub mod Holds
