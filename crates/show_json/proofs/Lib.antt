pub mod Documents
pub mod Failures
pub mod Instants
pub mod Sources
pub mod Written
pub mod Joined
pub mod Commands
pub mod Inputs
