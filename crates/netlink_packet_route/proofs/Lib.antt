pub mod Families
pub mod Names
pub mod Rewritten
pub mod Reported
