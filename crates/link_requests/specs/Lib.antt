pub mod Names
pub mod Opening
pub mod Lists
pub mod Value
pub mod Values
pub mod Request
pub mod Law
