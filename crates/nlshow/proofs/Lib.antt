pub mod Greatest
pub mod Sources
