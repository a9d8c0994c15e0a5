pub mod Arguments
pub mod Run
