pub mod Fitting
pub mod Lines
