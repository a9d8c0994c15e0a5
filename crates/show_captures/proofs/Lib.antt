pub mod Begun
pub mod Inputs
pub mod KnownForm
pub mod Passing
pub mod Printing
