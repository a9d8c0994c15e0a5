pub mod Printing
pub mod Told
pub mod UntilEnd
pub mod Watched
