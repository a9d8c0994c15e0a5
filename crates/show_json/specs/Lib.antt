pub mod Stop
pub mod Place
pub mod Clock
pub mod Line
pub mod Unit
pub mod Form
