pub mod Names
pub mod AdInfo
pub mod Bond
pub mod LacpState
pub mod BondPort
