pub mod AnnexB
pub mod Assembly
pub mod Cvf
pub mod Packets
pub mod Settled
pub mod StretchRules
pub mod WholeOrBroken
pub mod state
