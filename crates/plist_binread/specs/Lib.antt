pub mod References
pub mod Remaining
pub mod Walking
pub mod ObjectEvents
pub mod Tokens
pub mod Step
pub mod Handovers
pub mod BinaryReader
