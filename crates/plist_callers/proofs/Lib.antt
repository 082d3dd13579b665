pub mod SmallInputs
pub mod Failures
pub mod LimitedReaders
