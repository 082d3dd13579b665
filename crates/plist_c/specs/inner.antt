-- What only proofs and private contracts use.
pub mod Filling
pub mod Ordering
pub mod Runs
pub mod Stops
pub mod Writing
