-- Lemmas of the proofs.
pub mod Held
pub mod Ordered
pub mod Limited
pub mod Filled
pub mod ReaderItems
pub mod Pushing
