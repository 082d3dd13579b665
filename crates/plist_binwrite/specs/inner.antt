-- Definitions that are used by bodies and proofs, but by no public clause.
pub mod Layout
pub mod Numbering
