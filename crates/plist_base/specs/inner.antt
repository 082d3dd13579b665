-- Definitions that are used by bodies and proofs. Of these, public clauses rely only on `Hashing`.
pub mod Hashing
pub mod Windows
