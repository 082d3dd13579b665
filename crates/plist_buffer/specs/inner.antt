-- Definitions that are used by bodies and proofs, and on which public clauses rely.
pub mod Columns
pub mod Entries
pub mod LongContents
pub mod UnclosedStarts
