-- Definitions that are used by bodies and proofs. Of these, public clauses rely only on
-- `BuilderSteps` and `DeferredPairs`.
pub mod BuilderSteps
pub mod Weights
pub mod DeferredPairs
pub mod CollectionSteps
