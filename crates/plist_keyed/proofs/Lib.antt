pub mod Replaced
pub mod KeysKept
pub mod Settled
pub mod Checks
pub mod StoredChecks
pub mod WalkSteps
pub mod WalkValues
mod TreesOfArchives
