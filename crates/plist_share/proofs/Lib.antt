pub mod Meaning
pub mod Parsing
pub mod Least
pub mod ClassTrees
pub mod TreeEquality
pub mod DistinctSubtrees
pub mod SharedFilesOfTrees
