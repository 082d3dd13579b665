pub mod PairColumns
pub mod EntrySteps
pub mod DistinctKeys
pub mod RetainLoop
pub mod Inserts
pub mod ColumnAppends
pub mod TreeEquality
pub mod PairsSame
