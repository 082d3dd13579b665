pub mod ReaderItems
pub mod CollectorRuns
pub mod BufferedItems
pub mod Trees
pub mod ErrorMessages
pub mod CollectorTokens
