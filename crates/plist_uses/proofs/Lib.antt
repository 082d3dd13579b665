pub mod Tallies
pub mod WriterRuns
