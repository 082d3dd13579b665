pub mod Blocks
pub mod LineExamples
pub mod Printers
pub mod ScalarLines
pub mod SourceItems
pub mod Tables
pub mod Utf16Lines
