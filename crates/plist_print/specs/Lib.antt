pub mod EscapedLines
pub mod Utf16Lines
pub mod Printing
pub mod Printers
pub mod PrintRuns
