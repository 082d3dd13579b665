-- The words that the contracts of the examples use.
pub mod Settings
pub mod Roots
pub mod Counting
pub mod Generated
pub mod Converting
pub mod Uploads
