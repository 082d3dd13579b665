pub mod Expects
pub mod Occurrences
pub mod StoredScalars
pub mod EventTable
pub mod Children
pub mod RepeatedKeys
pub mod EventBuffers
pub mod inner
