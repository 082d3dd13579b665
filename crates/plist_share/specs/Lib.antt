pub mod SharedFiles
pub mod inner
