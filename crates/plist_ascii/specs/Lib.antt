pub mod TokenPrefixes
pub mod Escapes
pub mod Texts
pub mod Ascii
pub mod Unread
pub mod AsciiReader
pub mod inner
