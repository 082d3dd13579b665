pub mod Runs
pub mod UnreadBytes
pub mod TokenOutcomes
pub mod Quotes
pub mod Comments
pub mod Items
pub mod Yields
pub mod Texts
pub mod Numbers
pub mod Dialects
pub mod FrontTexts
mod ItemsOfTexts
