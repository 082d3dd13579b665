pub mod formers
pub mod Keys
pub mod Lends
pub mod Bulk
pub mod TreeEquality
