pub mod pairs
pub mod boxed
