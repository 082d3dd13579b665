pub mod BoxedPairs
