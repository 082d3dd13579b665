pub mod Objects
pub mod ReadBackFaults
pub mod SmallInputs
pub mod LimitedItems
