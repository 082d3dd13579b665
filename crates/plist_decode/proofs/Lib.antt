pub mod Children
pub mod NumberRuns
pub mod Contents
pub mod FirstBytes
pub mod Decoding
pub mod Lengths
pub mod Digits
pub mod FaultOffsets
pub mod Heads
pub mod ObjectFronts
pub mod Markers
pub mod UnknownBytes
pub mod Fronts
mod FormatsOfInputs
pub mod Utf16Writing
