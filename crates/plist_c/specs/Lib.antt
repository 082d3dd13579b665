-- What crosses to C, and what a call of C says.
pub mod Numbers
pub mod Flat
pub mod Outcomes
pub mod Rooms
pub mod Reading
pub mod Records
pub mod Files
pub mod inner
