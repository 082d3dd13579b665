pub mod Commands
pub mod Archives
pub mod Converting
pub mod CollectorSteps
