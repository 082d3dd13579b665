pub mod Archives
pub mod inner
