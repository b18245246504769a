pub mod Words
pub mod Workers
