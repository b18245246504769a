pub mod Counting
pub mod Ring
pub mod Frame
pub mod Events
