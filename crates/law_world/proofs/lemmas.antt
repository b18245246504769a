pub mod steps
pub mod streams
pub mod memory
pub mod worked_streams
