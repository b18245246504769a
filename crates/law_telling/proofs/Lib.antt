pub mod Bytes
pub mod Tokens
pub mod Lines
pub mod Lengths
pub mod Still
pub mod Passing
pub mod PassingSamples
pub mod Common
