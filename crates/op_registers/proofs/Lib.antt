pub mod Bits
pub mod StatusBits
