pub mod Decimals
pub mod Pairs
pub mod Ends
