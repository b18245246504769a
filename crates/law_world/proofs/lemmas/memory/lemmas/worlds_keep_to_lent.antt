pub mod Turning
pub mod Addresses
pub mod Standing
pub mod Moments
