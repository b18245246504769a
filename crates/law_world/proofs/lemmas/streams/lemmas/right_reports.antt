pub mod Printed
pub mod Named
pub mod Right
pub mod Sampling
