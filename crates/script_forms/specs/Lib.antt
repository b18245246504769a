pub mod Table
pub mod Syntax
pub mod Fitting
pub mod Values
