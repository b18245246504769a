pub mod Asks
pub mod Prices
pub mod Calls
pub mod Worked
