pub mod Runs
pub mod Memory
pub mod Free
pub mod Views
pub mod Owners
pub mod Access
