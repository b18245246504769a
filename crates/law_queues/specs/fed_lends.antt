pub mod Numbers
pub mod Streams
pub mod ToLend
pub mod LendLaws
pub mod Accepted
pub mod Commands
