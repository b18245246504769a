pub mod Input
pub mod Codes
pub mod Ends
