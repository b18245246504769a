pub mod Leading
pub mod Decoding
pub mod Walking
pub mod Driving
pub mod Offering
pub mod Ringing
pub mod Answering
pub mod Descriptions
