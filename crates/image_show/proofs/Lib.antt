pub mod Decimals
pub mod Listing
pub mod Marking
pub mod FrameTexts
pub mod Ends
mod Aligned
