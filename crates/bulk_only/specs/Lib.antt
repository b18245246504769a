pub mod Blocks
pub mod Fronts
pub mod Status
pub mod Commands
pub mod Replies
pub mod Contents
pub mod Laws
pub mod Worked
