mod Numbers
mod Pieces
pub mod Spaced
pub mod Said
pub mod Drafts
pub mod Declares
pub mod Uses
pub mod Devices
pub mod Texts
