pub mod InPlace
pub mod Run
