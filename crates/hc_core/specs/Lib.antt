pub mod Controller
pub mod Parts
