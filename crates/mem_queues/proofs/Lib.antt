pub mod OneBlock
pub mod WriteBack
