pub mod FreeWords
pub mod TokenLaws
pub mod QtdLaws
pub mod QhLaws
