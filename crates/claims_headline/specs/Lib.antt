pub mod Due
pub mod Headline
pub mod Pipes
