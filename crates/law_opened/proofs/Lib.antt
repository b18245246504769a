pub mod Below
pub mod Declared
pub mod Opened
pub mod RootTakers
pub mod Sampling
