pub mod Steps
pub mod SameWords
