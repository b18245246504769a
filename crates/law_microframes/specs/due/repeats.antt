pub mod Words
pub mod Hearing
pub mod WordLaws
pub mod RepeatLaws
pub mod Samples
