pub mod Checked
pub mod Ended
pub mod Finished
pub mod FirstPlain
pub mod Loads
pub mod Runs
pub mod Whole
pub mod Words
