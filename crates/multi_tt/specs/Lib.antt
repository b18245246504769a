pub mod Translators
pub mod Single
pub mod Calls
pub mod Played
pub mod Laws
pub mod Worked
