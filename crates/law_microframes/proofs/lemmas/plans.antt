pub mod Right
pub mod Apart
pub mod Keys
