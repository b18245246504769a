pub mod Base
pub mod ImageAt
pub mod Text
pub mod Linked
pub mod Shown
pub mod Marks
pub mod Show
pub mod Samples
