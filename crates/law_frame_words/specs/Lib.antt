pub mod frame_words
pub mod list_words
