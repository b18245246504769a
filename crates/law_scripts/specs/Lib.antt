pub mod script_spelling
pub mod script_grammar
pub mod byte_answers
pub mod script_bytes
pub mod Numbers
pub mod Samples
