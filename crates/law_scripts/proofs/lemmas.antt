pub mod script_spelling
pub mod script_grammar
pub mod byte_answers
pub mod script_bytes
