pub mod lemmas
pub mod CancelLetGo
