pub mod queues
pub mod lines
pub mod pipes
pub mod requests
pub mod answers
pub mod due_at_begin
pub mod quiet
