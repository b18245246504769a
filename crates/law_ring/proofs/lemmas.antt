pub mod walk_writes
