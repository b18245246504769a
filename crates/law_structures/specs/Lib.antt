pub mod lent_structures
