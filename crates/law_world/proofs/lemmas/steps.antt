pub mod lemmas
pub mod StreamTurning
pub mod Joining
pub mod Spared
pub mod Opening
pub mod Returning
pub mod Beginning
pub mod RowSampling
