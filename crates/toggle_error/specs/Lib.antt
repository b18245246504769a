pub mod Columns
pub mod PlainRows
pub mod SplitRows
pub mod Settle
pub mod Worked
pub mod Halts
