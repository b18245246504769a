pub mod Budgets
pub mod Opens
pub mod Worked
