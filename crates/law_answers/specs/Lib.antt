pub mod RefusalLaws
pub mod Worked
