pub mod HearingLaws
pub mod Worked
