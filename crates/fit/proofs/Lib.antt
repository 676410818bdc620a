pub mod FiniteLaws
pub mod UnitLaws
pub mod Worked
