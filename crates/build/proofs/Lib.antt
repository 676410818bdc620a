pub mod BuildLaws
pub mod Worked
