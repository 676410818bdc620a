pub mod LaidLaws
pub mod ListLaws
pub mod SentLaws
pub mod CallLaws
pub mod Unique
pub mod Worked
