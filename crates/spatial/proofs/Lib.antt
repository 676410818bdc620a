pub mod BoolLaws
pub mod AllLaws
pub mod ListedLaws
pub mod Unique
