pub mod CheckLaws
pub mod SumLaws
pub mod When
pub mod LinkSums
pub mod Unique
