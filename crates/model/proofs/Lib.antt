pub mod NumberLaws
pub mod Pigeonhole
pub mod NumberedLaws
pub mod PoseLaws
pub mod GoodLaws
pub mod ProductLaws
pub mod PassLaws
pub mod WalkLaws
