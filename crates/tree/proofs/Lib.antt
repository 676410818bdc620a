pub mod SweepLaws
pub mod WayLaws
pub mod LocalLaws
pub mod Locality
pub mod Worked
