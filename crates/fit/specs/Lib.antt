pub mod Finite
pub mod Unit
