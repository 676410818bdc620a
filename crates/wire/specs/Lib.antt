pub mod Big
pub mod Placed
pub mod Fill
