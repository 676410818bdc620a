pub mod Worked
pub mod RunLocal
pub mod WorkedLocal
