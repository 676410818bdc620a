pub mod Joined
pub mod Models
pub mod Calls
pub mod Written
pub mod Kept
