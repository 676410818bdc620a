pub mod Places
pub mod Layout
pub mod Parts
pub mod Models
pub mod Calls
pub mod Reading
pub mod Answers
pub mod Reply
