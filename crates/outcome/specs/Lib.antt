pub mod Call
pub mod Refusal
pub mod Figures
pub mod Outcome
pub mod Solved
pub mod When
pub mod Same
